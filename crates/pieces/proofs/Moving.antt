-- A run of lines and the line behind it; and as far as a batch has come, run after run and line after line.
-- Assumes nothing.
use mathlib.Core.Path.{◌≡◌, refl, sym, ap, ◌∙◌}
use mathlib.Core.List.{List, [], ◌++◌, append_assoc}
use mathlib.Core.Bool.{Bool, true, false, ◌&&◌}
use Prim.Native.Nat.{ℕ, ◌+◌, ◌-◌, ◌*◌, ◌<◌, ◌≤◌}
use native.Mathlib.Omega.{arith}
use lib.Dec.{leb, ltb}
use lib.ListN.{length, take, length-take}
use lib.Seq.{take_all}
use borrow.Author.Tests.{ltb-true, ltb-false, leb-true, leb-false}
use Rattle.text.specs.Byte.{Bytes}
use Rattle.text.proofs.Truth.{and_left, and_right}
use Rattle.lines.specs.Line.{kept_limit}
use Rattle.lines.specs.End.{between}
use Rattle.lines.proofs.Ends.{between-add}
use Rattle.cell.specs.Layout.{Words}
use Rattle.report.specs.declared.Entry.{Entry}
use Rattle.plain.specs.Rows.{rules_of}
use Rattle.plain.specs.Table.{load_all}
use Rattle.plain.specs.Loader.{Scan, scan, scan_to}
use Rattle.plain.proofs.Few.{few-scan}
use Rattle.records.specs.declared.Parts.{Parts}
use Rattle.units.specs.declared.Stepped.{Stepped}
use Rattle.units.specs.Answer.{unit_of, told, judged_if, Reads}
use Rattle.units.specs.declared.Unit.{Unit as KeptUnit}
use Rattle.runs.specs.declared.Passed.{Passed}
use Rattle.runs.specs.Run.{Passes}
use Rattle.pieces.specs.declared.Scan.{Scan as KeptScan}
use Rattle.pieces.specs.declared.line.Moved.{Moved}
use Rattle.pieces.specs.Ran.{scan_of, Ran, Holds, told_in, Moves, batch_size, most_said, Runs}
use Rattle.pieces.proofs.Running.{ran-both, ran-none}

-- ---- A RUN

module _ (s : KeptScan) (piece : Bytes) (at : ℕ) (h : Holds s (length piece - at)) where
  module _ (reg : Bytes) (q : Passed KeptUnit) (parts : Parts) (t : Words) (p : Passes s.unit s.lines s.held piece at s.parts q parts) (next : Stepped)
      (j : Reads (judged_if q.all reg q.lines (unit_of q.unit parts)) (unit_of next.unit parts) (told next.said)) where
    -- behind the run
    abbrev ran-by : KeptScan
    ran-by = record { kept = s.kept; held = s.held; lines = q.lines; unit = next.unit; parts = parts }

    to_is : scan_to (rules_of reg) (scan_of s) (between at q.at piece) ≡ scan_of ran-by
    to_is = p.reaches reg s.kept ∙ ap (λ u. scan (take s.held s.kept) q.lines u) (sym j.leaves)

    pub run_ran : Ran (rules_of reg) (scan_of s) (between at q.at piece) (scan_of ran-by) (told next.said) t t
    unfolding load_all
    run_ran =
        let short : length (take s.held s.kept) ≤ kept_limit = omega (arith, length-take s.held s.kept, h.few) in
        record {
          reaches = rw to_is (ap (λ k. scan k q.lines (unit_of next.unit parts)) (sym (take_all kept_limit (take s.held s.kept) short)));
          tells = record { entered = rw (p.tells reg s.kept) j.entered; loads = rw (p.tells reg s.kept, j.none) };
        }

    pub run_holds : Holds ran-by (length piece - q.at)
    run_holds =
        record {
          few = h.few;
          whole = h.whole;
          details = rw (ap (λ x. x.unit) to_is) at (few-scan reg (scan_of s) (between at q.at piece) h.details);
          fits = p.fits.fits;
        }

-- ---- A BATCH

-- as far as a batch has come
pub record Comes (reg : Bytes) (from : Scan) (piece : Bytes) (at next : ℕ) (s : KeptScan) (before after : Words) (batch : List Entry) : Type 0 where
  pub behind : at ≤ next
  pub within : next ≤ length piece
  pub holds : Holds s (length piece - next)
  pub ran : Ran (rules_of reg) from (between at next piece) (scan_of s) batch before after

pub comes_first : (reg : Bytes) (s : KeptScan) (t : Words) (piece : Bytes) (at : ℕ)
    → Holds s (length piece - at) → at ≤ length piece
    → (batch : List Entry) → batch ≡ [] → Comes reg (scan_of s) piece at at s t t batch
comes_first reg s t piece at h within batch empty =
    let z : at - at ≡ 0 = omega arith in
    record { behind = omega arith; within = within; holds = h; ran = rw (z, empty) (ran-none (rules_of reg) s t h.few) }

module _ (reg : Bytes) (from : Scan) (piece : Bytes) (at next : ℕ) (s : KeptScan) (before after : Words) (batch : List Entry)
    (c : Comes reg from piece at next s before after batch) where
  comes_by : (next' : ℕ) (s' : KeptScan) (after' : Words) (es : List Entry) → next ≤ next' → next' ≤ length piece
      → Holds s' (length piece - next') → Ran (rules_of reg) (scan_of s) (between next next' piece) (scan_of s') es after after'
      → Comes reg from piece at next' s' before after' (batch ++ es)
  comes_by next' s' after' es behind within holds ran =
      record {
        behind = omega (arith, c.behind);
        within = within;
        holds = holds;
        ran =
            rw (between-add piece at next next' c.behind behind)
            (ran-both reg _ _ _ (between at next piece) (between next next' piece) batch es before after after' c.ran ran);
      }

  -- a run of lines, and what is said behind it
  pub comes_run : (q : Passed KeptUnit) (parts : Parts) → Passes s.unit s.lines s.held piece next s.parts q parts → (step : Stepped)
      → Reads (judged_if q.all reg q.lines (unit_of q.unit parts)) (unit_of step.unit parts) (told step.said)
      → Comes reg from piece at q.at (record { kept = s.kept; held = s.held; lines = q.lines; unit = step.unit; parts = parts }) before after
      (batch ++ told step.said)
  comes_run q parts p step j =
      comes_by q.at (record { kept = s.kept; held = s.held; lines = q.lines; unit = step.unit; parts = parts }) after (told step.said) p.behind p.fits.within
      (run_holds s piece next c.holds reg q parts after p step j) (run_ran s piece next c.holds reg q parts after p step j)

  -- a line, or what the piece has of it
  pub comes_line : (m : Moved) (s' : KeptScan) (after' : Words) → Moves reg (scan_of s) piece next m s' after after'
      → Comes reg from piece at m.at s' before after' ((batch ++ told m.first) ++ told m.second)
  comes_line m s' after' v =
      rw (append_assoc batch (told m.first) (told m.second)) (comes_by m.at s' after' (told_in m) v.behind v.within v.holds v.ran)

  pub comes_end : (n : ℕ) → n ≡ length batch → (b : Bool) → b ≡ (ltb next (length piece) && leb (n + most_said) batch_size) → b ≡ false
      → length batch ≤ most_said * (next - at) → Runs reg from piece at next s before after batch
  comes_end n is b e h moves =
      record {
        behind = c.behind;
        moved = λ more. moves_on (ltb next (length piece)) refl (leb (n + most_said) batch_size) refl (sym e ∙ h) more;
        within = c.within;
        holds = c.holds;
        ran = c.ran;
      }
    where
      moves_on : (p : Bool) → ltb next (length piece) ≡ p → (q : Bool) → leb (n + most_said) batch_size ≡ q → (p && q) ≡ false
          → at < length piece → at < next
      moves_on false f q g z more = omega (arith, ltb-false next (length piece) f)
      moves_on true f false g z more = omega (arith, leb-false (n + most_said) batch_size g, moves, is)
      moves_on true f true g z more = absurd (let y : ◌≡◌ {A = ℕ} 0 1 = cc in omega arith)

pub goes_true : (at len count : ℕ) (b : Bool) → b ≡ (ltb at len && leb (count + most_said) batch_size) → b ≡ true → (at < len) × (count + most_said ≤ batch_size)
goes_true at len count b e h =
    let t : (ltb at len && leb (count + most_said) batch_size) ≡ true = sym e ∙ h in (
      ltb-true at len (and_left (ltb at len) (leb (count + most_said) batch_size) t),
      leb-true (count + most_said) batch_size (and_right (ltb at len) (leb (count + most_said) batch_size) t),
    )

-- a run and the line behind it move
pub further : (at q m len : ℕ) → at < len → at ≤ q → q ≤ m → (q < len → q < m) → at < m
further at q m len more a b moved = go (ltb q len) refl
  where
    go : (t : Bool) → ltb q len ≡ t → at < m
    go true e = omega (arith, moved (ltb-true q len e))
    go false e = omega (arith, ltb-false q len e)
