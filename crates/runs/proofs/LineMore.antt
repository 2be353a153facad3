-- A line more behind some bytes of a piece, as a step of the scan; and the rows of a record, one line after the other.
-- Assumes nothing.
use mathlib.Core.Path.{◌≡◌, refl, sym, ap, ◌∙◌}
use mathlib.Core.List.{[], ◌∷◌, ◌++◌}
use mathlib.Core.Bool.{Bool, true, false}
use Prim.Native.Nat.{ℕ, suc, ◌+◌, ◌-◌, ◌<◌, ◌≤◌}
use native.Mathlib.Numerals.{add-one}
use native.Mathlib.Omega.{arith}
use lib.ListN.{length}
use Rattle.text.specs.Byte.{Bytes}
use Rattle.text.proofs.Truth.{apart}
use Rattle.lines.specs.Line.{LF, kind_of, ended_line}
use Rattle.lines.specs.End.{between, LineEnd, LineAt, EmptyAt}
use Rattle.lines.proofs.Ends.{between-add, line-between}
use Rattle.plain.specs.Rows.{Rules, header_rows, max_details, rules_of}
use Rattle.plain.specs.Loader.{OpenUnit, takes_rows, Step, Scan, scan, step_kind, step_line, scan_to, scan_events}
use Rattle.plain.proofs.LineScan.{line-scan-to, line-scan-events}
use Rattle.plain.proofs.Pieces.{scan_to-append, scan_events-append}
use Rattle.records.specs.declared.Progress.{Progress}
use Rattle.records.specs.declared.Parts.{Parts}
use Rattle.records.specs.Answer.{rows_of, Few}
use Rattle.runs.specs.declared.Passed.{Passed}
use Rattle.runs.specs.declared.rows.Taken.{Taken}
use Rattle.runs.specs.Run.{went_by, FitsFrom, with_read, Took, RowsRan}

-- ---- A LINE

-- by its LF
pub line_at : (piece : Bytes) (at end : ℕ) → LineEnd piece at end → end < length piece → LineAt piece at (end - at + 1)
line_at piece at end h inside =
    let e : at + (end - at + 1 - 1) ≡ end = omega (arith, h.none.behind) in
    record {
      some = omega arith;
      within = omega (arith, h.none.behind);
      ends = rw e (h.ends inside);
      clean = rw e h.none.clean;
    }

-- an empty one does nothing
pub empty-step : (R : Rules) (piece : Bytes) (at size : ℕ) → EmptyAt piece at size → (n : ℕ) (u : OpenUnit)
    → step_line R n (ended_line (between at (at + (size - 1)) piece)) u ≡ record { unit = u; events = [] }
unfolding step_line ended_line step_kind kind_of
empty-step R piece at size h n u = rw h.empty

-- one more, behind some bytes of the piece
module _ (R : Rules) (from : Scan) (piece : Bytes) (at e size : ℕ) (behind : at ≤ e) (line : LineAt piece e size) (n : ℕ) (u : OpenUnit)
    (to : scan_to R from (between at e piece) ≡ scan [] n u) (s : Step)
    (step : step_line R (suc n) (ended_line (between e (e + (size - 1)) piece)) u ≡ s) where
  part : between at (e + size) piece ≡ between at e piece ++ (between e (e + (size - 1)) piece ++ (LF ∷ []))
  part = between-add piece at e (e + size) behind (omega arith) ∙ ap (λ b. between at e piece ++ b) (line-between piece e size line)

  pub more-to : scan_to R from (between at (e + size) piece) ≡ scan [] (suc n) s.unit
  more-to =
      rw (part, scan_to-append R from (between at e piece) (between e (e + (size - 1)) piece ++ (LF ∷ [])), to)
      (line-scan-to R n u [] (between e (e + (size - 1)) piece) line.clean ∙ rw step)

  pub more-events : scan_events R from (between at e piece) ≡ [] → scan_events R from (between at (e + size) piece) ≡ s.events
  more-events quiet =
      rw (part, scan_events-append R from (between at e piece) (between e (e + (size - 1)) piece ++ (LF ∷ [])), quiet, to)
      (line-scan-events R n u [] (between e (e + (size - 1)) piece) line.clean ∙ rw step)

-- ---- ROWS

pub rows-begin : (p : Progress) (lines : ℕ) (piece : Bytes) (at : ℕ) (parts : Parts) → Few p → FitsFrom lines piece at
    → RowsRan p lines piece at parts (went_by p lines at) parts
unfolding scan_to scan_events
rows-begin p lines piece at parts few fits =
    let z : at - at ≡ 0 = omega arith in
    record {
      id = refl;
      behind = omega arith;
      few = few;
      fits = fits;
      reaches = λ reg first. rw z;
      tells = λ reg first. rw z;
    }

-- a line more
pub rows_more : (p : Progress) (lines : ℕ) (piece : Bytes) (at : ℕ) (before : Parts) (u : Progress) (n e : ℕ) (parts : Parts)
    → RowsRan p lines piece at before (went_by u n e) parts
    → (all : Bool) (t : Taken) (after : Parts) → u.read + t.rows ≤ header_rows + max_details → Took all u piece e parts t after
    → RowsRan p lines piece at before (record { unit = with_read u (u.read + t.rows); lines = n + 1; at = e + t.size; all = all }) after
rows_more p lines piece at before u n e parts inv all t after few took =
    record {
      id = took.id ∙ inv.id;
      behind = omega (arith, inv.behind);
      few = few;
      fits = record { within = took.line.within; fits = omega (arith, inv.fits.fits, took.line.within, took.line.some) };
      reaches = λ reg first.
          rw (add-one n)
          (more-to (rules_of reg) (from first) piece at e t.size inv.behind took.line n (held first) (inv.reaches reg first) _ (took.step reg first (suc n)));
      tells = λ reg first.
          rw (add-one n)
          (more-events (rules_of reg) (from first) piece at e t.size inv.behind took.line n (held first) (inv.reaches reg first) _ (took.step reg first (suc n)) (inv.tells reg first));
    }
  where
    from : (first : ℕ) → Scan
    from first = scan [] lines (takes_rows first (rows_of p before))

    held : (first : ℕ) → OpenUnit
    held first = takes_rows first (rows_of u parts)

-- none of them is the day's last
pub rows_left : (p : Progress) (lines : ℕ) (piece : Bytes) (at : ℕ) (before : Parts) (r : Passed Progress) (parts : Parts)
    → RowsRan p lines piece at before (went_by r.unit r.lines r.at) parts → r.all ≡ false → RowsRan p lines piece at before r parts
rows_left p lines piece at before r parts ran more = go r.all more
  where
    go : (b : Bool) → b ≡ false → RowsRan p lines piece at before (record { unit = r.unit; lines = r.lines; at = r.at; all = b }) parts
    go true e = absurd (apart (sym e))
    go false e = ran

-- rows, and then others behind them
pub rows_then : (p : Progress) (lines : ℕ) (piece : Bytes) (at : ℕ) (before : Parts) (r : Passed Progress) (parts : Parts)
    → RowsRan p lines piece at before r parts → r.all ≡ false → (q : Passed Progress) (after : Parts)
    → RowsRan r.unit r.lines piece r.at parts q after → RowsRan p lines piece at before q after
rows_then p lines piece at before r parts a more q after b =
    record {
      id = b.id ∙ a.id;
      behind = omega (arith, a.behind, b.behind);
      few = b.few;
      fits = b.fits;
      reaches = λ reg first. rw (part, scan_to-append (rules_of reg) (from first) (between at r.at piece) (between r.at q.at piece), to reg first) (b.reaches reg first);
      tells = λ reg first.
          rw (part, scan_events-append (rules_of reg) (from first) (between at r.at piece) (between r.at q.at piece), to reg first, none reg first) (b.tells reg first);
    }
  where
    part : between at q.at piece ≡ between at r.at piece ++ between r.at q.at piece
    part = between-add piece at r.at q.at a.behind b.behind

    from : (first : ℕ) → Scan
    from first = scan [] lines (takes_rows first (rows_of p before))

    to : (reg : Bytes) (first : ℕ) → scan_to (rules_of reg) (from first) (between at r.at piece) ≡ scan [] r.lines (takes_rows first (rows_of r.unit parts))
    to reg first = a.reaches reg first ∙ rw more

    none : (reg : Bytes) (first : ℕ) → scan_events (rules_of reg) (from first) (between at r.at piece) ≡ []
    none reg first = a.tells reg first ∙ rw more
