-- A line by a look for its end: what is read or kept of it does what the plain loader's scan does over the same bytes.
-- Assumes nothing.
use mathlib.Core.Path.{◌≡◌, refl, sym, ap, ◌∙◌}
use mathlib.Core.List.{[], ◌∷◌, ◌++◌}
use mathlib.Core.Bool.{Bool, true, false, cond}
use Prim.Native.Nat.{ℕ, suc, ◌+◌, ◌-◌, ◌<◌, ◌≤◌}
use native.Mathlib.Numerals.{add-one}
use native.Mathlib.Omega.{arith}
use lib.Dec.{eqb}
use lib.ListN.{length, take}
use lib.Seq.{take-take}
use borrow.Author.Tests.{eqb-true, eqb-false}
use Rattle.std.specs.Prelude.{None}
use Rattle.text.specs.Byte.{Bytes}
use Rattle.lines.specs.Line.{LF, ended_line, kept_limit}
use Rattle.lines.specs.End.{between, NoneTo, LineEnd}
use Rattle.lines.proofs.Ends.{with_lf}
use Rattle.cell.specs.Layout.{Words}
use Rattle.plain.specs.Rows.{Rules, max_details, rules_of}
use Rattle.plain.specs.Table.{load_all}
use Rattle.plain.specs.Loader.{OpenUnit, scan, step_line, byte_to, byte_events, scan_to, entries_of, loads_of}
use Rattle.plain.specs.Promise.{details_in}
use Rattle.plain.proofs.Few.{few-scan}
use Rattle.plain.proofs.Kept.{Alike, AlikeScan, byte_alike, byte_events_alike}
use Rattle.plain.proofs.LineScan.{kept-scan-to, kept-scan-events, line-scan-to, line-scan-events}
use Rattle.plain.proofs.Rules.{lawful}
use Rattle.records.specs.declared.Parts.{Parts}
use Rattle.units.specs.declared.LineRead.{LineRead}
use Rattle.units.specs.Answer.{unit_of, told_by, Does}
use Rattle.pieces.specs.declared.Scan.{Scan as KeptScan}
use Rattle.pieces.specs.declared.line.Moved.{Moved}
use Rattle.pieces.specs.Ran.{scan_of, Holds, Moves}

-- where none is, the piece's end is the end of what there is of the line
pub no_end : (piece : Bytes) (at : ℕ) → NoneTo piece at (length piece) → LineEnd piece at (length piece)
no_end piece at h = record { none = h; ends = λ g. absurd (omega (arith, g)) }

-- from a place of a piece
module _ (reg : Bytes) (s : KeptScan) (piece : Bytes) (at : ℕ) (before : Words) (H : Holds s (length piece - at)) (end : ℕ) (E : LineEnd piece at end) where
  abbrev R : Rules
  R = rules_of reg

  abbrev u : OpenUnit
  u = unit_of s.unit s.parts

  -- the line so far
  abbrev line : Bytes
  line = take s.held s.kept ++ between at end piece

  -- no LF: the bytes are kept
  pub kept_moves : (n : ℕ) (kept : Bytes) → end ≡ length piece → take n kept ≡ take kept_limit line → n ≤ kept_limit → length kept ≡ kept_limit
      → Moves reg (scan_of s) piece at (record { at = end; first = None; second = None })
      (record { kept = kept; held = n; lines = s.lines; unit = s.unit; parts = s.parts }) before before
  unfolding entries_of loads_of load_all
  kept_moves n kept e k few long =
      record {
        behind = E.none.behind;
        moved = λ more. omega (arith, more);
        within = E.none.within;
        holds = record { few = few; whole = omega (arith, long); details = H.details; fits = omega (arith, H.fits) };
        ran = record {
          reaches = rw (kept-scan-to R s.lines u (take s.held s.kept) (between at end piece) E.none.clean) (ap (λ b. scan b s.lines u) k);
          tells = rw (kept-scan-events R s.lines u (take s.held s.kept) (between at end piece) E.none.clean) (record { entered = refl; loads = refl });
        };
      }

  -- an LF: what was read of the line does what the line does
  module _ (r : LineRead) (raw kept : Bytes) (parts : Parts) (after : Words) (inside : end < length piece)
      (D : Does R (step_line R (suc s.lines) (ended_line raw) u) (unit_of r.unit parts) (told_by r) before after) where
    abbrev behind_it : Moved
    behind_it = record { at = end + 1; first = r.first; second = r.second }

    abbrev left : KeptScan
    left = record { kept = kept; held = 0; lines = s.lines + 1; unit = r.unit; parts = parts }

    alike_moves : Alike raw line → Moves reg (scan_of s) piece at behind_it left before after
    unfolding byte_to byte_events
    alike_moves alike =
        let it : AlikeScan R (lawful reg) (scan raw s.lines u) (scan line s.lines u) = record { kept = alike; lines = refl; unit = refl } in
        let v : (step_line R (suc s.lines) (ended_line raw) u).unit ≡ (step_line R (suc s.lines) (ended_line line) u).unit =
        (byte_alike R (lawful reg) true (scan raw s.lines u) (scan line s.lines u) LF it).unit in
        let w : (step_line R (suc s.lines) (ended_line raw) u).events ≡ (step_line R (suc s.lines) (ended_line line) u).events =
        byte_events_alike R (lawful reg) true (scan raw s.lines u) (scan line s.lines u) it in
        let b : between at (suc end) piece ≡ between at end piece ++ (LF ∷ []) = with_lf piece at end E inside in
        let to : scan_to R (scan_of s) (between at (suc end) piece) ≡ scan [] (suc s.lines) (unit_of r.unit parts) =
        rw b (line-scan-to R s.lines u (take s.held s.kept) (between at end piece) E.none.clean ∙ ap (λ x. scan [] (suc s.lines) x) (sym (D.leaves ∙ v))) in
        let few : details_in (scan_to R (scan_of s) (between at (suc end) piece)).unit ≤ max_details = few-scan reg (scan_of s) (between at (suc end) piece) H.details in
        record {
          behind = omega (arith, E.none.behind);
          moved = λ more. omega (arith, E.none.behind);
          within = omega arith;
          holds = record { few = omega arith; whole = omega arith; details = rw to at few; fits = omega (arith, H.fits, E.none.behind) };
          ran = rw (add-one end, add-one s.lines)
              (record {
                reaches = rw to;
                tells = rw (b, line-scan-events R s.lines u (take s.held s.kept) (between at end piece) E.none.clean, ← w) D.tells;
              });
        }

    -- the line is the part of the piece, if none was held; else the kept bytes, with its end behind them
    pub line_moves : (n : ℕ) → raw ≡ cond (eqb s.held 0) (between at end piece) (take n kept) → (¬ (s.held ≡ 0) → take n kept ≡ take kept_limit line)
        → Moves reg (scan_of s) piece at behind_it left before after
    line_moves n is kept-too = alike_moves (go (eqb s.held 0) refl)
      where
        go : (b : Bool) → eqb s.held 0 ≡ b → Alike raw line
        go true e =
            let none : s.held ≡ 0 = eqb-true s.held 0 e in
            rw (is, none)
        go false e =
            let all : take n kept ≡ take kept_limit line = kept-too (eqb-false s.held 0 e) in
            rw (is, e, all) (take-take kept_limit kept_limit line (omega arith))
