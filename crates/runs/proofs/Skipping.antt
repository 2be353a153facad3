-- Lines that a unit skips, as steps of the scan, one after the other.
-- Assumes nothing.
use mathlib.Core.Path.{◌≡◌, refl, sym, ◌∙◌}
use mathlib.Core.List.{[]}
use mathlib.Core.Bool.{Bool, true, not}
use Prim.Native.Nat.{ℕ, suc, ◌+◌, ◌-◌, ◌<◌}
use native.Mathlib.Numerals.{add-one}
use native.Mathlib.Omega.{arith}
use lib.ListN.{length}
use denote.Enum.Bare.{sameb}
use Rattle.text.specs.Byte.{Bytes}
use Rattle.text.proofs.Truth.{apart}
use Rattle.lines.specs.Line.{Line, ended_line, drop_cr, kind_of}
use Rattle.lines.specs.End.{between, LineEnd, LineAt}
use Rattle.lines.specs.contracts.line.Kind.{the_type}
use Rattle.lines.specs.declared.line.Kind.{Kind}
use Rattle.lines.specs.declared.line.Kind.TheVariants.{Empty, Opener, Detail, Other}
use Rattle.plain.specs.Rows.{rules_of}
use Rattle.plain.specs.Loader.{skips, scan, step_kind, step_line, scan_to, scan_events}
use Rattle.units.specs.declared.Unit.TheVariants.{Skips}
use Rattle.runs.specs.Run.{went_by, FitsFrom, is_skipped, SkipsTo}
use Rattle.runs.proofs.LineMore.{line_at, more-to, more-events}

-- ---- ONE LINE

skip-kind : (reg : Bytes) (n : ℕ) (l : Line) (k : Kind) → is_skipped k ≡ true → step_kind (rules_of reg) k n l skips ≡ record { unit = skips; events = [] }
unfolding step_kind
skip-kind reg n l Empty h = refl
skip-kind reg n l Opener h = absurd (apart h)
skip-kind reg n l Detail h = refl
skip-kind reg n l Other h = refl

skip_step : (reg raw : Bytes) (n : ℕ) → is_skipped (kind_of (drop_cr raw)) ≡ true
    → step_line (rules_of reg) n (ended_line raw) skips ≡ record { unit = skips; events = [] }
unfolding step_line ended_line
skip_step reg raw n h = skip-kind reg n _ (kind_of (drop_cr raw)) h

pub not-opener : (k : Kind) → not (sameb the_type k Opener) ≡ is_skipped k
not-opener Empty = refl
not-opener Opener = refl
not-opener Detail = refl
not-opener Other = refl

-- ---- LINES

pub skips_begin : (lines : ℕ) (piece : Bytes) (at : ℕ) → FitsFrom lines piece at
    → SkipsTo lines piece at (went_by Skips lines at)
unfolding scan_to scan_events
skips_begin lines piece at fits =
    let z : at - at ≡ 0 = omega arith in
    record { skipped = refl; behind = omega arith; fits = fits; reaches = λ reg. rw z; quiet = λ reg. rw z }

pub skips-again : (lines : ℕ) (piece : Bytes) (at n e : ℕ) → SkipsTo lines piece at (went_by Skips n e) → (end : ℕ) → LineEnd piece e end
    → end < length piece → (r : Bool) → r ≡ is_skipped (kind_of (drop_cr (between e end piece))) → r ≡ true
    → SkipsTo lines piece at (went_by Skips (n + 1) (end + 1))
skips-again lines piece at n e inv end E inside r is t =
    let line : LineAt piece e (end - e + 1) = line_at piece e end E inside in
    let to : e + (end - e + 1) ≡ end + 1 = omega (arith, E.none.behind) in
    let raw : e + (end - e + 1 - 1) ≡ end = omega (arith, E.none.behind) in
    record {
      skipped = refl;
      behind = omega (arith, inv.behind, E.none.behind);
      fits = record { within = omega arith; fits = omega (arith, inv.fits.fits, E.none.behind) };
      reaches = λ reg.
          rw (← to, add-one n)
          (more-to (rules_of reg) (scan [] lines skips) piece at e (end - e + 1) inv.behind line n skips (inv.reaches reg) (record { unit = skips; events = [] }) (rw raw (step reg)));
      quiet = λ reg.
          rw (← to)
          (more-events (rules_of reg) (scan [] lines skips) piece at e (end - e + 1) inv.behind line n skips (inv.reaches reg) (record { unit = skips; events = [] }) (rw raw (step reg)) (inv.quiet reg));
    }
  where
    step : (reg : Bytes) → step_line (rules_of reg) (suc n) (ended_line (between e end piece)) skips ≡ record { unit = skips; events = [] }
    step reg = skip_step reg (between e end piece) (suc n) (sym is ∙ t)
