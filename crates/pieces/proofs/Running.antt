-- What some bytes do, and then others behind them, is what all of them do.
-- Assumes nothing.
use mathlib.Core.Path.{◌≡◌, refl, sym, ap, ◌∙◌}
use mathlib.Core.List.{List, [], ◌++◌}
use Prim.Native.Nat.{◌≤◌}
use native.Mathlib.Omega.{arith}
use lib.ListN.{take, length-take}
use lib.Seq.{take-take, take_all}
use Rattle.text.specs.Byte.{Bytes}
use Rattle.lines.specs.Line.{kept_limit}
use Rattle.cell.specs.Layout.{Words}
use Rattle.report.specs.declared.Entry.{Entry}
use Rattle.plain.specs.Rows.{Rules, rules_of}
use Rattle.plain.specs.Table.{load_all}
use Rattle.plain.specs.Loader.{Scan, scan, scan_to, scan_events, entries_of, loads_of}
use Rattle.plain.specs.Promise.{cut_scan}
use Rattle.plain.proofs.Lawful.{Lawful}
use Rattle.plain.proofs.Rules.{lawful}
use Rattle.plain.proofs.Kept.{AlikeScan, scan_alike, events_alike}
use Rattle.plain.proofs.Pieces.{scan_to-append, scan_events-append, entries-append, loads-append, load_all-append}
use Rattle.units.specs.Answer.{unit_of}
use Rattle.pieces.specs.declared.Scan.{Scan as KeptScan}
use Rattle.pieces.specs.Ran.{scan_of, Ran}

module _ (R : Rules) (L : Lawful R) where
  cut-same : (s : Scan) → AlikeScan R L (cut_scan s) s
  cut-same s = record { kept = take-take kept_limit kept_limit s.kept (omega arith); lines = refl; unit = refl }

  alike_same : (s t : Scan) → AlikeScan R L s t → cut_scan s ≡ cut_scan t
  alike_same s t h = λ i. scan (h.kept i) (h.lines i) (h.unit i)

  module _ (a : Scan) (x y : Bytes) where
    cut-to : cut_scan (scan_to R (cut_scan (scan_to R a x)) y) ≡ cut_scan (scan_to R a (x ++ y))
    cut-to =
        alike_same _ _ (scan_alike R L (cut_scan (scan_to R a x)) (scan_to R a x) y (cut-same (scan_to R a x)))
        ∙ ap cut_scan (sym (scan_to-append R a x y))

    cut-events : scan_events R a x ++ scan_events R (cut_scan (scan_to R a x)) y ≡ scan_events R a (x ++ y)
    cut-events =
        ap (λ e. scan_events R a x ++ e) (events_alike R L (cut_scan (scan_to R a x)) (scan_to R a x) y (cut-same (scan_to R a x)))
        ∙ sym (scan_events-append R a x y)

  module _ (a b c : Scan) (x y : Bytes) (es fs : List Entry) (t₀ t₁ t₂ : Words) where
    then_ran : Ran R a x b es t₀ t₁ → Ran R b y c fs t₁ t₂ → Ran R a (x ++ y) c (es ++ fs) t₀ t₂
    then_ran f g =
        let to : c ≡ cut_scan (scan_to R (cut_scan (scan_to R a x)) y) = g.reaches ∙ ap (λ s. cut_scan (scan_to R s y)) f.reaches in
        let ev : scan_events R b y ≡ scan_events R (cut_scan (scan_to R a x)) y = ap (λ s. scan_events R s y) f.reaches in
        let all : scan_events R a (x ++ y) ≡ scan_events R a x ++ scan_events R b y = sym (cut-events a x y) ∙ ap (λ e. scan_events R a x ++ e) (sym ev) in
        record {
          reaches = to ∙ cut-to a x y;
          tells =
              record {
                entered = rw (all, entries-append R (scan_events R a x) (scan_events R b y), ← f.tells.entered, ← g.tells.entered);
                loads =
                    rw (all, loads-append R (scan_events R a x) (scan_events R b y), load_all-append R t₀ (loads_of (scan_events R a x)) (loads_of (scan_events R b y)), ← f.tells.loads)
                    g.tells.loads;
              };
        }

pub ran-both : (reg : Bytes) (a b c : Scan) (x y : Bytes) (es fs : List Entry) (t₀ t₁ t₂ : Words)
    → Ran (rules_of reg) a x b es t₀ t₁ → Ran (rules_of reg) b y c fs t₁ t₂ → Ran (rules_of reg) a (x ++ y) c (es ++ fs) t₀ t₂
ran-both reg a b c x y es fs t₀ t₁ t₂ f g = then_ran (rules_of reg) (lawful reg) a b c x y es fs t₀ t₁ t₂ f g

-- nothing read
pub ran-none : (R : Rules) (s : KeptScan) (t : Words) → s.held ≤ kept_limit → Ran R (scan_of s) [] (scan_of s) [] t t
unfolding scan_to scan_events entries_of loads_of load_all
ran-none R s t few =
    record {
      reaches = ap (λ k. scan k s.lines (unit_of s.unit s.parts)) (sym (take_all kept_limit (take s.held s.kept) (omega (arith, length-take s.held s.kept))));
      tells = record { entered = refl; loads = refl };
    }
