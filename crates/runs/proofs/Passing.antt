-- A run over the lines of a unit, whichever unit it is.
-- Assumes nothing.
use mathlib.Core.Path.{◌≡◌, refl}
use Prim.Native.Nat.{ℕ, ◌-◌}
use native.Mathlib.Omega.{arith}
use Rattle.text.specs.Byte.{Bytes}
use Rattle.plain.specs.Loader.{scan_to, scan_events}
use Rattle.records.specs.declared.Progress.{Progress}
use Rattle.records.specs.declared.Parts.{Parts}
use Rattle.units.specs.declared.Unit.{Unit as KeptUnit}
use Rattle.units.specs.declared.Unit.TheVariants.{Takes, Skips}
use Rattle.runs.specs.declared.Passed.{Passed}
use Rattle.runs.specs.Run.{RowsRan, SkipsTo, passed_rows, went_by, Asks, Passes}

module _ (unit : KeptUnit) (lines held : ℕ) (piece : Bytes) (at : ℕ) (before : Parts) (r : Passed KeptUnit) where
  pub passes-rows : (first : ℕ) (p : Progress) → unit ≡ Takes first p → held ≡ 0 → (q : Passed Progress) (after : Parts)
      → RowsRan p lines piece at before q after → r ≡ passed_rows first q → Passes unit lines held piece at before r after
  passes-rows first p h z q after ran e =
      rw (z, h, e)
      (record {
        id = ran.id;
        behind = ran.behind;
        fits = ran.fits;
        reaches = λ reg kept. ran.reaches reg first;
        tells = λ reg kept. ran.tells reg first;
      })

  pub passes-skips : unit ≡ Skips → held ≡ 0 → SkipsTo lines piece at r → Passes unit lines held piece at before r before
  passes-skips h z ran =
      rw (z, h)
      (record {
        id = refl;
        behind = ran.behind;
        fits = ran.fits;
        reaches = λ reg kept. rw ran.skipped (ran.reaches reg);
        tells = λ reg kept. rw ran.skipped (ran.quiet reg);
      })

  pub passes_none : Asks unit lines piece at before → r ≡ went_by unit lines at → Passes unit lines held piece at before r before
  unfolding scan_to scan_events
  passes_none asks e =
      let z : at - at ≡ 0 = omega arith in
      rw e
      (record {
        id = refl;
        behind = omega arith;
        fits = asks.fits;
        reaches = λ reg kept. rw z;
        tells = λ reg kept. rw z;
      })
