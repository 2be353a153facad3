-- What the loop of `headers::two::fit_all` keeps: the forms and the fields that are left decide.
use Prim.Native.Nat.{◌+◌}
use mathlib.Core.Path.{◌≡◌}
use lib.ListN.{length, drop}
use Rattle.headers.specs.Two.{row_two_forms, fit_all}
use Rattle.headers.proofs.two.fit_all.Given as goal

abbrev pub invariant-loop-form : goal.invariant-loop-form
invariant-loop-form l =
    (l.form-index + length l.fields ≡ 14) × (fit_all row_two_forms l.fn.fields ≡ fit_all (drop l.form-index row_two_forms) l.fields)
