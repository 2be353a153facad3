-- No refusal is the number of a call that is done.
-- Assumes nothing.
use mathlib.Core.Path.{◌≡◌}
use native.Mathlib.Omega.{arith}
use Rattle.report.specs.Refusal.{done, refusal_number}
use Rattle.report.specs.declared.refusal.Refusal.{Refusal}
use Rattle.report.specs.declared.refusal.Refusal.TheVariants.{BadState, BadRegistry, ShortTable, ShortReport, TooManyBytes, NoCell, EmptyCell, UnsoundCell, BadDescriptor, ShortOutput, ShortPages, TooManyPages}

pub some-number : (r : Refusal) → ¬ (refusal_number r ≡ done)
some-number BadState e = omega (arith, e)
some-number BadRegistry e = omega (arith, e)
some-number ShortTable e = omega (arith, e)
some-number ShortReport e = omega (arith, e)
some-number TooManyBytes e = omega (arith, e)
some-number NoCell e = omega (arith, e)
some-number EmptyCell e = omega (arith, e)
some-number UnsoundCell e = omega (arith, e)
some-number BadDescriptor e = omega (arith, e)
some-number ShortOutput e = omega (arith, e)
some-number ShortPages e = omega (arith, e)
some-number TooManyPages e = omega (arith, e)
