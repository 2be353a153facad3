-- `checks::has_flag` meets its contract.
-- Assumes nothing.
use mathlib.Core.Path.{refl}
use Rattle.checks.specs.Check.{has_flag}
use Rattle.checks.proofs.has_flag.Goals as goal

pub returns : goal.returns
unfolding has_flag
returns c = refl
