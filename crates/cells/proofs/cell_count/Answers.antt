-- `cells::cell_count` meets its contract.
-- Assumes nothing.
use mathlib.Core.Path.{refl}
use native.Mathlib.Omega.{arith}
use Rattle.cells.specs.Number.{cell_count}
use Rattle.cells.proofs.Numbers.{count_small}
use Rattle.cells.proofs.cell_count.Goals as goal

pub overflow_mul-result-2 : goal.overflow_mul-result-2
overflow_mul-result-2 c = omega (arith, count_small _ _ c.requires)

pub returns : goal.returns
unfolding cell_count
returns c = (refl, count_small _ _ c.requires)
