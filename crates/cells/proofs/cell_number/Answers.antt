-- `cells::cell_number` meets its contract.
-- Assumes nothing.
use mathlib.Core.Path.{refl}
use native.Mathlib.Omega.{arith}
use Rattle.cells.specs.Number.{cell_count, cell_number}
use Rattle.cells.proofs.Numbers.{count_small, below}
use Rattle.cells.proofs.cell_number.Goals as goal

pub overflow_mul-result-2 : goal.overflow_mul-result-2
overflow_mul-result-2 c = omega (arith, count_small _ _ c.requires.sizes, below _ _ _ _ _ c.requires.among)

pub overflow_add-result-2 : goal.overflow_add-result-2
overflow_add-result-2 c = omega (arith, count_small _ _ c.requires.sizes, below _ _ _ _ _ c.requires.among)

pub returns : goal.returns
unfolding cell_count cell_number
returns c = (refl, below _ _ _ _ _ c.requires.among)
