-- `cells::for_table` meets its contract.
-- Assumes nothing.
use Rattle.report.proofs.Passing.{answers-exit}
use Rattle.cells.specs.Sound.{for_table}
use Rattle.cells.proofs.Found.{index-sizes, table-tested}
use Rattle.cells.proofs.for_table.Goals as goal

pub returns-in_err-require : goal.returns-in_err-require
unfolding for_table
returns-in_err-require c = rw (answers-exit _ _ c.from_residual.ensures.1, ← c.is_sound.ensures, ← c.in_err-require.ensures)

pub cell_count-cells-requires : goal.cell_count-cells-requires
cell_count-cells-requires c = index-sizes _ _ _ c.meters.ensures c.window.ensures

pub returns : goal.returns
returns c = rw (table-tested _ _ _ c.meters.ensures c.window.ensures _ c.args.size c.cell_count-cells.ensures.0, ← c.is_sound.ensures, ← c.in_ok-require.ensures) c.require-2.ensures
