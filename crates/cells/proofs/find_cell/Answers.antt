-- `cells::find_cell` meets its contract.
-- Assumes nothing.
use mathlib.Core.Path.{◌∙◌}
use Rattle.report.specs.Refusal.{refusal_number}
use Rattle.report.proofs.Passing.{next-exit}
use Rattle.cells.specs.Sound.{cell_for}
use Rattle.cells.proofs.Found.{index-sizes, address-tested, words-within}
use Rattle.cells.proofs.find_cell.Goals as goal

pub returns-in_err-for_table : goal.returns-in_err-for_table
unfolding cell_for
returns-in_err-for_table c = next-exit refusal_number _ _ c.from_residual.ensures.1 _ ∙ rw (← c.in_err-for_table.ensures)

pub returns-in_err-require : goal.returns-in_err-require
unfolding cell_for
returns-in_err-require c =
    next-exit refusal_number _ _ c.from_residual-in_err-require.ensures.1 _
    ∙ rw (← c.in_ok-for_table.ensures, address-tested _ _ _ c.meters-meters.ensures c.window-days.ensures c.args.at.meter c.args.at.channel c.args.at.day, ← c.in_err-require.ensures)

pub cell_number-requires-clause-sizes : goal.cell_number-requires-clause-sizes
cell_number-requires-clause-sizes c = index-sizes _ _ _ c.meters-meters.ensures c.window-days.ensures

pub cell_at-requires : goal.cell_at-requires
cell_at-requires c = words-within _ _ _ c.meters-meters.ensures c.window-days.ensures _ c.in_ok-for_table.ensures _ c.cell_number.ensures.1

pub returns : goal.returns
unfolding cell_for
returns c = rw (c.cell_at.ensures, ← c.in_ok-for_table.ensures, address-tested _ _ _ c.meters-meters.ensures c.window-days.ensures c.args.at.meter c.args.at.channel c.args.at.day, ← c.in_ok-require.ensures, c.cell_number.ensures.0, c.meters-meters.ensures, c.window-days.ensures)
