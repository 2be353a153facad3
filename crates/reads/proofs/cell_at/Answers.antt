-- `reads::cell_at` meets its contract.
-- Assumes nothing.
use mathlib.Core.Path.{◌∙◌}
use Rattle.reads.proofs.Frame.{lent}
use Rattle.reads.proofs.cell_at.Goals as goal

pub returns : goal.returns
returns c = (rw c.unwrap.ensures at c.as_array.ensures.cases).same ∙ lent c.args.table.now c.args.c
