-- `pieces::batch::Batch::count` meets its contract.
-- Assumes nothing.
use mathlib.Core.Path.{sym}
use Rattle.report.proofs.Entries.{entries-count}
use Rattle.pieces.proofs.batch.Batch.count.Goals as goal

pub returns : goal.returns
returns c = (rw (← c.self.view_is) (sym (entries-count _ c.self.inside.words)), c.self.invariant.0)
