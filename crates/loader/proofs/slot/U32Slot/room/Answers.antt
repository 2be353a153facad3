-- `loader::slot::U32Slot::room` meets its contract.
-- Assumes nothing.
use mathlib.Core.Path.{sym}
use Rattle.report.proofs.Entries.{entries-count}
use Rattle.loader.proofs.slot.U32Slot.room.Goals as goal

pub returns : goal.returns
returns c = sym (entries-count _ c.args.report.now)
