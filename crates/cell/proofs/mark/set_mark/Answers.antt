-- `cell::mark::set_mark` meets its contract.
-- Assumes nothing.
use Rattle.cell.proofs.Marks.{mark_set, mark_statuses}
use Rattle.cell.proofs.mark.set_mark.Goals as goal

pub returns : goal.returns
returns c = record { words = search mark_set; statuses = search mark_statuses }
