-- `cell::mark::is_marked` meets its contract.
-- Assumes nothing.
use Rattle.cell.proofs.Marks.{tested, tested_status}
use Rattle.cell.proofs.mark.is_marked.Goals as goal

pub returns : goal.returns
returns c = record { bit = search tested; statuses = search tested_status }
