-- `cell::put_interval` meets its contract.
-- Assumes nothing.
use Rattle.cell.proofs.Built.{put-marked, put-plain}
use Rattle.cell.proofs.put_interval.Goals as goal

pub returns-then-interval : goal.returns-then-interval
returns-then-interval c = search put-marked

pub returns-else-interval : goal.returns-else-interval
returns-else-interval c = search put-plain
