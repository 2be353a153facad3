-- `headers::time::is_whole_day` meets its contract.
-- Assumes nothing.
use Rattle.headers.specs.Time.{is_whole_day}
use Rattle.headers.proofs.time.is_whole_day.Goals as goal

pub returns : goal.returns
unfolding is_whole_day
returns c = rw c.stops_day.ensures
