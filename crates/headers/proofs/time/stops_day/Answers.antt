-- `headers::time::stops_day` meets its contract.
-- Assumes nothing.
use mathlib.Core.Path.{refl}
use Rattle.headers.specs.Time.{stops_day}
use Rattle.headers.proofs.time.stops_day.Goals as goal

pub returns : goal.returns
unfolding stops_day
returns c = refl
