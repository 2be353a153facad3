-- `headers::time::is_below` meets its contract.
-- Assumes nothing.
use Rattle.headers.specs.Time.{is_below}
use Rattle.headers.proofs.time.is_below.Goals as goal

pub returns : goal.returns
unfolding is_below
returns c = rw (c.moment_of.ensures, c.moment_of-2.ensures)
