-- `cell::interval_in` meets its contract.
-- Assumes nothing.
use Rattle.cell.specs.Read.{interval_in}
use Rattle.cell.proofs.interval_in.Goals as goal

pub returns : goal.returns
unfolding interval_in
returns c = rw c.is_marked.ensures.bit
