-- `details::detail::read_status` meets its contract.
-- Assumes nothing.
use Rattle.details.specs.Detail.{status_of}
use Rattle.details.proofs.detail.read_status.Goals as goal

pub returns-then-same : goal.returns-then-same
unfolding status_of
returns-then-same c = rw (← c.same.ensures, c.if-same.true)

pub returns-then-same-2 : goal.returns-then-same-2
unfolding status_of
returns-then-same-2 c = rw (← c.same.ensures, c.if-same.false, ← c.same-2.ensures, c.if-same-2.true)

pub returns : goal.returns
unfolding status_of
returns c = rw (← c.same.ensures, c.if-same.false, ← c.same-2.ensures, c.if-same-2.false)
