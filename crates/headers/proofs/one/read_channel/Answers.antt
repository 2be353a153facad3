-- `headers::one::read_channel` meets its contract.
-- Assumes nothing.
use Rattle.headers.specs.One.{channel_of}
use Rattle.headers.proofs.one.read_channel.Goals as goal

pub returns-then-same : goal.returns-then-same
unfolding channel_of
returns-then-same c = rw (← c.same.ensures, c.if-same.true)

pub returns-then-same-2 : goal.returns-then-same-2
unfolding channel_of
returns-then-same-2 c = rw (← c.same.ensures, c.if-same.false, ← c.same-2.ensures, c.if-same-2.true)

pub returns : goal.returns
unfolding channel_of
returns c = rw (← c.same.ensures, c.if-same.false, ← c.same-2.ensures, c.if-same-2.false)
