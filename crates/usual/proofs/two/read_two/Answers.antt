-- `usual::two::read_two` meets its contract.
-- Assumes nothing.
use Rattle.usual.proofs.Usual.{usual, two_usual}
use Rattle.usual.proofs.two.read_two.Goals as goal

pub returns-then-same : goal.returns-then-same
unfolding usual
returns-then-same c = two_usual _ _ _ c.same.ensures c.if-same.true
