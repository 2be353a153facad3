-- `usual::three::read_three` meets its contract.
-- Assumes nothing.
use Rattle.usual.proofs.three.read_three.Goals as goal

pub returns-then-usual_three : goal.returns-then-usual_three
returns-then-usual_three c = c.usual_three.ensures c.if-usual_three.true _
