-- `usual::three::usual_three` meets its contract.
-- Assumes nothing.
use Rattle.usual.proofs.Usual.{three_usual}
use Rattle.usual.proofs.three.usual_three.Goals as goal

pub returns : goal.returns
returns c = three_usual _ _ c.strip_prefix.ensures.cases _ c.is_some_and.ensures
