-- `reads::replaces` meets its contract.
-- Assumes nothing.
use Rattle.reads.proofs.replaces.Goals as goal

pub returns : goal.returns
returns c = cc
