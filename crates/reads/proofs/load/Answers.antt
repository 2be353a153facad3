-- `reads::load` meets its contract.
-- Assumes nothing.
use Rattle.reads.proofs.Frame.{load-put, load_kept}
use Rattle.reads.proofs.load.Goals as goal

pub returns-then-replaces : goal.returns-then-replaces
returns-then-replaces c = search load-put

pub returns-else-replaces : goal.returns-else-replaces
returns-else-replaces c = search load_kept
