-- `direct::guess::has_layout` meets its contract.
-- Assumes nothing.
use Rattle.direct.proofs.Value.{layout}
use Rattle.direct.proofs.guess.has_layout.Goals as goal

pub returns : goal.returns
returns c = λ e. search layout
