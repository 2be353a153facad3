-- `units::read_line` meets its contract.
-- Assumes nothing.
use Rattle.units.proofs.Kept.{both-parts}
use Rattle.units.proofs.read_line.Goals as goal

pub returns : goal.returns
returns c = both-parts _ _ _ _ _ c.kind_of-kind.ensures _ (c.ended_by-before.ensures _) _ _ _ (c.closing-first.ensures _) (c.load_waiting.ensures _) _ _ c.step-next.ensures
