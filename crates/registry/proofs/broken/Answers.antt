-- `registry::broken` meets its contract.
-- Assumes nothing.
use Rattle.registry.proofs.Walk.{index-none}
use Rattle.registry.proofs.broken.Goals as goal

pub invariant_of-result : goal.invariant_of-result
invariant_of-result c = record { holds = index-none _ _ c.requires }
