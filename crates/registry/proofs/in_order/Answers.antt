-- `registry::in_order` meets its contract.
-- Assumes nothing.
use Rattle.registry.proofs.Walk.{order-tested}
use Rattle.registry.proofs.in_order.Goals as goal

pub returns : goal.returns
returns c = rw (c.is_some.ensures) (order-tested _ _ c.args.last _ c.args.at c.requires.owner_whole _ c.comes_after.ensures)
