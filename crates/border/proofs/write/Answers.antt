-- `border::write` meets its contract.
-- Assumes nothing.
use Rattle.border.proofs.Small.{length-small}
use Rattle.border.proofs.write.Goals as goal

pub packed-requires : goal.packed-requires
packed-requires c = length-small _ _ _ _ _ _ _ _ c.write.ensures.answer
