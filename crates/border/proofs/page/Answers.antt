-- `border::page` meets its contract.
-- Assumes nothing.
use Rattle.border.proofs.Small.{pages-small}
use Rattle.border.proofs.page.Goals as goal

pub packed-requires : goal.packed-requires
packed-requires c = pages-small _ _ _ c.page.ensures.answer
