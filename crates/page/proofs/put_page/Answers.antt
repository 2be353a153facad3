-- `page::put_page` meets its contract.
-- Assumes nothing.
use Rattle.page.proofs.Pages.{page_put_together}
use Rattle.page.proofs.put_page.Goals as goal

pub returns : goal.returns
returns g c = page_put_together c.args.number c.args.from _ _ _ _ c.put_heading.ensures c.put_blank.ensures c.put_places.ensures
