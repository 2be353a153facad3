-- `page::put_pages` meets its contract.
-- Assumes nothing.
use Rattle.page.proofs.Pages.{none_out, page_put}
use Rattle.page.proofs.put_pages.Goals as goal

pub loop-p-init : goal.loop-p-init
loop-p-init g c = none_out _ c.args.output.now

pub loop-p-preserved : goal.loop-p-preserved
loop-p-preserved g c = page_put c.loop-p.p _ _ _ _ c.loop-p.invariant c.put_page.ensures
