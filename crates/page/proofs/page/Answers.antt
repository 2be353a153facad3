-- `page::page` meets its contract.
-- Assumes nothing.
use mathlib.Core.Path.{sym, ◌∙◌}
use Rattle.page.specs.Page.{paged}
use Rattle.page.proofs.Pages.{room_for_pages, output_is}
use Rattle.page.proofs.page.Goals as goal

pub returns-in_err-pages-clause-bytes : goal.returns-in_err-pages-clause-bytes
unfolding paged
returns-in_err-pages-clause-bytes g c = rw (← c.in_err-pages.ensures)

pub put_pages-requires : goal.put_pages-requires
put_pages-requires g c = room_for_pages _ _ _ c.in_ok-pages.ensures

pub returns-clause-bytes : goal.returns-clause-bytes
returns-clause-bytes g c = c.put_pages.ensures ∙ sym (output_is _ _ _ c.in_ok-pages.ensures c.args.output.now)
