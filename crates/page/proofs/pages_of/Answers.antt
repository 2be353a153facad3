-- `page::pages_of` meets its contract.
-- Assumes nothing.
use mathlib.Core.Path.{◌∙◌}
use Rattle.report.proofs.Passing.{answers-exit}
use Rattle.page.proofs.Pages.{admitted}
use Rattle.page.proofs.pages_of.Goals as goal

pub returns-in_err-require : goal.returns-in_err-require
returns-in_err-require g c = answers-exit _ _ c.from_residual.ensures.1 ∙ rw (admitted _ c.args.room _ _ c.count.ensures c.div_ceil-pages.ensures, ← c.in_err-require.ensures)

pub returns-in_err-require-2 : goal.returns-in_err-require-2
returns-in_err-require-2 g c =
    answers-exit _ _ c.from_residual-in_err-require-2.ensures.1
    ∙ rw (admitted _ c.args.room _ _ c.count.ensures c.div_ceil-pages.ensures, ← c.in_ok-require.ensures, ← c.in_err-require-2.ensures)

pub returns : goal.returns
returns g c = rw (admitted _ c.args.room _ _ c.count.ensures c.div_ceil-pages.ensures, ← c.in_ok-require.ensures, ← c.in_ok-require-2.ensures)
