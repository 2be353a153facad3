-- The loop of `page::put_pages`: so many pages, and behind them the output as it was.
-- Assumes nothing.
use Rattle.std.proofs.Common.{◌≡◌, ◌++◌, ◌*◌, drop}
use Rattle.lines.specs.Text.{rows}
use Rattle.page.specs.Page.{page_size, first_pages}
use Rattle.page.proofs.put_pages.Given as goal

abbrev pub invariant-loop-p : goal.invariant-loop-p
invariant-loop-p g l = l.output ≡ rows (first_pages l.p (g.T.Listed.entries l.report)) ++ drop (l.p * page_size) l.fn.output
