-- The loop of `page::put_places`: so many places, and behind them the lines as they were.
-- Assumes nothing.
use Rattle.std.proofs.Common.{◌≡◌, ◌++◌, ◌*◌, drop}
use Rattle.lines.specs.Text.{rows}
use Rattle.pagetext.specs.Line.{line_size}
use Rattle.page.specs.Page.{places}
use Rattle.page.proofs.put_places.Given as goal

abbrev pub invariant-loop-i : goal.invariant-loop-i
invariant-loop-i g l = l.lines ≡ rows (places l.i (drop l.from (g.T.Listed.entries l.report))) ++ drop (l.i * line_size) l.fn.lines
