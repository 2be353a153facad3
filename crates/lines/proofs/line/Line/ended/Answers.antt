-- `lines::line::Line::ended` meets its contract.
-- Assumes nothing.
use Rattle.lines.specs.Line.{ended_line}
use Rattle.lines.proofs.line.Line.ended.Goals as goal

pub returns : goal.returns
unfolding ended_line
returns c = rw (c.without_cr.ensures, c.ends_with_cr.ensures)
