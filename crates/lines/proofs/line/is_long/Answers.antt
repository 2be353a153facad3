-- `lines::line::is_long` meets its contract.
-- Assumes nothing.
use Rattle.lines.proofs.Lines.{long_counted}
use Rattle.lines.proofs.line.is_long.Goals as goal

pub returns : goal.returns
returns c = rw c.from.ensures (long_counted c.args.line.body.now c.args.line.cr)
