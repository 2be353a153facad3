-- `lines::line::ends_with_cr` meets its contract.
-- Assumes nothing.
use Rattle.std.proofs.Common.{rules}
use Rattle.lines.proofs.Lines.{ends_none, ends_last}
use Rattle.lines.proofs.line.ends_with_cr.Goals as goal

pub returns-in-13 : goal.returns-in-13
returns-in-13 c = rw (ends_last c.args.raw.now c.in-13.len_at_least) (search rules)

pub returns-in_default : goal.returns-in_default
returns-in_default c = search (ends_none, rules)

pub returns-in_default-2 : goal.returns-in_default-2
returns-in_default-2 c = rw (ends_last c.args.raw.now c.in_default.len_at_least) (search rules)
