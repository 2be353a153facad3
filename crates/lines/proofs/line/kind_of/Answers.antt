-- `lines::line::kind_of` meets its contract.
-- Assumes nothing.
use Rattle.std.proofs.Common.{rules}
use Rattle.lines.proofs.Lines.{kind-empty, kind_opener, kind_detail, kind_other}
use Rattle.lines.proofs.line.kind_of.Goals as goal

pub returns-then-is_empty : goal.returns-then-is_empty
returns-then-is_empty c = search (kind-empty, rules)

pub returns-then-begins : goal.returns-then-begins
returns-then-begins c = search (kind_opener, rules)

pub returns-then-begins-2 : goal.returns-then-begins-2
returns-then-begins-2 c = search (kind_detail, rules)

pub returns-else-begins-2 : goal.returns-else-begins-2
returns-else-begins-2 c = search (kind_other, rules)
