-- `lines::end::empty_line` meets its contract.
-- Assumes nothing.
use Rattle.std.proofs.Common.{rules}
use Rattle.lines.proofs.Ends.{empty-lf, empty-CR-LF}
use Rattle.lines.proofs.end.empty_line.Goals as goal

pub returns-in-13 : goal.returns-in-13
returns-in-13 c = empty-CR-LF _ _ _ c.in_ok-get.ensures.lookup.0.2 c.in-13.len_at_least (search rules) (search rules)

pub returns-in-10 : goal.returns-in-10
returns-in-10 c = empty-lf _ _ _ c.in_ok-get.ensures.lookup.0.2 c.in-10.len_at_least (search rules)

pub returns-in-10-2 : goal.returns-in-10-2
returns-in-10-2 c = empty-lf _ _ _ c.in_ok-get.ensures.lookup.0.2 (search rules) (search rules)
