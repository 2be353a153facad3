-- `records::row_checked` meets its contract.
-- Assumes nothing.
use Rattle.plain.specs.Rows.{with_row}
use Rattle.records.proofs.row_checked.Goals as goal

pub returns : goal.returns
unfolding with_row
returns c = λ r. rw (c.in_ok-passes.was, c.counted.ensures)
