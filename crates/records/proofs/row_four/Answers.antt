-- `records::row_four` meets its contract.
-- Assumes nothing.
use Rattle.plain.specs.Rows.{with_row}
use Rattle.records.proofs.row_four.Goals as goal

pub returns-clause-says : goal.returns-clause-says
unfolding with_row
returns-clause-says c = rw (c.counted.ensures, c.put_stamp.ensures, ← c.in_ok-stamp.ensures)
