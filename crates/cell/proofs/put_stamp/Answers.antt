-- `cell::put_stamp` meets its contract.
-- Assumes nothing.
use borrow.Author.Rules.{rules}
use Rattle.cell.specs.Read.{with_stamp}
use Rattle.cell.proofs.put_stamp.Goals as goal

pub returns : goal.returns
unfolding with_stamp
returns c = search rules
