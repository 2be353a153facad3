-- `cell::Cell::begun` meets its contract.
-- Assumes nothing.
use borrow.Author.Rules.{rules}
use Rattle.cell.specs.Read.{begun}
use Rattle.cell.proofs.Cell.begun.Goals as goal

pub returns : goal.returns
unfolding begun
returns c = search rules
