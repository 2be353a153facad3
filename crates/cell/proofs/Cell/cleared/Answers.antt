-- `cell::Cell::cleared` meets its contract.
-- Assumes nothing.
use borrow.Author.Rules.{rules}
use Rattle.cell.specs.Read.{cleared}
use Rattle.cell.proofs.Cell.cleared.Goals as goal

pub returns : goal.returns
unfolding cleared
returns c = search rules
