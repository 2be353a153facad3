-- `reads::holds_none` meets its contract.
-- Assumes nothing.
use borrow.Author.Rules.{rules}
use Rattle.reads.specs.Load.{holds_none}
use Rattle.reads.proofs.holds_none.Goals as goal

pub returns : goal.returns
unfolding holds_none
returns c = search rules
