-- `text::names::is_duns` meets its contract.
-- Assumes nothing.
use Rattle.text.specs.Identifier.{is_duns}
use Rattle.text.proofs.names.is_duns.Goals as goal

pub returns : goal.returns
unfolding is_duns
returns c = rw c.all_digits.ensures
