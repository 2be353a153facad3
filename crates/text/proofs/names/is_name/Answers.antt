-- `text::names::is_name` meets its contract.
-- Assumes nothing.
use Rattle.text.specs.Identifier.{is_name}
use Rattle.text.proofs.names.is_name.Goals as goal

pub returns : goal.returns
unfolding is_name
returns c = rw c.all_alnum.ensures
