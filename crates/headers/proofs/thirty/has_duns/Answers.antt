-- `headers::thirty::has_duns` meets its contract.
-- Assumes nothing.
use mathlib.Core.Path.{◌∙◌}
use Rattle.headers.proofs.Pairs.{has_number}
use Rattle.headers.proofs.thirty.has_duns.Goals as goal

pub returns : goal.returns
returns c = c.is_some.ensures ∙ has_number _ _ _ c.duns_of.ensures
