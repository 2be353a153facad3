-- `headers::thirty::duns_of` meets its contract.
-- Assumes nothing.
use Rattle.headers.proofs.Pairs.{no_name, duns_behind}
use Rattle.headers.proofs.thirty.duns_of.Goals as goal

pub returns-in_err-number : goal.returns-in_err-number
returns-in_err-number c = rw c.from_residual.ensures (no_name _ _ c.in_err-number.ensures.cases)

pub returns : goal.returns
returns c = rw c.then_some.ensures (duns_behind _ _ _ c.in_ok-number.ensures.cases _ c.is_duns.ensures)
