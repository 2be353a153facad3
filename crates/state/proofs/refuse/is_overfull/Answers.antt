-- `state::refuse::is_overfull` meets its contract.
-- Assumes nothing.
use Rattle.state.proofs.Refusals.{overfull-tested}
use Rattle.state.proofs.refuse.is_overfull.Goals as goal

pub returns-clause-overfull : goal.returns-clause-overfull
returns-clause-overfull c = overfull-tested _ _ c.details_in.ensures
