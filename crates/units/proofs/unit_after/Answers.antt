-- `units::unit_after` meets its contract.
-- Assumes nothing.
use Rattle.plain.specs.Loader.{settle}
use Rattle.units.proofs.unit_after.Goals as goal

pub returns-in-GoesOn : goal.returns-in-GoesOn
unfolding settle
returns-in-GoesOn c = λ r day. rw c.in-GoesOn.is

pub returns-in-Complete : goal.returns-in-Complete
unfolding settle
returns-in-Complete c = λ r day. rw c.in-Complete.is
