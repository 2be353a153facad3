-- `units::settle` meets its contract.
-- Assumes nothing.
use mathlib.Core.Path.{refl}
use Rattle.plain.specs.Loader.{settle, entries_of, loads_of}
use Rattle.units.proofs.Kept.{quiet-reads}
use Rattle.units.proofs.settle.Goals as goal

pub returns-in-Err : goal.returns-in-Err
unfolding settle entries_of loads_of
returns-in-Err c = λ r. rw (c.in-Err.is, c.refused.ensures) (record { leaves = refl; entered = refl; none = refl })

pub returns-in-Ok : goal.returns-in-Ok
returns-in-Ok c = λ r. rw (c.in-Ok.is, c.quiet.ensures, c.unit_after.ensures) (quiet-reads _)
