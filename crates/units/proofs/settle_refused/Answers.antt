-- `units::settle_refused` meets its contract.
-- Assumes nothing.
use mathlib.Core.Path.{refl}
use Rattle.plain.specs.Loader.{settle, entries_of, loads_of}
use Rattle.units.proofs.settle_refused.Goals as goal

pub returns : goal.returns
unfolding settle entries_of loads_of
returns c = λ r. rw (c.refused_by.ensures) (record { leaves = refl; entered = refl; none = refl })
