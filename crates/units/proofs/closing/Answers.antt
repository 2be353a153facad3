-- `units::closing` meets its contract.
-- Assumes nothing.
use mathlib.Core.Logic.{⊎_elim}
use Rattle.plain.specs.Loader.{close, entries_of}
use Rattle.units.proofs.closing.Goals as goal

pub returns-in-None : goal.returns-in-None
unfolding close entries_of
returns-in-None c = λ r. ⊎_elim (λ e. rw e) (λ e. rw e) c.in-None.is

pub returns-in-Takes : goal.returns-in-Takes
unfolding close entries_of
returns-in-Takes c = λ r. rw (c.in-Takes.is, c.from.ensures)

pub returns-in-Waits : goal.returns-in-Waits
unfolding close entries_of
returns-in-Waits c = λ r. rw (c.in-Waits.is, c.meter_number.ensures)
