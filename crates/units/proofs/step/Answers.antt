-- `units::step` meets its contract.
-- Assumes nothing.
use mathlib.Core.Path.{refl}
use Rattle.plain.specs.Loader.{step_kind, entries_of, loads_of}
use Rattle.units.specs.Answer.{unit_of}
use Rattle.units.proofs.Kept.{quiet-reads, opener-reads, stray-reads, behind-reads, skips-reads, row-reads}
use Rattle.units.proofs.step.Goals as goal

pub returns-in-Empty : goal.returns-in-Empty
unfolding step_kind
returns-in-Empty c = rw (c.in-Empty.is, c.quiet.ensures) (quiet-reads _)

pub returns-in-Opener : goal.returns-in-Opener
returns-in-Opener c = rw c.in-Opener.is (opener-reads _ _ _ (unit_of c.args.unit c.args.parts.now) _ _ c.«open».ensures)

pub returns-in-None : goal.returns-in-None
returns-in-None c = rw (c.in-None.is, c.stray.ensures) (stray-reads _ _ _ _ c.in-Detail.is)

pub returns-in-Takes : goal.returns-in-Takes
returns-in-Takes c = rw (c.in-Takes.is, row-reads _ _ _ _ c.in-Detail.is, ← c.row_next-row.ensures.says) (c.settle.ensures _)

pub returns-in-Detail-kind : goal.returns-in-Detail-kind
unfolding step_kind entries_of loads_of
returns-in-Detail-kind c = rw (c.in-Waits.is, c.in-Detail-kind.is, c.surplus.ensures) (record { leaves = refl; entered = refl; none = refl })

pub returns-in_default : goal.returns-in_default
returns-in_default c = rw (c.in-Waits.is, c.stray-in_default.ensures) (behind-reads _ _ _ _ c.in-Detail.is c.in_default.not-Detail _ _ _)

pub returns-in-Skips : goal.returns-in-Skips
returns-in-Skips c = rw (c.quiet-in-Skips.ensures, c.in-Skips.is) (skips-reads _ _ _ _ c.in-Detail.is)
