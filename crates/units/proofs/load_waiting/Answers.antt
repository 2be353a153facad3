-- `units::load_waiting` meets its contract.
-- Assumes nothing.
use mathlib.Core.Path.{ap, ◌∙◌}
use native.Mathlib.Omega.{arith}
use Rattle.registry.proofs.Laws.{meters-most, window-most}
use Rattle.plain.proofs.Rules.{channel-below}
use Rattle.units.proofs.Loads.{none-waits, load-in, no-meter, no-day}
use Rattle.units.proofs.load_waiting.Goals as goal

pub returns-in_default : goal.returns-in_default
returns-in_default c = none-waits _ _ _ _ c.in_default.not-Waits

pub cell_number-requires-clause-sizes : goal.cell_number-requires-clause-sizes
cell_number-requires-clause-sizes c = record { few = rw c.meters-meters.ensures (meters-most _); short = rw c.window-days.ensures (window-most _) }

pub cell_number-requires-clause-among : goal.cell_number-requires-clause-among
cell_number-requires-clause-among c =
    record {
      meter = c.if-at-meters.true;
      channel = rw c.from-2.ensures (channel-below _);
      day = omega (arith, c.if-at-days.true);
    }

pub returns-then-at-days : goal.returns-then-at-days
returns-then-at-days c =
    load-in _ _ _ _ _ _ _ c.in-Waits.is _ c.from-2.ensures _ _
    (omega (arith, c.from.ensures, c.meters-meters.ensures, c.if-at-meters.true))
    (omega (arith, c.from-3.ensures, ap (λ w. w.days) c.window-days.ensures, c.if-at-days.true))
    (c.cell_number.ensures.0 ∙ rw (c.meters-meters.ensures, c.window-days.ensures, c.from.ensures, c.from-3.ensures))
    c.load.ensures

pub returns-else-at-days : goal.returns-else-at-days
returns-else-at-days c =
    no-day _ _ _ _ _ _ _ c.in-Waits.is _ c.from-2.ensures
    (omega (arith, c.from.ensures, c.meters-meters.ensures, c.if-at-meters.true))
    (omega (arith, c.from-3.ensures, ap (λ w. w.days) c.window-days.ensures, c.if-at-days.false))

pub returns-else-at-meters : goal.returns-else-at-meters
returns-else-at-meters c =
    no-meter _ _ _ _ _ _ _ c.in-Waits.is _ c.from-2.ensures (omega (arith, c.from.ensures, c.meters-meters.ensures, c.if-at-meters.false))
