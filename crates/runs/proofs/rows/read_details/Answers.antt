-- `runs::rows::read_details` meets its contract.
-- Assumes nothing.
use mathlib.Core.Path.{refl}
use native.Mathlib.Omega.{arith}
use Rattle.runs.proofs.DetailRows.{details_begin, details_stop, details_again}
use Rattle.runs.proofs.rows.read_details.Goals as goal

pub loop-k-init : goal.loop-k-init
loop-k-init c = (details_begin _ _ _ _ _ _ c.requires.0 refl c.requires.1 c.requires.2, omega arith, omega arith)

pub loop-k-preserved : goal.loop-k-preserved
loop-k-preserved c = (details_again _ _ _ _ _ _ _ _ _ _ c.loop-k.invariant.0 (omega (arith, c.min-stop.ensures)) _ _ c.in-Some.ensures (omega (arith, c.min-stop.ensures)) c.loop-k.invariant.1, omega arith, omega (arith, c.in-Some.ensures.few))

pub returns-in_default : goal.returns-in_default
returns-in_default c = rw c.rows_read.ensures (details_stop _ _ _ _ _ _ _ _ _ _ c.loop-k.invariant.0 (omega (arith, c.min-stop.ensures)) _ c.in_default.ensures)
