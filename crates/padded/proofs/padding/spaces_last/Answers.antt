-- `padded::padding::spaces_last` meets its contract.
-- Assumes nothing.
use mathlib.Core.Path.{refl}
use native.Mathlib.Omega.{arith}
use Rattle.padded.proofs.Scan.{last_step, last_end}
use Rattle.padded.proofs.padding.spaces_last.Goals as goal

pub loop-i-init : goal.loop-i-init
loop-i-init c = refl

pub loop-i-preserved : goal.loop-i-preserved
loop-i-preserved c = last_step _ c.loop-i.i c.loop-i.ok (omega arith) c.loop-i.invariant (omega arith)

pub returns : goal.returns
returns c = last_end _ c.loop-i.i c.loop-i.ok (omega arith) c.loop-i.invariant (omega arith)
