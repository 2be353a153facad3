-- `statewords::get_bytes` meets its contract.
-- Assumes nothing.
use Rattle.std.proofs.Common.{rules}
use Rattle.statewords.proofs.Copies.{get_again}
use Rattle.statewords.proofs.get_bytes.Goals as goal

pub loop-i-preserved : goal.loop-i-preserved
loop-i-preserved g c = get_again c.loop-i.to c.args.from.now c.loop-i.i c.loop-i.invariant (search rules)
