-- `registry::Index::flags` meets its contract.
-- Assumes nothing.
use native.Mathlib.Omega.{arith}
use Rattle.registry.proofs.Laws.{meters-most}
use Rattle.registry.proofs.Index.flags.Goals as goal

pub offset_bounds-self-meter : goal.offset_bounds-self-meter
offset_bounds-self-meter c = omega (arith, meters-most c.args.self.now.registry.now, c.requires)
