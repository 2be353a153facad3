-- `registry::Index::find` meets its contract.
-- Assumes nothing.
use native.Mathlib.Omega.{arith}
use Rattle.registry.proofs.Halves.{hint_right}
use Rattle.registry.proofs.Index.find.Goals as goal

pub returns-then-same : goal.returns-then-same
returns-then-same c = hint_right _ _ (let counted = c.args.self.now.holds.counted in omega (arith, c.if-self.true, counted)) _ _ c.id_of.ensures _ c.same.ensures c.if-same.true
