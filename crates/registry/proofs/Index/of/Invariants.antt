-- What the loop of `registry::Index::of` keeps, and why it ends.
use Prim.Native.Nat.{◌-◌}
use lib.ListN.{length}
use Rattle.registry.proofs.Walk.{Walked}
use Rattle.registry.proofs.Index.of.Given as goal

abbrev pub invariant-loop-at : goal.invariant-loop-at
invariant-loop-at l = Walked l.registry l.window l.places l.at l.owner l.last l.count

abbrev pub decreases-loop-at : goal.decreases-loop-at
decreases-loop-at l = length l.registry - l.at
