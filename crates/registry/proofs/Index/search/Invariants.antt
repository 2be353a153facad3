-- What the loop of `registry::Index::search` keeps, and why it ends.
use Prim.Native.Nat.{◌-◌}
use Rattle.registry.proofs.Halves.{Bracket}
use Rattle.registry.proofs.Index.search.Given as goal

abbrev pub invariant-loop-low : goal.invariant-loop-low
invariant-loop-low l = Bracket l.self.registry.now l.id l.low l.high

abbrev pub decreases-loop-low : goal.decreases-loop-low
decreases-loop-low l = l.high - l.low
