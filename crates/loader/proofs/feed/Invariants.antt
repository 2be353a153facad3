-- What the loop of `loader::feed` keeps, and why it ends.
use mathlib.Core.Path.{◌≡◌}
use Prim.Native.Nat.{◌-◌}
use lib.ListN.{length}
use Rattle.loader.proofs.Batching.{Comes}
use Rattle.loader.proofs.feed.Given as goal

abbrev pub invariant-loop-at : goal.invariant-loop-at
invariant-loop-at g l =
    Comes g.T.Slot.entries g.T.Slot.behind l.piece l.registry l.initial.table l.initial.report l.fn.state l.table l.report l.state l.at l.count
    × (l.index.registry.now ≡ l.registry)

abbrev pub decreases-loop-at : goal.decreases-loop-at
decreases-loop-at g l = length l.piece - l.at
