-- What the loops of `runs::rows::read_details` keep, and why they end.
use Prim.Native.Nat.{◌-◌, ◌≤◌}
use lib.ListN.{length}
use Rattle.plain.specs.Rows.{max_details}
use Rattle.runs.proofs.DetailRows.{DetailsTo}
use Rattle.runs.proofs.rows.read_details.Given as goal

abbrev pub invariant-loop-k : goal.invariant-loop-k
invariant-loop-k l = DetailsTo l.p l.lines l.piece l.at l.initial.parts l.from l.parts l.k l.n l.e × (l.from ≤ l.k) × (l.k ≤ max_details)

abbrev pub decreases-loop-k : goal.decreases-loop-k
decreases-loop-k l = length l.piece - l.e
