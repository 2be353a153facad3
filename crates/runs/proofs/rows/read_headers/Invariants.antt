-- What the loops of `runs::rows::read_headers` keep, and why they end.
use mathlib.Core.Path.{◌≡◌}
use mathlib.Core.Bool.{false}
use Prim.Native.Nat.{◌-◌}
use lib.ListN.{length}
use Rattle.runs.specs.Run.{went_by, RowsRan}
use Rattle.runs.proofs.rows.read_headers.Given as goal

abbrev pub invariant-loop-r : goal.invariant-loop-r
invariant-loop-r l = RowsRan l.fn.p l.lines l.piece l.at l.initial.parts (went_by l.r.unit l.r.lines l.r.at) l.parts × (l.r.all ≡ false)

abbrev pub decreases-loop-r : goal.decreases-loop-r
decreases-loop-r l = length l.piece - l.r.at
