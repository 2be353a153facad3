-- What the loops of `runs::skip::skip_lines` keep, and why they end.
use Prim.Native.Nat.{◌-◌}
use lib.ListN.{length}
use Rattle.units.specs.declared.Unit.TheVariants.{Skips}
use Rattle.runs.specs.Run.{went_by, SkipsTo}
use Rattle.runs.proofs.skip.skip_lines.Given as goal

abbrev pub invariant-loop-end : goal.invariant-loop-end
invariant-loop-end l = SkipsTo l.lines l.piece l.at (went_by Skips l.n l.e)

abbrev pub decreases-loop-end : goal.decreases-loop-end
decreases-loop-end l = length l.piece - l.e
