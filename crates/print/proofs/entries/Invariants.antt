-- What the loop of `print::entries` keeps, and why it ends.
use Rattle.std.proofs.Common.{◌-◌, ◌≤◌}
use Rattle.print.proofs.entries.Given as goal

abbrev pub invariant-loop-i : goal.invariant-loop-i
invariant-loop-i g l = l.i ≤ l.n

abbrev pub decreases-loop-i : goal.decreases-loop-i
decreases-loop-i g l = l.n - l.i
