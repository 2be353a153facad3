-- What the loop of `direct::read_line` keeps: the intervals before an index are read, and the line so far is their text.
use Rattle.direct.proofs.Row.{RowSoFar}
use Rattle.direct.proofs.read_line.Given as goal

abbrev pub invariant-loop-interval : goal.invariant-loop-interval
invariant-loop-interval l = RowSoFar l.k l.t l.at l.interval-index l.interval-items
