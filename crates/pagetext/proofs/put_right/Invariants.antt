-- The loop of `pagetext::put_right`: the column so far, and the digits that are to come.
-- Assumes nothing.
use Rattle.pagetext.proofs.Column.{Filled}
use Rattle.pagetext.proofs.put_right.Given as goal

abbrev pub invariant-loop-rest : goal.invariant-loop-rest
invariant-loop-rest l = Filled l.n l.rest l.end l.column

abbrev pub decreases-loop-rest : goal.decreases-loop-rest
decreases-loop-rest l = l.rest
