-- What the loop of `reexport::there_and_back` keeps.
use Rattle.std.proofs.Common.{◌≤◌, length}
use Rattle.reexport.proofs.there_and_back.Given as goal

abbrev pub invariant-loop-meter : goal.invariant-loop-meter
invariant-loop-meter g l = l.end ≤ length l.out
