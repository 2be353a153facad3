-- What the loop of `lines::end::stride` keeps.
use Rattle.std.proofs.Common.{◌≡◌, drop}
use Rattle.lines.specs.End.{NoneTo}
use Rattle.lines.proofs.end.stride.Given as goal

abbrev pub invariant-loop-part : goal.invariant-loop-part
invariant-loop-part l = record {
  size : l.part-iterator.size ≡ 16;
  left : drop l.e l.piece ≡ l.part-iterator.rest.now;
  none : NoneTo l.piece l.at l.e;
}
