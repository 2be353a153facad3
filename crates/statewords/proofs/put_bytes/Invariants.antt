-- What the loop of `statewords::put_bytes` keeps.
use Rattle.std.proofs.Common.{◌≡◌, take}
use Rattle.statewords.proofs.put_bytes.Given as goal

abbrev pub invariant-loop-i : goal.invariant-loop-i
invariant-loop-i l = take l.i l.to ≡ take l.i l.from
