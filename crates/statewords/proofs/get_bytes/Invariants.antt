-- What the loop of `statewords::get_bytes` keeps.
use Rattle.std.proofs.Common.{◌≡◌, length, take}
use Rattle.statewords.specs.Layout.{bytes_in}
use Rattle.statewords.proofs.get_bytes.Given as goal

abbrev pub invariant-loop-i : goal.invariant-loop-i
invariant-loop-i g l = (take l.i l.to ≡ take l.i (bytes_in l.from)) × (length l.to ≡ length l.from)
