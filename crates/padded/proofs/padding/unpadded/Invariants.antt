-- What the loop of `padded::padding::unpadded` keeps, and why it ends.
use Rattle.std.proofs.Common.{◌≡◌, length}
use Rattle.padded.specs.Padding.{unpad}
use Rattle.padded.proofs.padding.unpadded.Given as goal

abbrev pub invariant-loop-left : goal.invariant-loop-left
invariant-loop-left l = unpad l.left ≡ unpad l.s

abbrev pub decreases-loop-left : goal.decreases-loop-left
decreases-loop-left l = length l.left
