-- What the loop of `padded::padding::spaces_last` keeps.
use Rattle.std.proofs.Common.{◌≡◌, ◌-◌, ◌&&◌, drop}
use Rattle.padded.specs.Private.{spaces_last}
use Rattle.padded.proofs.padding.spaces_last.Given as goal

abbrev pub invariant-loop-i : goal.invariant-loop-i
invariant-loop-i l = spaces_last l.s ≡ (l.ok && spaces_last (drop (l.i - 1) l.s))
