-- What the loop of `digits::put_digits` keeps.
use Rattle.std.proofs.Common.{◌≡◌, ◌++◌, length, drop}
use Rattle.text.specs.Number.{digits_of}
use Rattle.digits.proofs.put_digits.Given as goal

abbrev pub invariant-loop-i : goal.invariant-loop-i
invariant-loop-i l = digits_of l.i l.rest ++ drop l.i l.to ≡ digits_of (length l.to) l.n
