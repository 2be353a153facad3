-- What the loop of `entrytext::lent::put_entries` keeps.
use Rattle.std.proofs.Common.{◌≡◌, ◌-◌, ◌≤◌, length}
use Rattle.digits.specs.Put.{Put}
use Rattle.entrytext.specs.Listing.{lines_from}
use Rattle.entrytext.proofs.lent.put_entries.Given as goal

abbrev pub invariant-loop-n : goal.invariant-loop-n
invariant-loop-n l =
    (l.end ≤ length l.out) × (length l.out ≡ length l.fn.out) × Put l.fn.out 0 (lines_from l.report l.from (l.n - l.from)) l.out l.end
