-- What the loop of `entrytext::put_entries` keeps.
use Rattle.std.proofs.Common.{◌≡◌, ◌++◌, ◌-◌}
use Rattle.entrytext.specs.Listing.{lines_from}
use Rattle.entrytext.proofs.put_entries.Given as goal

abbrev pub invariant-loop-n : goal.invariant-loop-n
invariant-loop-n g l = l.text ≡ l.fn.text ++ lines_from l.report l.from (l.n - l.from)
