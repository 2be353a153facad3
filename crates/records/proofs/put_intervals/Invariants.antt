-- What the loop of `records::put_intervals` keeps: putting the intervals that are left makes the words that are due.
use Rattle.std.proofs.Common.{◌≡◌, ◌+◌, drop}
use Rattle.cell.specs.Read.{with_intervals}
use Rattle.records.proofs.put_intervals.Given as goal

abbrev pub invariant-loop-i : goal.invariant-loop-i
invariant-loop-i l = with_intervals l.words (l.first + l.i) (drop l.i l.row) ≡ with_intervals l.initial.words l.first l.row
