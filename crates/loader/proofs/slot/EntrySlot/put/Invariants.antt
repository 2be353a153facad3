-- What the loop of `loader::slot::EntrySlot::put` keeps.
use Rattle.std.proofs.Common.{◌≡◌}
use Rattle.report.specs.Words.{first_entries}
use Rattle.loader.specs.Report.{pasted}
use Rattle.loader.proofs.slot.EntrySlot.put.Given as goal

abbrev pub invariant-loop-i : goal.invariant-loop-i
invariant-loop-i l = l.report ≡ pasted l.initial.report l.from (first_entries l.i l.words)
