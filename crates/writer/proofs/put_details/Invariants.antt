-- What the loop of `writer::put_details` keeps.
use Rattle.std.proofs.Common.{◌≡◌, ◌++◌}
use Rattle.lines.specs.Text.{rows}
use Rattle.writer.specs.Record.{detail_lines}
use Rattle.writer.proofs.put_details.Given as goal

abbrev pub invariant-loop-k : goal.invariant-loop-k
invariant-loop-k g l = l.text ≡ l.fn.text ++ rows (detail_lines l.k l.words)
