-- What the loop of `text::fields::field_count` keeps.
use Rattle.std.proofs.Common.{◌≡◌, ◌+◌, ◌≤◌, length, drop}
use Rattle.text.specs.Field.{cut}
use Rattle.text.proofs.fields.field_count.Given as goal

abbrev pub invariant-loop-b : goal.invariant-loop-b
invariant-loop-b l = record {
  small : l.n ≤ l.b-index + 1;
  count : length (cut l.line) + 1 ≡ l.n + length (cut (drop l.b-index l.line));
}
