-- `text::fields::field_count` meets its contract.
-- Assumes nothing.
use borrow.Author.Rules.{rules}
use Rattle.text.proofs.Comma.{count-comma, count_other, count-last}
use Rattle.text.proofs.fields.field_count.Goals as goal
use Rattle.text.proofs.fields.field_count.Goals.{then-b-eq44, else-b-eq44}

pub loop-b-preserved : goal.loop-b-preserved
loop-b-preserved c = record {
  small = search rules;
  count = elim c.if-b-eq44.branch [ then-b-eq44 w ↦ search (count-comma, rules) | else-b-eq44 w ↦ search (count_other, rules) ];
}

pub returns : goal.returns
returns c = search (count-last, rules)
