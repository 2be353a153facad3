-- `text::fields::field` meets its contract.
-- Assumes nothing.
use Rattle.std.proofs.Common.{rules}
use Rattle.text.proofs.Comma.{field_until, field_whole}
use Rattle.text.proofs.fields.field.Goals as goal

pub returns-in-Some : goal.returns-in-Some
returns-in-Some c = search (field_until, rules)

pub returns-in-None : goal.returns-in-None
returns-in-None c = search (field_whole, rules)
