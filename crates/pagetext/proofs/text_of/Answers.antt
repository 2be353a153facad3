-- `pagetext::text_of` meets its contract.
-- Assumes nothing.
use mathlib.Core.Path.{sym, ◌∙◌}
use borrow.Author.Tests.{ltb-false}
use Rattle.std.proofs.lemmas.Bool.{ltb-true}
use Rattle.pagetext.proofs.Table.{text_at, no_text}
use Rattle.pagetext.proofs.text_of.Goals as goal

pub returns-in-Some : goal.returns-in-Some
returns-in-Some c = c.in-Some.ensures.lookup.1 ∙ text_at c.args.verdict _ (ltb-true _ _ (sym c.in-Some.ensures.lookup.0))

pub returns-in-None : goal.returns-in-None
returns-in-None c = no_text c.args.verdict (ltb-false _ _ (sym c.in-None.ensures.lookup.0))
