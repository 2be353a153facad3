-- `registry::entry::text_at` meets its contract.
-- Assumes nothing.
use borrow.Author.Rules.{rules}
use Rattle.registry.proofs.Entries.{text-part}
use Rattle.registry.proofs.entry.text_at.Goals as goal

pub returns : goal.returns
returns c = search (text-part, rules)
