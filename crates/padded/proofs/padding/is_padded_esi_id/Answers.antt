-- `padded::padding::is_padded_esi_id` meets its contract.
-- Assumes nothing.
use borrow.Author.Rules.{rules}
use Rattle.padded.proofs.Identifiers.{esi_id-tests}
use Rattle.padded.proofs.padding.is_padded_esi_id.Goals as goal

pub returns : goal.returns
returns c = search (esi_id-tests, rules)
