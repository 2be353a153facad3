-- `records::begin_record` meets its contract.
-- Assumes nothing.
use borrow.Author.Rules.{rules}
use Rattle.records.proofs.Steps.{begun-row}
use Rattle.records.proofs.begin_record.Goals as goal

pub returns : goal.returns
returns c = begun-row c.args.one c.args.parts.now _ _ _ (search rules) (search rules) c.requires.real c.intervals_on-count.ensures c.put_padded.ensures (search rules) c.put_padded-2.ensures c.begun.ensures
