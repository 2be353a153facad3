-- `entry` of a report of words meets its contract.
-- Assumes nothing.
use Rattle.report.proofs.Entries.{words-hold, entry-next}
use Rattle.report.proofs.listed.U32Listed.entry.Goals as goal

pub entry_at-requires : goal.entry_at-requires
entry_at-requires c = words-hold c.args.report.now c.args.n c.requires

pub returns : goal.returns
returns c = entry-next c.args.report.now c.args.n _ c.entry_at.ensures c.requires
