-- `count` of a report of words meets its contract.
-- Assumes nothing.
use mathlib.Core.Path.{sym}
use Rattle.report.proofs.Entries.{entries-count}
use Rattle.report.proofs.listed.U32Listed.count.Goals as goal

pub returns : goal.returns
returns c = sym (entries-count _ c.args.report.now)
