-- `runs::run_over` meets its contract.
-- Assumes nothing.
use Rattle.runs.proofs.Passing.{passes-rows, passes-skips, passes_none}
use Rattle.runs.proofs.run_over.Goals as goal

pub returns-in-Takes : goal.returns-in-Takes
returns-in-Takes c = passes-rows c.args.unit _ _ _ _ _ c.behind_rows.result _ _ c.in-Takes.is c.if-held-eq0.true c.record_rows.result _ c.record_rows.ensures c.behind_rows.ensures

pub returns-in-Skips : goal.returns-in-Skips
returns-in-Skips c = passes-skips c.args.unit _ _ _ _ _ c.skip_lines.result c.in-Skips.is c.if-held-eq0.true c.skip_lines.ensures

pub returns : goal.returns
returns c = passes_none c.args.unit _ _ _ _ _ c.gone_by.result c.requires c.gone_by.ensures
