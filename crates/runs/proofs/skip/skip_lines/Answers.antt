-- `runs::skip::skip_lines` meets its contract.
-- Assumes nothing.
use Rattle.runs.proofs.Skipping.{skips_begin, skips-again}
use Rattle.runs.proofs.skip.skip_lines.Goals as goal

pub loop-end-init : goal.loop-end-init
loop-end-init c = skips_begin _ _ _ c.requires

pub loop-end-preserved : goal.loop-end-preserved
loop-end-preserved c = skips-again _ _ _ _ _ c.loop-end.invariant _ c.in-Some.ensures.1 c.in-Some.ensures.0 _ c.is_skipped.ensures c.if-not-is_skipped.false

pub returns : goal.returns
returns c = rw c.gone_by.ensures c.loop-end.invariant
