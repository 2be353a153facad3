-- `runs::rows::read_headers` meets its contract.
-- Assumes nothing.
use mathlib.Core.Path.{refl}
use Rattle.runs.proofs.LineMore.{rows-begin, rows_left}
use Rattle.runs.proofs.HeaderRows.{headers_stop, headers_again}
use Rattle.runs.proofs.rows.read_headers.Goals as goal

pub loop-r-init : goal.loop-r-init
loop-r-init c = rw c.gone_by-r.ensures (rows-begin _ _ _ _ _ c.requires.0 c.requires.1, refl)

pub loop-r-preserved : goal.loop-r-preserved
loop-r-preserved c = (headers_again _ _ _ _ _ c.loop-r.r _ c.loop-r.invariant.0 _ _ c.in-Some.ensures c.loop-r-test.true, c.loop-r.invariant.1)

pub returns-in_default : goal.returns-in_default
returns-in_default c = (rows_left _ _ _ _ _ _ _ (headers_stop _ _ _ _ _ c.loop-r.r _ c.loop-r.invariant.0 _ c.in_default.ensures) c.loop-r.invariant.1, c.loop-r.invariant.1)

pub returns : goal.returns
returns c = (rows_left _ _ _ _ _ _ _ c.loop-r.invariant.0 c.loop-r.invariant.1, c.loop-r.invariant.1)
