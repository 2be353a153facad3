-- `records::put_intervals` meets its contract.
-- Assumes nothing.
use Rattle.std.proofs.Common.{◌≡◌, ◌+◌, ◌*◌, sym, ◌∙◌, arith}
use Rattle.records.proofs.Steps.{put-on, put-done}
use Rattle.records.proofs.put_intervals.Goals as goal

pub loop-i-init : goal.loop-i-init
loop-i-init c =
    let z : c.args.k * 4 + 0 ≡ c.args.k * 4 = omega arith in
    rw z

pub loop-i-preserved : goal.loop-i-preserved
loop-i-preserved c = put-on _ _ _ _ c.args.row.now _ (omega arith) c.put_interval.ensures ∙ c.loop-i.invariant

pub returns : goal.returns
returns c = sym (put-done _ _ _ c.args.row.now (omega arith)) ∙ c.loop-i.invariant
