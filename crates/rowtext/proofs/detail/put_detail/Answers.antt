-- `rowtext::detail::put_detail` meets its contract.
-- Assumes nothing.
use native.Mathlib.Omega.{arith}
use Rattle.rowtext.proofs.Texts.{interval-room, interval-next, detail-all}
use Rattle.rowtext.proofs.detail.put_detail.Goals as goal

pub put_interval-requires : goal.put_interval-requires
put_interval-requires g c = (
  omega arith,
  (c.requires.wh_lt_value_end _ _ (omega arith), interval-room _ _ c.args.k c.loop-interval.interval-index c.args.intervals.now c.loop-interval.invariant _ (omega arith) c.requires.room),
)

pub loop-interval-preserved : goal.loop-interval-preserved
loop-interval-preserved g c =
    interval-next _ _ c.args.k c.loop-interval.interval-index c.args.intervals.now c.loop-interval.invariant _ (omega arith) c.put_interval.ensures

pub returns : goal.returns
returns g c = detail-all _ _ c.args.k c.loop-interval.interval-index c.args.intervals.now c.loop-interval.invariant (omega arith) c.put-2.ensures
