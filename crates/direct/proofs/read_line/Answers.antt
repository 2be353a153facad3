-- `direct::read_line` meets its contract.
-- Assumes nothing.
use Rattle.std.proofs.Common.{refl, arith}
use Rattle.direct.proofs.Row.{row-first, row-on, row-done}
use Rattle.direct.proofs.read_line.Goals as goal

pub loop-interval-init : goal.loop-interval-init
loop-interval-init c = row-first _ _ _ c.begins_code.ensures c.if-not-begins_code.false _ refl

pub loop-interval-preserved : goal.loop-interval-preserved
loop-interval-preserved c = row-on _ _ _ _ _ c.loop-interval.invariant c.loop-interval-test.true _ (rw c.unwrap.ensures at c.as_array.ensures.cases).same _ _ c.in_ok-read.ensures

pub row_end-requires : goal.row_end-requires
row_end-requires c = omega (arith, c.loop-interval.invariant.near)

pub returns : goal.returns
returns c = row-done _ _ _ _ _ c.loop-interval.invariant c.told-t (omega arith) _ c.in_ok-size.ensures

pub overflow_add-at : goal.overflow_add-at
overflow_add-at c = omega (arith, c.loop-interval.invariant.near)

pub slice_bounds-as_array-end : goal.slice_bounds-as_array-end
slice_bounds-as_array-end c = omega (arith, c.told-t, c.loop-interval.invariant.near)
