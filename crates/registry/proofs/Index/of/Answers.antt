-- `registry::Index::of` meets its contract.
-- Assumes nothing.
use mathlib.Core.Path.{refl, sym, ◌∙◌}
use Rattle.registry.proofs.Walk.{walk_start, walk_owner, walk_meter, walk_broken, walk_disorder, order-owner, order-room, meter-whole, start_broken, index-whole}
use Rattle.registry.proofs.Index.of.Goals as goal

pub broken-requires : goal.broken-requires
broken-requires c = start_broken _ _ c.read_start.ensures c.in_default.is

pub loop-at-init : goal.loop-at-init
loop-at-init c = walk_start _ _ _ _ c.read_start.ensures c.in-Some.is refl

pub broken-requires-in_default-kind_at : goal.broken-requires-in_default-kind_at
broken-requires-in_default-kind_at c = walk_broken c.loop-at.invariant c.loop-at-test.true _ c.kind_at.ensures c.in_default-kind_at.is

pub loop-at-preserved-in-Owner : goal.loop-at-preserved-in-Owner
loop-at-preserved-in-Owner c = walk_owner c.loop-at.invariant c.loop-at-test.true _ c.kind_at.ensures _ c.in-Some-kind_at.is c.in-Owner.is

pub in_order-requires-clause-whole : goal.in_order-requires-clause-whole
in_order-requires-clause-whole c = meter-whole c.loop-at.invariant c.loop-at-test.true _ c.kind_at.ensures _ c.in-Some-kind_at.is c.in-Meter.is

pub broken-requires-then-not-in_order : goal.broken-requires-then-not-in_order
broken-requires-then-not-in_order c = walk_disorder c.loop-at.invariant c.loop-at-test.true _ c.kind_at.ensures _ c.in-Some-kind_at.is c.in-Meter.is _ c.in_order.ensures c.if-not-in_order.true

pub unwrap-requires : goal.unwrap-requires
unwrap-requires c = order-owner _ _ c.loop-at.last c.loop-at.count c.loop-at.at (sym c.in_order.ensures ∙ c.if-not-in_order.false)

pub bounds-places-count : goal.bounds-places-count
bounds-places-count c = order-room _ c.loop-at.owner c.loop-at.last _ c.loop-at.at (sym c.in_order.ensures ∙ c.if-not-in_order.false)

pub loop-at-preserved : goal.loop-at-preserved
loop-at-preserved c =
    walk_meter c.loop-at.invariant c.loop-at-test.true _ c.kind_at.ensures _ c.in-Some-kind_at.is c.in-Meter.is _ c.in_order.ensures _ c.unwrap.ensures c.if-not-in_order.false

pub invariant_of-result : goal.invariant_of-result
invariant_of-result c = record { holds = index-whole _ _ _ _ c.loop-at.invariant c.loop-at-test.false }
