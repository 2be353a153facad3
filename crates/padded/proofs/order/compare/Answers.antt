-- `padded::order::compare` meets its contract.
-- Assumes nothing.
use mathlib.Core.Path.{◌∙◌}
use mathlib.Core.Logic.{⊎_elim, inl, inr}
use Rattle.padded.proofs.Words.{texts_order, words_none, words_decide, words_level}
use Rattle.padded.proofs.order.compare.Goals as goal

pub loop-a-init : goal.loop-a-init
loop-a-init c =
    let zip = c.into_iter-a-iterator.result in
    let zipped = c.into_iter-a-iterator.ensures.into_iter_gives in
    texts_order _ _ zip.a.rest.now zip.b.rest.now c.told-s c.told-t c.fits-s c.fits-t
    (rw (zipped, c.zip-a-items.ensures.first, c.iter.ensures.rest) c.as_chunks.ensures.front) (rw (zipped, c.zip-a-items.ensures.second.0) c.as_chunks-2.ensures.front)

pub loop-a-preserved : goal.loop-a-preserved
loop-a-preserved c =
    let next = c.in-Some.ensures.steps in
    words_level c.loop-a.invariant _ _ _ _ next.0 next.1 _ _ c.from_be_bytes.ensures c.from_be_bytes-in-loop-a.ensures _ c.cmp.ensures c.in-Equal.is

pub returns-in_default : goal.returns-in_default
returns-in_default c =
    let next = c.in-Some.ensures.steps in
    words_decide c.loop-a.invariant _ _ _ _ next.0 next.1 _ _ c.from_be_bytes.ensures c.from_be_bytes-in-loop-a.ensures _ c.cmp.ensures c.in_default.not-Equal

pub returns : goal.returns
returns c = words_none _ _ (⊎_elim (λ x. inl x.1.0) (λ x. inr x.1.0) c.in-None.ensures.steps) ∙ c.loop-a.invariant
