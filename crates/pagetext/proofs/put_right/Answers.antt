-- `pagetext::put_right` meets its contract.
-- Assumes nothing.
use mathlib.Core.Path.{◌∙◌}
use native.Mathlib.Omega.{arith}
use Prim.Native.Nat.{◌<◌}
use borrow.Author.Rules.{rules}
use Rattle.pagetext.proofs.Column.{pair_filled, last_pair, last_digit, no_room, short_of}
use Rattle.pagetext.proofs.put_right.Goals.{then-loop-rest-test+else-end-ge2, else-loop-rest-test}
use Rattle.pagetext.proofs.put_right.Goals as goal

pub loop-rest-preserved : goal.loop-rest-preserved
loop-rest-preserved c =
    pair_filled _ _ _ _ c.loop-rest.invariant _ c.if-end-ge2.true c.put_pair.ensures c.loop-rest-test.true
    (omega (arith, c.loop-rest.auto.rest-fits))

pub returns-then-end-ge1 : goal.returns-then-end-ge1
returns-then-end-ge1 c = last_digit _ _ _ _ c.loop-rest.invariant _ (search rules) c.if-end-ge1.true c.if-rest-lt10.true

pub returns-then-end-ge2-2 : goal.returns-then-end-ge2-2
returns-then-end-ge2-2 c =
    let few : c.loop-rest.rest < 100 =
    elim c.loop-rest-test.branch [
      | then-loop-rest-test+else-end-ge2 w ↦ absurd (omega (arith, c.if-end-ge2-2.true, w.if-end-ge2.false))
      | else-loop-rest-test w ↦ w.loop-rest-test.false
    ] in
    last_pair _ _ _ _ c.loop-rest.invariant _ (search rules) _ c.if-end-ge2-2.true c.put_pair-then-end-ge2-2.ensures c.if-rest-ge10.true few

pub returns-else-rest-ge10 : goal.returns-else-rest-ge10
returns-else-rest-ge10 c =
    c.fill-else-rest-ge10.ensures.after (λ y e. e)
    ∙ no_room _ _ _ _ c.loop-rest.invariant _ (search rules)
    (short_of _ _ (omega (arith, c.loop-rest.auto.rest-fits)) c.else-rest-lt10.either c.else-rest-ge10.either)
