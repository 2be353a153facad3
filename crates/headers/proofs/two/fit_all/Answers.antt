-- `headers::two::fit_all` meets its contract.
-- Assumes nothing.
use native.Mathlib.Omega.{arith}
use Rattle.headers.proofs.Forms.{walk_ends, walk_on, walk_done}
use Rattle.headers.proofs.two.fit_all.Goals as goal

pub returns-then-not-fits : goal.returns-then-not-fits
returns-then-not-fits c = walk_ends _ _ _ c.loop-form.invariant.1 c.loop-form-test.true _ _ c.next.ensures.taken _ c.fits.ensures c.if-not-fits.true

pub loop-form-preserved : goal.loop-form-preserved
loop-form-preserved c = (
  omega (arith, c.next.ensures.count),
  walk_on _ _ _ c.loop-form.invariant.1 c.loop-form-test.true _ _ c.next.ensures.taken _ c.fits.ensures c.if-not-fits.false,
)

pub returns : goal.returns
returns c = walk_done _ _ _ c.loop-form.invariant.1 c.loop-form-test.false c.loop-form.invariant.0
