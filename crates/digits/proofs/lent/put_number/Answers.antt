-- `digits::lent::put_number` meets its contract.
-- Assumes nothing.
use native.Mathlib.Omega.{arith}
use Rattle.text.proofs.DigitsOf.{digits-length}
use Rattle.digits.proofs.Puts.{number_put}
use Rattle.digits.proofs.lent.put_number.Goals as goal

pub overflow_add-end : goal.overflow_add-end
overflow_add-end c = omega (arith, digits-length c.args.size c.args.n)

pub slice_bounds-put_digits-end : goal.slice_bounds-put_digits-end
slice_bounds-put_digits-end c = omega (arith, digits-length c.args.size c.args.n)

pub returns : goal.returns
returns c = search number_put
