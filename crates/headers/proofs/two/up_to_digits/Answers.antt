-- `headers::two::up_to_digits` meets its contract.
-- Assumes nothing.
use Rattle.headers.specs.Two.{up_to_digits}
use Rattle.headers.proofs.two.up_to_digits.Goals as goal

pub returns : goal.returns
unfolding up_to_digits
returns c = rw c.all_digits.ensures
