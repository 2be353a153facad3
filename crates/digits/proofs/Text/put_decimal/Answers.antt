-- `digits::Text::put_decimal` meets its contract.
-- Assumes nothing.
use native.Mathlib.Omega.{arith}
use Rattle.digits.proofs.Decimal.{decimal-length}
use Rattle.digits.proofs.Text.put_decimal.Goals as goal

pub put_number-requires : goal.put_number-requires
put_number-requires g c = omega (arith, decimal-length _ _ c.decimal_size.ensures)
