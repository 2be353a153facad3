-- `rowtext::lent::put_value` meets its contract.
-- Assumes nothing.
use native.Mathlib.Omega.{arith}
use Rattle.rowtext.proofs.Parts.{value-put}
use Rattle.rowtext.proofs.lent.put_value.Goals as goal

pub returns : goal.returns
returns c = value-put (omega arith) _ c.requires.wh_lt_value_end c.put_decimal-end.ensures c.put-end.ensures c.put_number.ensures
