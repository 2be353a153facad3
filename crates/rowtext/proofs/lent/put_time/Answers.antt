-- `rowtext::lent::put_time` meets its contract.
-- Assumes nothing.
use native.Mathlib.Omega.{arith}
use Rattle.rowtext.proofs.Parts.{time-put}
use Rattle.rowtext.proofs.lent.put_time.Goals as goal

pub returns : goal.returns
returns c = time-put (omega arith) _ _ c.put-end.ensures c.put_number-end.ensures c.put_number.ensures
