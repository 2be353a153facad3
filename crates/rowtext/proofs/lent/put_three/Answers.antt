-- `rowtext::lent::put_three` meets its contract.
-- Assumes nothing.
use native.Mathlib.Omega.{arith}
use Rattle.rowtext.proofs.Parts.{three-put}
use Rattle.rowtext.proofs.lent.put_three.Goals as goal

pub returns : goal.returns
returns c = three-put (omega arith) _ c.put-end.ensures c.put-end-2.ensures c.put.ensures
