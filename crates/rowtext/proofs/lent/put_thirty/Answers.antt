-- `rowtext::lent::put_thirty` meets its contract.
-- Assumes nothing.
use native.Mathlib.Omega.{arith}
use Rattle.rowtext.proofs.Parts.{thirty-put}
use Rattle.rowtext.proofs.lent.put_thirty.Goals as goal

pub returns : goal.returns
returns c = thirty-put (omega arith) _ c.put-end.ensures c.put-end-2.ensures c.put-end-3.ensures c.put-end-4.ensures c.put.ensures
