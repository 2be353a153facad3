-- `rowtext::lent::put_detail` meets its contract.
-- Assumes nothing.
use native.Mathlib.Omega.{arith}
use Rattle.rowtext.proofs.Parts.{detail-put}
use Rattle.rowtext.proofs.lent.put_detail.Goals as goal

pub returns : goal.returns
returns c = detail-put (omega arith) _ _ _ _ _ c.put-end.ensures c.put_number-end.ensures c.put_interval-end.ensures c.put_interval-end-2.ensures c.put_interval-end-3.ensures c.put_interval-end-4.ensures c.put.ensures
