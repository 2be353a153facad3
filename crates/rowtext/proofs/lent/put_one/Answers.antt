-- `rowtext::lent::put_one` meets its contract.
-- Assumes nothing.
use native.Mathlib.Omega.{arith}
use Rattle.rowtext.proofs.Parts.{one-put}
use Rattle.rowtext.proofs.lent.put_one.Goals as goal

pub returns : goal.returns
returns c = one-put (omega arith) _ _ _ c.put-end.ensures c.put-end-2.ensures c.put_channel-end.ensures c.put_time-end.ensures c.put_time-end-2.ensures c.put.ensures
