-- `rowtext::lent::put_four` meets its contract.
-- Assumes nothing.
use native.Mathlib.Omega.{arith}
use Rattle.rowtext.proofs.Parts.{four-put}
use Rattle.rowtext.proofs.lent.put_four.Goals as goal

pub returns : goal.returns
returns c = four-put (omega arith) _ c.put-end.ensures c.put_time-end.ensures c.put.ensures
