-- `rowtext::lent::put_interval` meets its contract.
-- Assumes nothing.
use native.Mathlib.Omega.{arith}
use borrow.Author.Rules.{rules}
use Rattle.rowtext.proofs.Parts.{interval-put}
use Rattle.rowtext.proofs.lent.put_interval.Goals as goal

pub returns : goal.returns
returns c = interval-put (omega arith) c.args.interval c.put-end.ensures c.put_value-end.ensures (search rules)
