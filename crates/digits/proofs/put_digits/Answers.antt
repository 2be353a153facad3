-- `digits::put_digits` meets its contract.
-- Assumes nothing.
use Rattle.std.proofs.Common.{rules}
use lib.ListN.{length-set}
use Rattle.digits.proofs.Fill.{digits-none, digits_again, digits-end}
use Rattle.digits.proofs.put_digits.Goals as goal

pub loop-i-init : goal.loop-i-init
loop-i-init c = search digits-none

pub loop-i-preserved : goal.loop-i-preserved
loop-i-preserved c = rw length-set (search (digits_again, rules))

pub returns : goal.returns
returns c = search (digits-end, rules)
