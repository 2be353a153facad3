-- `digits::lent::put` meets its contract.
-- Assumes nothing.
use Rattle.digits.proofs.Puts.{text-put}
use Rattle.digits.proofs.lent.put.Goals as goal

pub returns : goal.returns
returns c = search text-put
