-- `statewords::put_bytes` meets its contract.
-- Assumes nothing.
use Rattle.statewords.proofs.Copies.{same}
use Rattle.statewords.proofs.put_bytes.Goals as goal

pub returns-clause-bytes : goal.returns-clause-bytes
returns-clause-bytes c = same c.args.from.now (λ i. (c.type_inv.from i).fits)
