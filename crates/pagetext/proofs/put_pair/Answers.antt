-- `pagetext::put_pair` meets its contract.
-- Assumes nothing.
use Rattle.pagetext.proofs.Pairs.{pair_put}
use Rattle.pagetext.proofs.put_pair.Goals as goal

pub returns : goal.returns
returns c = pair_put c.args.n _ _ c.args.to.now c.requires.0 c.requires.1
