-- `pagetext::put_heading` meets its contract.
-- Assumes nothing.
use Rattle.pagetext.proofs.Heading.{heading_put}
use Rattle.pagetext.proofs.put_heading.Goals as goal

pub returns : goal.returns
returns c = heading_put c.args.number _ _ _ c.copy_from_slice.ensures.after c.put_blank.ensures c.put_digits.ensures
