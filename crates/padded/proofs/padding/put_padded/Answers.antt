-- `padded::padding::put_padded` meets its contract.
-- Assumes nothing.
use Rattle.padded.proofs.Put.{padded_put}
use Rattle.padded.proofs.padding.put_padded.Goals as goal

pub returns : goal.returns
returns c = padded_put _ _ _ _ c.requires c.copy.ensures (c.fill.ensures.after (λ y e. e))
