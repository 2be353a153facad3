-- `reads::sound::is_clear` meets its contract.
-- Assumes nothing.
use Rattle.reads.proofs.Scan.{clear}
use Rattle.reads.proofs.sound.is_clear.Goals as goal

pub returns : goal.returns
returns c = rw c.all_zero.ensures (clear c.args.words.now c.args.n c.requires c.told-words c.fits-words)
