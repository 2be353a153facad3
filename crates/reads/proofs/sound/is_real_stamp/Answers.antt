-- `reads::sound::is_real_stamp` meets its contract.
-- Assumes nothing.
use Rattle.reads.specs.Sound.{is_real_stamp}
use Rattle.reads.proofs.sound.is_real_stamp.Goals as goal

pub returns : goal.returns
unfolding is_real_stamp
returns c = cc
