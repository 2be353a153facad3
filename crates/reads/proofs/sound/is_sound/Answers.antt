-- `reads::sound::is_sound` meets its contract.
-- Assumes nothing.
use Rattle.reads.specs.Sound.{is_sound}
use Rattle.reads.proofs.Scan.{values_are, unused_are}
use Rattle.reads.proofs.sound.is_sound.Goals as goal

pub returns : goal.returns
unfolding is_sound
returns c =
    let a = c.args in
    rw (c.is_clear.ensures, c.all_zero-zero.ensures, c.all_values-values.ensures, c.is_real_stamp-real.ensures, c.stamp_in.ensures, values_are a.words.now c.told-words, unused_are a.words.now a.n c.told-words)
