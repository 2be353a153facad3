-- `reads::sound::count_marks` meets its contract.
-- Assumes nothing.
use Rattle.std.proofs.Common.{◌∙◌}
use Rattle.reads.proofs.Count.{marks-estimated}
use Rattle.reads.proofs.sound.count_marks.Goals as goal

pub returns : goal.returns
returns c = c.count_ones.ensures ∙ marks-estimated c.args.words.now c.told-words c.fits-words
