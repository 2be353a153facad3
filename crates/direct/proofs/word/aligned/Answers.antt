-- `direct::word::aligned` meets its contract.
-- Assumes nothing.
use Rattle.direct.proofs.InWord.{in_line_lem}
use Rattle.direct.proofs.word.aligned.Goals as goal

pub returns : goal.returns
returns c = search in_line_lem
