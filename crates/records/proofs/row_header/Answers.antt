-- `records::row_header` meets its contract.
-- Assumes nothing.
use mathlib.Core.Path.{◌∙◌}
use native.Mathlib.Omega.{arith}
use Rattle.records.proofs.Steps.{due-two, due-three, due-four, due-thirty}
use Rattle.records.proofs.row_header.Goals as goal

pub returns-in-0-clause-says : goal.returns-in-0-clause-says
returns-in-0-clause-says c = λ reg. c.row_checked.ensures _ ∙ rw c.read_two.ensures (due-two reg _ _ (omega arith))

pub returns-in-1-clause-says : goal.returns-in-1-clause-says
returns-in-1-clause-says c = λ reg. c.row_checked-in-1.ensures _ ∙ rw c.read_three.ensures (due-three reg _ _ (omega arith))

pub returns-in-2-clause-says : goal.returns-in-2-clause-says
returns-in-2-clause-says c = λ reg. c.row_four.ensures.says ∙ due-four reg _ _ (omega arith)

pub returns-in_default-clause-says : goal.returns-in_default-clause-says
returns-in_default-clause-says c = λ reg. c.row_thirty.ensures.says ∙ due-thirty reg _ _ (omega arith)
