-- `estimates::estimates` meets its contract.
-- Assumes nothing.
use mathlib.Core.Path.{◌∙◌}
use Rattle.report.proofs.Passing.{answers-exit}
use Rattle.estimates.specs.Estimates.{estimates_of}
use Rattle.estimates.proofs.Counting.{marks-counted}
use Rattle.estimates.proofs.estimates.Goals as goal

pub returns-in_err-words : goal.returns-in_err-words
unfolding estimates_of
returns-in_err-words c = answers-exit _ _ c.from_residual.ensures.1 ∙ rw (← c.in_err-words.ensures)

pub returns : goal.returns
returns c = marks-counted _ _ _ _ c.args.at.day _ c.in_ok-words.ensures _ c.count_marks.ensures
