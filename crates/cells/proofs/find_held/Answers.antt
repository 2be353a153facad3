-- `cells::find_held` meets its contract.
-- Assumes nothing.
use mathlib.Core.Path.{◌∙◌}
use Rattle.report.specs.Refusal.{refusal_number}
use Rattle.report.proofs.Passing.{next-exit}
use Rattle.cells.specs.Sound.{held_cell}
use Rattle.cells.proofs.find_held.Goals as goal

pub returns-in_err-words : goal.returns-in_err-words
unfolding held_cell
returns-in_err-words c = next-exit refusal_number _ _ c.from_residual.ensures.1 _ ∙ rw (← c.in_err-words.ensures)

pub returns-in_err-require : goal.returns-in_err-require
unfolding held_cell
returns-in_err-require c =
    next-exit refusal_number _ _ c.from_residual-in_err-require.ensures.1 _ ∙ rw (← c.in_ok-words.ensures, ← c.holds_none.ensures, ← c.in_err-require.ensures)

pub returns : goal.returns
unfolding held_cell
returns c = rw (← c.in_ok-words.ensures, ← c.holds_none.ensures, ← c.in_ok-require.ensures)
