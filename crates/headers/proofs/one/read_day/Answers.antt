-- `headers::one::read_day` meets its contract.
-- Assumes nothing.
use mathlib.Core.Path.{◌∙◌}
use Rattle.report.proofs.Passing.{says-exit}
use Rattle.headers.specs.One.{day_of}
use Rattle.headers.proofs.one.read_day.Goals as goal

pub returns-in_err-from : goal.returns-in_err-from
unfolding day_of
returns-in_err-from c = says-exit _ _ c.from_residual.ensures.1 ∙ rw (← c.in_err-from.ensures)

pub returns-in_err-to : goal.returns-in_err-to
unfolding day_of
returns-in_err-to c = says-exit _ _ c.from_residual-in_err-to.ensures.1 ∙ rw (← c.in_ok-from.ensures, ← c.in_err-to.ensures)

pub returns-in_err-require : goal.returns-in_err-require
unfolding day_of
returns-in_err-require c = says-exit _ _ c.from_residual-in_err-require.ensures.1 ∙ rw (← c.in_ok-from.ensures, ← c.in_ok-to.ensures, ← c.same.ensures, ← c.in_err-require.ensures)

pub returns-in_err-require-2 : goal.returns-in_err-require-2
unfolding day_of
returns-in_err-require-2 c = says-exit _ _ c.from_residual-in_err-require-2.ensures.1 ∙ rw (← c.in_ok-from.ensures, ← c.in_ok-to.ensures, ← c.same.ensures, ← c.in_ok-require.ensures, ← c.same-2.ensures, ← c.in_err-require-2.ensures)

pub returns-in_err-require-3 : goal.returns-in_err-require-3
unfolding day_of
returns-in_err-require-3 c = says-exit _ _ c.from_residual-in_err-require-3.ensures.1 ∙ rw (← c.in_ok-from.ensures, ← c.in_ok-to.ensures, ← c.same.ensures, ← c.in_ok-require.ensures, ← c.same-2.ensures, ← c.in_ok-require-2.ensures, ← c.is_below.ensures, ← c.in_err-require-3.ensures)

pub returns-in_err-require-4 : goal.returns-in_err-require-4
unfolding day_of
returns-in_err-require-4 c = says-exit _ _ c.from_residual-in_err-require-4.ensures.1 ∙ rw (← c.in_ok-from.ensures, ← c.in_ok-to.ensures, ← c.same.ensures, ← c.in_ok-require.ensures, ← c.same-2.ensures, ← c.in_ok-require-2.ensures, ← c.is_below.ensures, ← c.in_ok-require-3.ensures, ← c.is_whole_day.ensures, ← c.in_err-require-4.ensures)

pub returns : goal.returns
unfolding day_of
returns c = rw (← c.in_ok-from.ensures, ← c.in_ok-to.ensures, ← c.same.ensures, ← c.in_ok-require.ensures, ← c.same-2.ensures, ← c.in_ok-require-2.ensures, ← c.is_below.ensures, ← c.in_ok-require-3.ensures, ← c.is_whole_day.ensures, ← c.in_ok-require-4.ensures)
