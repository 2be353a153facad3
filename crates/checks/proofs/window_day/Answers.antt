-- `checks::window_day` meets its contract.
-- Assumes nothing.
use mathlib.Core.Path.{sym, ◌∙◌}
use Rattle.report.proofs.Passing.{is-error, says-exit, none-given}
use Rattle.checks.proofs.Judging.{day-none, day-before, day-from}
use Rattle.checks.proofs.window_day.Goals as goal

pub returns-in_err-n : goal.returns-in_err-n
returns-in_err-n c =
    rw (is-error _ _ c.from_residual.ensures.1, none-given _ _ _ c.in_err-n.ensures.value c.in_err-n.ensures.ok_part)
    (day-none c.args.window c.args.date (sym c.in_err-n.ensures.ok_part ∙ c.day_number.ensures))

pub returns-in_err-day : goal.returns-in_err-day
returns-in_err-day c =
    rw (is-error _ _ c.from_residual-in_err-day.ensures.1, none-given _ _ _ c.in_err-day.ensures.value c.in_err-day.ensures.ok_part)
    (day-before c.args.window c.args.date _ (sym c.in_ok-n.ensures.ok_part ∙ c.day_number.ensures) (rw c.in_err-day.ensures.ok_part at c.checked_sub.ensures))

pub returns-in_err-require : goal.returns-in_err-require
returns-in_err-require c =
    let from = rw c.in_ok-day.ensures.ok_part at c.checked_sub.ensures in
    says-exit _ _ c.from_residual-in_err-require.ensures.1
    ∙ rw (day-from c.args.window c.args.date _ (sym c.in_ok-n.ensures.ok_part ∙ c.day_number.ensures) _ from.0 from.1, ← c.in_err-require.ensures)

pub returns : goal.returns
returns c =
    let from = rw c.in_ok-day.ensures.ok_part at c.checked_sub.ensures in
    rw (day-from c.args.window c.args.date _ (sym c.in_ok-n.ensures.ok_part ∙ c.day_number.ensures) _ from.0 from.1, ← c.in_ok-require.ensures)
