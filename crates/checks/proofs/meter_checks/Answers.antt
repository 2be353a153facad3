-- `checks::meter_checks` meets its contract.
-- Assumes nothing.
use mathlib.Core.Path.{◌∙◌}
use Rattle.report.proofs.Passing.{says-exit}
use Rattle.checks.specs.Check.{meter_checks}
use Rattle.checks.proofs.meter_checks.Goals as goal

pub returns-in_err-require : goal.returns-in_err-require
unfolding meter_checks
returns-in_err-require c = says-exit _ _ c.from_residual.ensures.1 ∙ rw (← c.is_owned.ensures, ← c.in_err-require.ensures)

pub returns-in_err-flag_checks : goal.returns-in_err-flag_checks
unfolding meter_checks
returns-in_err-flag_checks c =
    says-exit _ _ c.from_residual-in_err-flag_checks.ensures.1
    ∙ rw (← c.is_owned.ensures, ← c.in_ok-require.ensures, ← c.flags.ensures, ← c.in_err-flag_checks.ensures)

pub returns : goal.returns
unfolding meter_checks
returns c = rw (← c.is_owned.ensures, ← c.in_ok-require.ensures, ← c.flags.ensures, ← c.in_ok-flag_checks.ensures, ← c.window.ensures) c.window_day.ensures
