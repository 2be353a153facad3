-- `checks::flag_checks` meets its contract.
-- Assumes nothing.
use mathlib.Core.Path.{◌∙◌}
use Rattle.report.proofs.Passing.{says-exit}
use Rattle.checks.specs.Check.{flag_checks}
use Rattle.checks.proofs.flag_checks.Goals as goal

pub returns-in_err-require : goal.returns-in_err-require
unfolding flag_checks
returns-in_err-require c = says-exit _ _ c.from_residual.ensures.1 ∙ rw (← c.has_flag.ensures, ← c.in_err-require.ensures)

pub returns-in_err-require-2 : goal.returns-in_err-require-2
unfolding flag_checks
returns-in_err-require-2 c =
    says-exit _ _ c.from_residual-in_err-require-2.ensures.1
    ∙ rw (← c.has_flag.ensures, ← c.in_ok-require.ensures, ← c.has_flag-2.ensures, ← c.in_err-require-2.ensures)

pub returns : goal.returns
unfolding flag_checks
returns c = rw (← c.has_flag.ensures, ← c.in_ok-require.ensures, ← c.has_flag-2.ensures, ← c.in_ok-require-2.ensures, ← c.has_flag-3.ensures) c.require-3.ensures
