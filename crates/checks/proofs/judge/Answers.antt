-- `checks::judge` meets its contract.
-- Assumes nothing.
use mathlib.Core.Path.{sym, ◌∙◌}
use native.Mathlib.Omega.{arith}
use borrow.Author.Rules.{rules}
use Rattle.report.proofs.Passing.{is-error, none-given}
use Rattle.registry.proofs.Halves.{found-meter}
use Rattle.registry.proofs.Laws.{meters-most}
use Rattle.checks.specs.Check.{judge}
use Rattle.checks.proofs.Judging.{day_given, fault_given}
use Rattle.checks.proofs.judge.Goals as goal

pub returns-in_err-meter : goal.returns-in_err-meter
unfolding judge
returns-in_err-meter c =
    rw (
      is-error _ _ c.from_residual.ensures.1,
      none-given _ _ _ c.in_err-meter.ensures.value c.in_err-meter.ensures.ok_part,
      ← c.find.ensures,
      c.in_err-meter.ensures.ok_part,
    )

pub meter_checks-requires : goal.meter_checks-requires
meter_checks-requires c = (found-meter _ _ _ (sym c.find.ensures ∙ c.in_ok-meter.ensures.ok_part)).0

pub overflow_add-number : goal.overflow_add-number
overflow_add-number c = omega (arith, (found-meter _ _ _ (sym c.find.ensures ∙ c.in_ok-meter.ensures.ok_part)).0, meters-most c.args.index.now.registry.now)

pub overflow_cast-number : goal.overflow_cast-number
overflow_cast-number c = omega (arith, (found-meter _ _ _ (sym c.find.ensures ∙ c.in_ok-meter.ensures.ok_part)).0, meters-most c.args.index.now.registry.now)

pub returns-in_err-day : goal.returns-in_err-day
unfolding judge
returns-in_err-day c =
    rw (is-error _ _ c.from_residual-in_err-day.ensures.1, ← c.find.ensures, c.in_ok-meter.ensures.ok_part, ← c.meter_checks.ensures)
    (fault_given _ _ _ _ c.map_err.ensures.cases _ c.in_err-day.was (λ v made. search rules))

pub returns : goal.returns
unfolding judge
returns c =
    rw (← c.find.ensures, c.in_ok-meter.ensures.ok_part, ← c.meter_checks.ensures) (day_given _ _ _ _ c.map_err.ensures.cases _ c.in_ok-day.was)
