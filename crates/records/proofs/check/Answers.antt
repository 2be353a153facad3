-- `records::check` meets its contract.
-- Assumes nothing.
use mathlib.Core.Path.{sym}
use native.Mathlib.Omega.{arith}
use Rattle.registry.proofs.Laws.{meters-most, window-most}
use Rattle.checks.proofs.Passed.{judged-within}
use Rattle.plain.specs.Rows.{checked}
use Rattle.report.proofs.Passing.{is-error}
use Rattle.records.proofs.check.Goals as goal

pub returns-in_err-cleared : goal.returns-in_err-cleared
unfolding checked
returns-in_err-cleared c = rw (is-error _ _ c.from_residual.ensures.1, ← c.in_err-cleared.ensures)

pub overflow_cast-result : goal.overflow_cast-result
overflow_cast-result c = omega (arith, (judged-within _ _ _ _ _ _ (sym c.in_ok-cleared.ensures)).0, meters-most c.args.index.now.registry.now)

pub overflow_cast-result-2 : goal.overflow_cast-result-2
overflow_cast-result-2 c = omega (arith, (judged-within _ _ _ _ _ _ (sym c.in_ok-cleared.ensures)).1, window-most c.args.index.now.registry.now)

pub returns : goal.returns
unfolding checked
returns c = rw (← c.in_ok-cleared.ensures)
