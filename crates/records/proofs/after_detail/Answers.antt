-- `records::after_detail` meets its contract.
-- Assumes nothing.
use mathlib.Core.Path.{◌∙◌}
use Rattle.report.proofs.Passing.{is-error}
use Rattle.records.proofs.Steps.{detail_last, detail_more}
use Rattle.records.proofs.after_detail.Goals as goal

pub returns-in_err-check : goal.returns-in_err-check
returns-in_err-check c = rw (is-error _ _ c.from_residual.ensures.1) (c.in_err-check.ensures ∙ detail_last _ c.args.p _ _ c.if-k-p.true)

pub returns-then-k-p : goal.returns-then-k-p
returns-then-k-p c = c.in_ok-check.ensures ∙ detail_last _ c.args.p _ _ c.if-k-p.true

pub returns : goal.returns
returns c = detail_more _ c.args.p _ _ _ c.if-k-p.false c.counted.ensures
