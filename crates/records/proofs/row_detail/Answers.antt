-- `records::row_detail` meets its contract.
-- Assumes nothing.
use mathlib.Core.Path.{sym, ◌∙◌}
use borrow.Author.Tests.{ltb-true, ltb-false}
use Rattle.report.proofs.Passing.{is-error, test-passed, test-refused}
use Rattle.plain.specs.Rows.{with_row}
use Rattle.records.proofs.Steps.{detail_refused, detail_past, detail_in}
use Rattle.records.proofs.row_detail.Goals as goal

pub returns-in_err-row-clause-says : goal.returns-in_err-row-clause-says
returns-in_err-row-clause-says c = rw (is-error _ _ c.from_residual.ensures.1) (detail_refused _ c.args.p _ _ c.requires.1 _ (sym c.in_err-row.ensures))

pub returns-in_err-require-clause-says : goal.returns-in_err-require-clause-says
returns-in_err-require-clause-says c =
    let p = test-refused _ _ _ c.in_err-require.ensures in
    rw (is-error _ _ c.from_residual-in_err-require.ensures.1, p.1)
    (detail_past _ c.args.p _ _ c.requires.1 _ (sym c.in_ok-row.ensures) (ltb-false _ _ p.0))

pub returns-clause-says : goal.returns-clause-says
unfolding with_row
returns-clause-says c =
    let m = ltb-true _ _ (test-passed _ _ c.in_ok-require.ensures) in
    c.after_detail.ensures ∙ rw c.put_intervals.ensures (detail_in _ c.args.p _ _ c.requires.1 _ (sym c.in_ok-row.ensures) m)
