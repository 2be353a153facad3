-- `records::row_one` meets its contract.
-- Assumes nothing.
use mathlib.Core.Path.{sym}
use Rattle.plain.specs.Rows.{first_row}
use Rattle.report.proofs.Passing.{is-error}
use Rattle.records.proofs.Steps.{one-begun, one-fits, one-real}
use Rattle.records.proofs.row_one.Goals as goal

pub returns-in_err-one : goal.returns-in_err-one
unfolding first_row
returns-in_err-one c = rw (is-error _ _ c.from_residual.ensures.1, ← c.in_err-one.ensures)

pub begin_record-requires-clause-fits : goal.begin_record-requires-clause-fits
begin_record-requires-clause-fits c = one-fits _ _ (sym c.in_ok-one.ensures)

pub begin_record-requires-clause-real : goal.begin_record-requires-clause-real
begin_record-requires-clause-real c = one-real _ _ (sym c.in_ok-one.ensures)

pub returns : goal.returns
returns c = one-begun _ _ (sym c.in_ok-one.ensures) _ c.begin_record.ensures
