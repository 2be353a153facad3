-- `runs::rows::take_header` meets its contract.
-- Assumes nothing.
use Rattle.runs.proofs.HeaderRows.{header_gap, header_took}
use Rattle.runs.proofs.rows.take_header.Goals as goal

pub returns-in-Some : goal.returns-in-Some
returns-in-Some c = header_gap _ _ _ _ _ c.empty.result c.empty.ensures c.in-Some.ensures

pub returns-then-header_row : goal.returns-then-header_row
returns-then-header_row c = header_took _ _ _ _ _ c.in_ok-end.ensures.1 c.in_ok-end.ensures.0 c.header_row.result _ c.header_row.ensures c.if-header_row.true
