-- `runs::rows::header_row` meets its contract.
-- Assumes nothing.
use Rattle.runs.proofs.HeaderRows.{header_read}
use Rattle.runs.proofs.rows.header_row.Goals as goal

pub returns : goal.returns
returns c = rw c.is_ok.ensures.value (header_read c.args.p _ _ _ _ c.requires c.ended.ensures _ c.row_header.ensures.says c.row_header.ensures.stays c.row_header.ensures.id)
