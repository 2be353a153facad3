-- `runs::rows::record_rows` meets its contract.
-- Assumes nothing.
use Rattle.runs.proofs.LineMore.{rows_then}
use Rattle.runs.proofs.rows.record_rows.Goals as goal

pub returns : goal.returns
returns c = rows_then _ _ _ _ _ c.read_headers-headers.result _ c.read_headers-headers.ensures.0 c.read_headers-headers.ensures.1 _ _ c.read_details.ensures
