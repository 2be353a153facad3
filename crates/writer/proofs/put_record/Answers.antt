-- `writer::put_record` meets its contract.
-- Assumes nothing.
use native.Mathlib.Omega.{arith}
use lib.ListN.{length-append}
use Rattle.writer.proofs.Records.{record_is_lem}
use Rattle.writer.proofs.put_record.Goals as goal

pub put_thirty-requires : goal.put_thirty-requires
put_thirty-requires g c = grind (arith, length-append, record_is_lem)
