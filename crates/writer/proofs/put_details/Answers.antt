-- `writer::put_details` meets its contract.
-- Assumes nothing.
use native.Mathlib.Omega.{arith}
use Rattle.writer.proofs.Records.{no_rows, found_fits, row_room, row_again}
use Rattle.writer.proofs.put_details.Goals as goal

pub loop-k-init : goal.loop-k-init
loop-k-init g c = no_rows _ _

pub put_detail-requires : goal.put_detail-requires
put_detail-requires g c = (
  omega arith,
  (
    found_fits _ _ _ c.loop-k-test.true c.requires.words.0 c.told-words c.requires.words.1 _ c.row_of.ensures,
    row_room _ _ _ _ _ c.row_of.ensures c.loop-k.invariant _ c.loop-k-test.true c.requires.room,
  ),
)

pub loop-k-preserved : goal.loop-k-preserved
loop-k-preserved g c = row_again _ _ _ _ _ c.row_of.ensures c.loop-k.invariant c.put_detail.ensures
