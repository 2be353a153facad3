-- `direct::triple::read_tail` meets its contract.
-- Assumes nothing.
use Rattle.std.proofs.Common.{true, false}
use Rattle.direct.proofs.Value.{tail-read}
use Rattle.direct.proofs.triple.read_tail.Goals as goal

pub returns-in-741097772 : goal.returns-in-741097772
returns-in-741097772 c = tail-read _ _ _ _ false c.told-t c.requires (rw c.unwrap.ensures at c.as_array.ensures.cases).same c.fits-t c.from_le_bytes.ensures c.in-741097772.is

pub returns-in-741098796 : goal.returns-in-741098796
returns-in-741098796 c = tail-read _ _ _ _ true c.told-t c.requires (rw c.unwrap.ensures at c.as_array.ensures.cases).same c.fits-t c.from_le_bytes.ensures c.in-741098796.is
