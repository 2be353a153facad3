-- `direct::guess::read_digits` meets its contract.
-- Assumes nothing.
use Rattle.direct.proofs.InWord.{eight-bytes}
use Rattle.direct.proofs.Value.{value_read}
use Rattle.direct.proofs.guess.read_digits.Goals as goal

pub aligned-a-requires : goal.aligned-a-requires
aligned-a-requires c = c.has_layout.ensures c.if-not-has_layout.false

pub returns : goal.returns
returns c =
    let word = eight-bytes _ _ _ c.told-t (rw c.unwrap.ensures at c.first_chunk.ensures.cases).same c.fits-t c.from_le_bytes-w.ensures in
    value_read _ _ _ c.told-t _ c.has_layout.ensures c.if-not-has_layout.false _ _ word c.aligned-a.ensures _ _ c.stop_byte.ensures c.if-t-d.false c.all_numerals.ensures c.if-not-all_numerals.false
