-- The call Write. Document 01, "Calls": it puts a sound cell out from place 0 as a record, returns its length and changes no later byte.
-- "What a call returns": 2, 3, 6 to 10, tested in this order; a refusal changes no byte.
-- Assumes nothing.
use Rattle.std.specs.Prelude.{not, ℕ, ◌^◌, ◌<◌, ltb, length, get_or}
use Rattle.text.specs.Byte.{Bytes}
use Rattle.text.specs.Identifier.{is_descriptor}
use Rattle.report.specs.Outcome.{Outcome, passed, require, ◌>>=◌, ◌>>◌}
use Rattle.cell.specs.Layout.{Words, word_bits}
use Rattle.report.specs.Refusal.{bad_descriptor, short_output}
use Rattle.cells.specs.Sound.{sound_cell}
use Rattle.writer.specs.Record.{cell_text}

-- the record of a sound cell, or the refusal
unfoldable pub written_record : Bytes → Words → ℕ → ℕ → ℕ → Bytes → Outcome Bytes
written_record reg table m c d descriptor = do
  w ← sound_cell reg table m c d
  require (is_descriptor descriptor) bad_descriptor
  passed (cell_text reg m c d descriptor w)

-- refused where the output is shorter than the record
unfoldable pub fitting : Bytes → Outcome Bytes → Outcome Bytes
fitting output found = do
  text ← found
  require (not (ltb (length output) (length text))) short_output
  passed text

-- what the call answers: the record's length, or the refusal
abbrev pub length_of : Outcome Bytes → Outcome ℕ
length_of found = do
  text ← found
  passed (length text)

-- what the call does with its output: the record, or the refusal
unfoldable pub writes : Bytes → Words → ℕ → ℕ → ℕ → Bytes → Bytes → Outcome Bytes
writes reg table m c d descriptor output = fitting output (written_record reg table m c d descriptor)

-- A lent run of 32-bit words has only such, by its type. The call says so, since what is proved of real calls knows of them only what they promise.
abbrev pub Fits : Words → Type 0
Fits words = (k : ℕ) → get_or words k 0 < 2 ^ word_bits
