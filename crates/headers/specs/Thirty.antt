-- Row thirty: names with their DUNS numbers. Document 01, "Rows".
-- Assumes nothing.
use Rattle.std.specs.Prelude.{List, Bool, ◌&&◌, ◌||◌, length, drop}
use Rattle.text.specs.Byte.{Bytes, ascii, equals, starts_with}
use Rattle.text.specs.Identifier.{is_duns}
use Rattle.lines.specs.Line.{Line}
use Rattle.report.specs.Outcome.{Outcome, passed, require, ◌>>=◌, ◌>>◌}
use Rattle.lines.specs.Row.{fields_of, ◌!◌}
use Rattle.report.specs.Verdict.{misfit}

-- what stands behind a field's name
abbrev pub behind_name : Bytes → Bytes → Bytes
behind_name name f = drop (length name) f

-- a name with its number
unfoldable pub has_duns : Bytes → Bytes → Bool
has_duns name f = starts_with name f && is_duns (behind_name name f)

abbrev pub sender_name : Bytes
sender_name = ascii "Sender="

abbrev pub rep_name : Bytes
rep_name = ascii "REP="

-- the Receiver is ERCOT; REP's number may be missing
unfoldable pub ends_thirty : Bytes → Bytes → Bool
ends_thirty receiver rep = equals receiver (ascii "Receiver=183529049") && (has_duns rep_name rep || equals rep rep_name)

unfoldable pub is_thirty : List Bytes → Bool
is_thirty fields =
    equals (fields ! 2) (ascii "ATTRIBUTE_VALUE_PAIRS") && has_duns (ascii "MRE=") (fields ! 3) && has_duns sender_name (fields ! 4)
    && ends_thirty (fields ! 5) (fields ! 6)

unfoldable pub thirty_of : List Bytes → Outcome Bytes
thirty_of fields = do
  require (is_thirty fields) misfit
  passed (behind_name sender_name (fields ! 4))

-- gives the Sender's number
unfoldable pub row_thirty : Line → Outcome Bytes
row_thirty line = do
  fields ← fields_of (ascii "00000030") 6 line
  thirty_of fields
