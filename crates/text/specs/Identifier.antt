-- Identifiers: ESI IDs and descriptors are letters or digits, DUNS numbers are digits. Document 01, "Rows".
-- Assumes nothing.
use Rattle.std.specs.Prelude.{Bool, ◌&&◌, ◌||◌, ℕ, eqb, leb, length}
use Rattle.text.specs.Byte.{Bytes, is_digit, is_alnum, every}

-- 1 to n letters or digits
unfoldable pub is_name : ℕ → Bytes → Bool
is_name n s = leb 1 (length s) && leb (length s) n && every is_alnum s

abbrev pub esi_id_size : ℕ
esi_id_size = 64

abbrev pub descriptor_size : ℕ
descriptor_size = 80

abbrev pub is_esi_id : Bytes → Bool
is_esi_id s = is_name esi_id_size s

-- document 01's descriptor, row three's field
abbrev pub is_descriptor : Bytes → Bool
is_descriptor s = is_name descriptor_size s

-- the digits of the longer DUNS number, to which the registry pads
abbrev pub duns_size : ℕ
duns_size = 13

-- document 01's "DUNS number": 9 or 13 digits
unfoldable pub is_duns : Bytes → Bool
is_duns s = (eqb (length s) 9 || eqb (length s) duns_size) && every is_digit s
