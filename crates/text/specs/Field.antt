-- Fields: a line is cut at its commas, and nothing is trimmed. Document 01, "Rows".
-- Assumes nothing.
use denote.Ref.{Bor}
use Rattle.std.specs.Prelude.{Option, Some, None, List, [], ◌∷◌, cond, ℕ, zero, suc, eqb}
use Prim.Native.Char.{code}
use Rattle.text.specs.Byte.{Bytes}

abbrev pub comma : ℕ
comma = code ","

-- a byte in front of the first field
abbrev pub in_front : ℕ → List Bytes → List Bytes
in_front b [] = (b ∷ []) ∷ []
in_front b (f ∷ fs) = (b ∷ f) ∷ fs

-- the fields of a line, from the left; a line with no comma is one field
unfoldable pub cut : Bytes → List Bytes
cut [] = [] ∷ []
cut (b ∷ s) = cond (eqb b comma) ([] ∷ cut s) (in_front b (cut s))

-- the first field, and what stands behind its comma
unfoldable pub first_field : Bytes → Bytes
first_field [] = []
first_field (b ∷ s) = cond (eqb b comma) [] (b ∷ first_field s)

unfoldable pub after_field : Bytes → Bytes
after_field [] = []
after_field (b ∷ s) = cond (eqb b comma) s (after_field s)

-- field k of a line, from 0
abbrev pub field_at : ℕ → Bytes → Bytes
field_at zero s = first_field s
field_at (suc k) s = field_at k (after_field s)

-- the fields that are left of a line, by what stands behind the last one that was taken and its comma
abbrev pub left_in : Option (Bor Bytes) → List Bytes
left_in None = []
left_in (Some rest) = cut rest.now
