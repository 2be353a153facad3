-- Padding at the end with spaces. Document 01, "Registry and cells".
-- Assumes nothing.
use Rattle.std.specs.Prelude.{[], ◌∷◌, ◌++◌, Bool, cond, ℕ, ◌-◌, eqb, length, replicate}
use Prim.Native.Char.{code}
use Rattle.text.specs.Byte.{Bytes}
use Rattle.text.specs.Identifier.{is_esi_id, is_duns}

abbrev pub space : ℕ
space = code " "

abbrev pub is_space : ℕ → Bool
is_space b = eqb b space

-- a text with spaces behind it, n bytes in all
unfoldable pub pad : ℕ → Bytes → Bytes
pad n s = s ++ replicate (n - length s) space

-- a byte before a text, but no space before nothing
abbrev pub unpad_to : ℕ → Bytes → Bytes
unpad_to b [] = cond (is_space b) [] (b ∷ [])
unpad_to b (c ∷ s) = b ∷ c ∷ s

-- a text without the spaces at its end
unfoldable pub unpad : Bytes → Bytes
unpad [] = []
unpad (b ∷ s) = unpad_to b (unpad s)

-- an ESI ID as in row one, padded; a DUNS number as in row thirty, padded
abbrev pub is_padded_esi_id : Bytes → Bool
is_padded_esi_id s = is_esi_id (unpad s)

abbrev pub is_padded_duns : Bytes → Bool
is_padded_duns s = is_duns (unpad s)
