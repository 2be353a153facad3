-- A number in decimal, as people write it.
-- Assumes nothing.
use Rattle.std.specs.Prelude.{[], ◌∷◌, cond, ℕ, eqb}
use Prim.Native.Char.{code}
use Rattle.text.specs.Byte.{Bytes}
use Rattle.text.specs.Number.{digits_of}

-- digits with no needless zero in front: the last one stays
unfoldable pub trimmed : Bytes → Bytes
trimmed [] = []
trimmed (d ∷ []) = d ∷ []
trimmed (d ∷ e ∷ s) = cond (eqb d (code "0")) (trimmed (e ∷ s)) (d ∷ e ∷ s)

-- no 32-bit number has more digits
abbrev pub most_digits : ℕ
most_digits = 10

unfoldable pub decimal : ℕ → Bytes
decimal n = trimmed (digits_of most_digits n)
