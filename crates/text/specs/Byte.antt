-- Bytes, their classes, and texts written out. Document 01, "Rows": digits are decimal, letters are ASCII of either case.
-- Assumes nothing.
use Rattle.std.specs.Prelude.{List, [], ◌∷◌, Bool, true, false, ◌&&◌, ◌||◌, ℕ, eqb, leb}
use Rattle.std.specs.Str.{bytes_eq}
use Rattle.std.specs.List.{starts_with as begins}
use Prim.Native.Char.{code}
use Prim.Native.String.{String, [] as end, ◌∷◌ as ◌then◌}

abbrev pub Bytes : Type 0
Bytes = List ℕ

-- the bytes of a text in ASCII
abbrev pub ascii : String → Bytes
ascii end = []
ascii (c then s) = code c ∷ ascii s

abbrev pub is_digit : ℕ → Bool
is_digit b = leb (code "0") b && leb b (code "9")

-- a letter or a digit
abbrev pub is_alnum : ℕ → Bool
is_alnum b = is_digit b || (leb (code "A") b && leb b (code "Z")) || (leb (code "a") b && leb b (code "z"))

unfoldable pub is_empty : Bytes → Bool
is_empty [] = true
is_empty (b ∷ s) = false

-- every item is of the class
unfoldable pub every : {A : Type 0} → (A → Bool) → List A → Bool
every class [] = true
every class (x ∷ xs) = class x && every class xs

-- two texts are equal
unfoldable pub equals : Bytes → Bytes → Bool
equals s t = bytes_eq s t

-- a text begins with another
unfoldable pub starts_with : Bytes → Bytes → Bool
starts_with p s = begins eqb s p
