-- Decimal digits, and the numbers that they write.
-- Assumes nothing.
use Rattle.std.specs.Prelude.{◌≡◌, [], ◌∷◌, ◌++◌, true, cond, ℕ, zero, suc, ◌+◌, ◌-◌, ◌*◌, ◌/◌, ◌%◌, ◌≤◌, length}
use Prim.Native.Char.{code}
use Rattle.text.specs.Byte.{Bytes, is_digit, every}

-- the number that digits write, behind a number read so far
unfoldable pub number_from : ℕ → Bytes → ℕ
number_from n [] = n
number_from n (b ∷ s) = number_from (n * 10 + (b - code "0")) s

abbrev pub number : Bytes → ℕ
number s = number_from 0 s

-- the last w digits of a number
unfoldable pub digits_of : ℕ → ℕ → Bytes
digits_of zero n = []
digits_of (suc w) n = digits_of w (n / 10) ++ (code "0" + n % 10) ∷ []

-- the digits that a text begins with, and the rest of it
unfoldable pub leading : Bytes → Bytes
leading [] = []
leading (b ∷ s) = cond (is_digit b) (b ∷ leading s) []

unfoldable pub behind : Bytes → Bytes
behind [] = []
behind (b ∷ s) = cond (is_digit b) (behind s) (b ∷ s)

-- digits only, at most w of them
pub record Digits (w : ℕ) (s : Bytes) : Type 0 where
  pub short : length s ≤ w
  pub clean : every is_digit s ≡ true
