-- The digits that write a number: how many there are, that they are digits, and the number that they write.
-- Assumes nothing.
use mathlib.Core.Path.{◌≡◌, refl, ◌∙◌}
use mathlib.Core.List.{[], ◌∷◌, ◌++◌}
use mathlib.Core.Bool.{true}
use Prim.Native.Nat.{ℕ, zero, suc, ◌+◌, ◌-◌, ◌*◌, ◌/◌, ◌%◌, ◌^◌, ◌<◌}
use native.Mathlib.Omega.{arith}
use lib.ListN.{length, length-append}
use Rattle.text.specs.Byte.{Bytes, is_digit, every}
use Rattle.text.specs.Number.{number, number_from, digits_of}
use Rattle.text.proofs.Truth.{and_both}
use Rattle.text.proofs.Class.{digit_of, every_append}

pub digits-length : (w n : ℕ) → length (digits_of w n) ≡ w
unfolding digits_of
digits-length zero n = refl
digits-length (suc w) n = length-append (digits_of w (n / 10)) ((48 + n % 10) ∷ []) ∙ omega (arith, digits-length w (n / 10))

pub digits-clean : (w n : ℕ) → every is_digit (digits_of w n) ≡ true
unfolding digits_of every
digits-clean zero n = refl
digits-clean (suc w) n =
    every_append is_digit (digits_of w (n / 10)) ((48 + n % 10) ∷ []) (digits-clean w (n / 10))
    (and_both (is_digit (48 + n % 10)) true (digit_of (48 + n % 10) (n % 10) refl (omega arith)) refl)

-- one digit more
pub number-last-digit : (s : Bytes) (n b : ℕ) → number_from n (s ++ b ∷ []) ≡ number_from n s * 10 + (b - 48)
unfolding number_from
number-last-digit [] n b = refl
number-last-digit (c ∷ s) n b = number-last-digit s (n * 10 + (c - 48)) b

-- the law of the digits of a number
pub digits_number : (w n : ℕ) → n < 10 ^ w → number (digits_of w n) ≡ n
unfolding digits_of number_from
digits_number zero n h = omega arith
digits_number (suc w) n h =
    number-last-digit (digits_of w (n / 10)) 0 (48 + n % 10) ∙ omega (arith, digits_number w (n / 10) (omega arith))
