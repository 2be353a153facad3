-- Digits of a text that stand, less their "0", in the bytes of a word: that they are digits, and the number that they write.
-- Assumes nothing.
use Rattle.std.proofs.Common.{◌≡◌, ℕ, zero, suc, ◌+◌, ◌-◌, ◌*◌, ◌/◌, ◌%◌, ◌^◌, ◌≤◌, true, [], ◌∷◌, ◌++◌, map, length, take, drop, sym, refl, ap, ◌∙◌, pow-suc, zero-mul, arith, pow-add, leb-true}
use lib.Bits.{bit_xor, xor_mod, xor_shr, xor_add_and, and_high}
use lib.ListN.{length-map}
use Rattle.text.specs.Byte.{Bytes, is_digit, every}
use Rattle.text.specs.Number.{number, number_from}
use Rattle.text.proofs.Truth.{and_left, and_right, and_both}
use Rattle.text.proofs.Class.{digit_of}
use Rattle.direct.specs.Guess.{bytes_of, is_numeral, tens_from, Writes}
use Rattle.direct.proofs.Every.{every_front, every-behind}
use Rattle.direct.proofs.Numeral.{spread}

-- ONE BYTE
abbrev pub less_zero : ℕ → ℕ
less_zero b = bit_xor b 48

digit-is : (b : ℕ) → less_zero b ≤ 9 → b ≡ 48 + less_zero b
digit-is b h = omega (arith, xor_add_and b 48, and_high b 2 4)

-- ALL BYTES of a word
pub less-bytes : (k w : ℕ) → bytes_of k (bit_xor w (spread 48 k)) ≡ map less_zero (bytes_of k w)
unfolding bytes_of
less-bytes zero w = refl
less-bytes (suc k) w =
    let m : ℕ = spread 48 k * 256 + 48 in
    let m₀ : m % 2 ^ 8 ≡ 48 = omega arith in
    let m₁ : m / 2 ^ 8 ≡ spread 48 k = omega arith in
    rw (xor_mod w m 8, m₀, xor_shr w m 8, m₁) (ap (λ r. less_zero (w % 256) ∷ r) (less-bytes k (w / 256)))

pub map-take : (n : ℕ) (s : Bytes) → take n (map less_zero s) ≡ map less_zero (take n s)
map-take zero s = refl
map-take (suc n) [] = refl
map-take (suc n) (b ∷ s) = ap (λ r. less_zero b ∷ r) (map-take n s)

pub map-drop : (n : ℕ) (s : Bytes) → drop n (map less_zero s) ≡ map less_zero (drop n s)
map-drop zero s = refl
map-drop (suc n) [] = refl
map-drop (suc n) (b ∷ s) = map-drop n s

-- A TEXT whose bytes, less "0", are 9 at most
module _ (b : ℕ) (s : Bytes) (h : every is_numeral (map less_zero (b ∷ s)) ≡ true) where
  head : less_zero b ≤ 9
  unfolding every
  head = leb-true (less_zero b) 9 (and_left (is_numeral (less_zero b)) (every is_numeral (map less_zero s)) h)

  rest : every is_numeral (map less_zero s) ≡ true
  unfolding every
  rest = and_right (is_numeral (less_zero b)) (every is_numeral (map less_zero s)) h

digits : (s : Bytes) → every is_numeral (map less_zero s) ≡ true → every is_digit s ≡ true
unfolding every
digits [] h = refl
digits (b ∷ s) h = and_both (is_digit b) (every is_digit s) (digit_of b (less_zero b) (digit-is b (head b s h)) (head b s h)) (digits s (rest b s h))

written : (n : ℕ) (s : Bytes) → every is_numeral (map less_zero s) ≡ true → number_from n s ≡ tens_from n (map less_zero s)
unfolding number_from tens_from
written n [] h = refl
written n (b ∷ s) h =
    let e : b - 48 ≡ less_zero b = omega (arith, digit-is b (head b s h)) in
    rw e (written (n * 10 + less_zero b) s (rest b s h))

writes : (w : ℕ) (s : Bytes) → every is_numeral (map less_zero s) ≡ true → Writes w s (tens_from 0 (map less_zero s) * 10 ^ (w - length s))
writes w s h = record { clean = digits s h; value = rw (written 0 s h) }

-- WHAT BYTES WRITE behind others, with zeros behind them, and behind a number
tens_append : (n : ℕ) (s t : Bytes) → tens_from n (s ++ t) ≡ tens_from (tens_from n s) t
unfolding tens_from
tens_append n [] t = refl
tens_append n (b ∷ s) t = tens_append (n * 10 + b) s t

tens_zeros : (n k : ℕ) → tens_from n (bytes_of k 0) ≡ n * 10 ^ k
unfolding tens_from bytes_of
tens_zeros n zero = omega arith
tens_zeros n (suc k) = tens_zeros (n * 10 + 0) k ∙ rw (pow-suc 10 k) (omega arith)

tens_behind : (n : ℕ) (s : Bytes) → tens_from n s ≡ n * 10 ^ length s + tens_from 0 s
unfolding tens_from
tens_behind n [] = omega arith
tens_behind n (b ∷ s) =
    tens_behind (n * 10 + b) s
    ∙ rw (tens_behind (0 * 10 + b) s, pow-suc 10 (length s)) (omega arith)

-- i zeros, the digits q, the digits p, and zeros that fill these up to three
module _ (i : ℕ) (q p : Bytes) (short : length p ≤ 3) (b : Bytes)
    (line : b ≡ (bytes_of i 0 ++ map less_zero q) ++ (map less_zero p ++ bytes_of (3 - length p) 0)) where
  pub both_write : tens_from 0 b ≡ tens_from 0 (map less_zero q) * 1000 + tens_from 0 (map less_zero p) * 10 ^ (3 - length p)
  both_write =
      let front : Bytes = bytes_of i 0 ++ map less_zero q in
      let n : ℕ = tens_from 0 (map less_zero q) in
      let m : ℕ = tens_from 0 (map less_zero p) in
      let k : ℕ = 3 - length p in
      let three : length p + k ≡ 3 = omega arith in
      let thousand : 10 ^ length p * 10 ^ k ≡ 1000 = sym (pow-add 10 (length p) k) ∙ rw three in
      let z : tens_from 0 front ≡ n = tens_append 0 (bytes_of i 0) (map less_zero q) ∙ rw (tens_zeros 0 i, zero-mul (10 ^ i)) in
      let sum : (n * 10 ^ length p + m) * 10 ^ k ≡ n * (10 ^ length p * 10 ^ k) + m * 10 ^ k = omega arith in
      rw (
        line,
        tens_append 0 front (map less_zero p ++ bytes_of k 0),
        z,
        tens_append n (map less_zero p) (bytes_of k 0),
        tens_zeros (tens_from n (map less_zero p)) k,
        tens_behind n (map less_zero p),
        length-map p less_zero,
        sum,
        thousand,
      )

  module _ (small : every is_numeral b ≡ true) where
    all : every is_numeral ((bytes_of i 0 ++ map less_zero q) ++ (map less_zero p ++ bytes_of (3 - length p) 0)) ≡ true
    all = rw line at small

    pub whole-writes : Writes 0 q (tens_from 0 (map less_zero q))
    whole-writes =
        let none : 0 - length q ≡ 0 = omega arith in
        let one : tens_from 0 (map less_zero q) * 1 ≡ tens_from 0 (map less_zero q) = omega arith in
        rw (none, one) at (writes 0 q (every-behind is_numeral (bytes_of i 0) (map less_zero q) (every_front is_numeral (bytes_of i 0 ++ map less_zero q) _ all)))

    pub part-writes : Writes 3 p (tens_from 0 (map less_zero p) * 10 ^ (3 - length p))
    part-writes = writes 3 p (every_front is_numeral (map less_zero p) (bytes_of (3 - length p) 0) (every-behind is_numeral (bytes_of i 0 ++ map less_zero q) _ all))

-- all w digits are there, so no zeros are to be added
pub exact : (w : ℕ) (s : Bytes) (n : ℕ) → Writes w s n → w ≤ length s → number s ≡ n
exact w s n h l = let z : w - length s ≡ 0 = omega arith in omega (arith, rw z at h.value)
