-- Bytes of a word that are 9 at most: the test of all at once, and the number that they write.
-- Assumes nothing.
use Rattle.std.proofs.Common.{◌≡◌, ℕ, zero, suc, ◌+◌, ◌*◌, ◌/◌, ◌%◌, ◌^◌, ◌<◌, ◌≤◌, true, [], ◌∷◌, get_or, sym, refl, ◌∙◌, lt_of_le_of_lt, zero-add, arith, le-leb, leb-true}
use lib.Bits.{bit_and, bit_or, and_mod, and_shr, or_mod, or_shr, or_lt, and_high, and_mask, and_zero_r, or_add_and, and_le_l, and_le_r}
use lib.Arith.{digits_div, digits_mod}
use Rattle.text.specs.Byte.{every}
use Rattle.text.proofs.Truth.{and_both}
use Rattle.text.proofs.Class.{every-at}
use Rattle.direct.specs.Guess.{bytes_of, is_numeral, tens_from}
use Rattle.direct.proofs.InWord.{bytes-length, bytes_low}

-- a word of k equal bytes
abbrev pub spread : ℕ → ℕ → ℕ
spread c zero = 0
spread c (suc k) = spread c k * 256 + c

-- EACH BYTE IS 9 AT MOST, if neither it nor what 118 more make of it has the top bit
half : (o : ℕ) → o < 256 → o / 128 % 2 ≡ 0 → o < 128
half o h e = omega arith

no_top : (a b : ℕ) → a < 2 ^ 8 → b < 2 ^ 8 → bit_and (bit_or a b) 128 ≡ 0 → (a < 128) × (b < 128)
no_top a b ha hb h =
    let o : ℕ = bit_or a b in
    let small : o < 256 = or_lt 8 a b ha hb in
    let top : o / 128 % 2 * 128 ≡ 0 = sym (and_high o 1 7) ∙ h in
    let even : o / 128 % 2 ≡ 0 = omega arith in
    let low : o < 128 = half o small even in
    (omega (arith, or_add_and a b, and_le_r a b), omega (arith, or_add_and a b, and_le_l a b))

small_bytes : (k a s : ℕ) → bytes_of k s ≡ bytes_of k (a + spread 118 k) → bit_and (bit_or a s) (spread 128 k) ≡ 0 → every is_numeral (bytes_of k a) ≡ true
unfolding bytes_of every
small_bytes zero a s e h = refl
small_bytes (suc k) a s e h =
    let m : ℕ = spread 128 k * 256 + 128 in
    let m₀ : m % 2 ^ 8 ≡ 128 = omega arith in
    let m₁ : m / 2 ^ 8 ≡ spread 128 k = omega arith in
    let low : bit_and (bit_or (a % 2 ^ 8) (s % 2 ^ 8)) 128 ≡ 0 = rw (← or_mod a s 8, ← m₀, ← and_mod (bit_or a s) m 8, h) in
    let high : bit_and (bit_or (a / 2 ^ 8) (s / 2 ^ 8)) (spread 128 k) ≡ 0 = rw (← or_shr a s 8, ← m₁, ← and_shr (bit_or a s) m 8, h) in
    let e₀ : s % 256 ≡ (a + (spread 118 k * 256 + 118)) % 256 = cc in
    let clear = no_top (a % 2 ^ 8) (s % 2 ^ 8) (omega arith) (omega arith) low in
    let nine : a % 256 ≤ 9 = omega (arith, clear) in
    let up : (a + (spread 118 k * 256 + 118)) / 256 ≡ a / 256 + spread 118 k = omega arith in
    let e₁ : bytes_of k (s / 256) ≡ bytes_of k (a / 256 + spread 118 k) = rw (← up) (cc) in
    and_both (is_numeral (a % 256)) (every is_numeral (bytes_of k (a / 256))) (le-leb (a % 256) 9 nine) (small_bytes k (a / 256) (s / 256) e₁ high)

pub all_small : (a s : ℕ) → s ≡ (a + spread 118 8) % 2 ^ 64 → bit_and (bit_or a s) (spread 128 8) ≡ 0 → every is_numeral (bytes_of 8 a) ≡ true
all_small a s e h = small_bytes 8 a s (rw e (bytes_low 8 (a + spread 118 8))) h

-- THE NUMBER of eight bytes. `evens`: every second byte of p, each in 16 bits; `mask` lets these through
abbrev pub mask : ℕ → ℕ
mask zero = 0
mask (suc k) = mask k * 65536 + 255

evens : ℕ → ℕ → ℕ
evens zero p = 0
evens (suc k) p = evens k (p / 65536) * 65536 + p % 256

no_pairs : (p : ℕ) → evens 0 p * 65536 ≡ 0
unfolding evens
no_pairs p = refl

and_evens : (k p : ℕ) → bit_and p (mask k) ≡ evens k p
unfolding evens
and_evens zero p = and_zero_r p
and_evens (suc k) p =
    let m : ℕ = mask k * 65536 + 255 in
    let m₀ : m % 2 ^ 16 ≡ 255 = omega arith in
    let m₁ : m / 2 ^ 16 ≡ mask k = omega arith in
    let high : bit_and p m / 2 ^ 16 ≡ evens k (p / 2 ^ 16) = rw (and_shr p m 16, m₁) (and_evens k (p / 2 ^ 16)) in
    let low : bit_and p m % 2 ^ 16 ≡ p % 2 ^ 16 % 2 ^ 8 = rw (and_mod p m 16, m₀) (and_mask (p % 2 ^ 16) 8) in
    omega (arith, high, low)

rest-is : (m n q r : ℕ) → n ≡ q * m + r → r < m → n % m ≡ r
rest-is m n q r e h = rw e (digits_mod q h)

whole_is : (m n q r : ℕ) → n ≡ q * m + r → r < m → n / m ≡ q
whole_is m n q r e h = rw e (digits_div q h)

-- ten times a word and the word without its first byte, added: the first two bytes' number stands in the first
pair : (k a : ℕ) → a % 256 ≤ 9 → a / 256 % 256 ≤ 9 → a / 256 / 256 % 256 ≤ 9
    → evens (suc k) (a * 10 + a / 256) ≡ evens k (a / 256 / 256 * 10 + a / 256 / 256 / 256) * 65536 + (a % 256 * 10 + a / 256 % 256)
unfolding evens
pair k a hx hy hv =
    let x : ℕ = a % 256 in
    let y : ℕ = a / 256 % 256 in
    let v : ℕ = a / 256 / 256 in
    let up : (a * 10 + a / 256) / 65536 ≡ v * 10 + v / 256 = omega arith in
    let low : (a * 10 + a / 256) % 256 ≡ x * 10 + y = rest-is 256 (a * 10 + a / 256) (y * 10 + v + v * 2560) (x * 10 + y) (omega arith) (omega arith) in
    rw (up, low)

-- a hundred times the pairs u, and v, which is u without the first pair: two pairs' numbers stand in the first and the third 16 bits
module _ (p q r s u v : ℕ) (hp : p ≤ 99) (hq : q ≤ 99) (hr : r ≤ 99) (hs : s ≤ 99) (ev : v ≡ (s * 65536 + r) * 65536 + q) (eu : u ≡ v * 65536 + p) where
  fours_low : (u * 100 + v) % 65536 ≡ p * 100 + q
  fours_low = rest-is 65536 (u * 100 + v) (v * 100 + (s * 65536 + r)) (p * 100 + q) (omega arith) (omega arith)

  fours_high : (u * 100 + v) / 4294967296 % 65536 ≡ r * 100 + s
  fours_high =
      let e : u * 100 + v ≡ (s * 100 * 65536 + (r * 100 + s)) * 4294967296 + ((q * 100 + r) * 65536 + (p * 100 + q)) = omega arith in
      let l : (q * 100 + r) * 65536 + (p * 100 + q) < 4294967296 = omega arith in
      rw (whole_is 4294967296 (u * 100 + v) (s * 100 * 65536 + (r * 100 + s)) ((q * 100 + r) * 65536 + (p * 100 + q)) e l)
      (rest-is 65536 _ (s * 100) (r * 100 + s) refl (omega arith))

by-fours : (b₀ b₁ b₂ b₃ b₄ b₅ b₆ b₇ : ℕ)
    → ((b₀ * 10 + b₁) * 100 + (b₂ * 10 + b₃)) * 10000 + ((b₄ * 10 + b₅) * 100 + (b₆ * 10 + b₇)) ≡ tens_from 0 (b₀ ∷ b₁ ∷ b₂ ∷ b₃ ∷ b₄ ∷ b₅ ∷ b₆ ∷ b₇ ∷ [])
unfolding tens_from
by-fours b₀ b₁ b₂ b₃ b₄ b₅ b₆ b₇ = omega arith

module _ (a : ℕ) (wide : a < 2 ^ 64) (h : every is_numeral (bytes_of 8 a) ≡ true) where
  nine : (i : ℕ) → i < 8 → get_or (bytes_of 8 a) i 0 ≤ 9
  nine i l = leb-true (get_or (bytes_of 8 a) i 0) 9 (every-at is_numeral (bytes_of 8 a) i h (rw (bytes-length 8 a) l))

  pub ten_fits : a < 10 * 2 ^ 56
  unfolding bytes_of
  ten_fits = omega (arith, nine 7 (omega arith))

  -- the word without its first two, four, six bytes
  a₂ : ℕ
  a₂ = a / 256 / 256

  a₄ : ℕ
  a₄ = a₂ / 256 / 256

  a₆ : ℕ
  a₆ = a₄ / 256 / 256

  -- the first two bytes' number
  abbrev two : ℕ → ℕ
  two x = x % 256 * 10 + x / 256 % 256

  two-small : (x : ℕ) → x % 256 ≤ 9 → x / 256 % 256 ≤ 9 → two x ≤ 99
  two-small x g h = omega arith

  pairs : evens 4 (a * 10 + a / 256) ≡ ((two a₆ * 65536 + two a₄) * 65536 + two a₂) * 65536 + two a
  unfolding bytes_of a₂ a₄ a₆
  pairs =
      let n : (i : ℕ) → i < 8 → get_or (bytes_of 8 a) i 0 ≤ 9 = nine in
      let none : a / 256 / 256 / 256 / 256 / 256 / 256 / 256 / 256 % 256 ≤ 9 = omega arith in
      rw (
        pair 3 a (n 0 (omega arith)) (n 1 (omega arith)) (n 2 (omega arith)),
        pair 2 a₂ (n 2 (omega arith)) (n 3 (omega arith)) (n 4 (omega arith)),
        pair 1 a₄ (n 4 (omega arith)) (n 5 (omega arith)) (n 6 (omega arith)),
        pair 0 a₆ (n 6 (omega arith)) (n 7 (omega arith)) none,
        no_pairs (a₆ / 256 / 256 * 10 + a₆ / 256 / 256 / 256),
        zero-add (two a₆),
      )

  pub number_of_lem : (u : ℕ) → u ≡ bit_and (a * 10 + a / 256) (mask 4)
      → (u * 100 + u / 65536) % 65536 * 10000 + (u * 100 + u / 65536) / 4294967296 % 65536 ≡ tens_from 0 (bytes_of 8 a)
  unfolding bytes_of a₂ a₄ a₆
  number_of_lem u e =
      let n : (i : ℕ) → i < 8 → get_or (bytes_of 8 a) i 0 ≤ 9 = nine in
      let h₀ : two a ≤ 99 = two-small a (n 0 (omega arith)) (n 1 (omega arith)) in
      let h₁ : two a₂ ≤ 99 = two-small a₂ (n 2 (omega arith)) (n 3 (omega arith)) in
      let h₂ : two a₄ ≤ 99 = two-small a₄ (n 4 (omega arith)) (n 5 (omega arith)) in
      let h₃ : two a₆ ≤ 99 = two-small a₆ (n 6 (omega arith)) (n 7 (omega arith)) in
      let v : ℕ = (two a₆ * 65536 + two a₄) * 65536 + two a₂ in
      let eu : u ≡ v * 65536 + two a = e ∙ and_evens 4 (a * 10 + a / 256) ∙ pairs in
      let ev : u / 65536 ≡ v = whole_is 65536 u v (two a) eu (lt_of_le_of_lt h₀ (omega arith)) in
      rw (
        ev,
        fours_low (two a) (two a₂) (two a₄) (two a₆) u v h₀ h₁ h₂ h₃ refl eu,
        fours_high (two a) (two a₂) (two a₄) (two a₆) u v h₀ h₁ h₂ h₃ refl eu,
      )
      (by-fours (a % 256) (a / 256 % 256) (a₂ % 256) (a₂ / 256 % 256) (a₄ % 256) (a₄ / 256 % 256) (a₆ % 256) (a₆ / 256 % 256))
