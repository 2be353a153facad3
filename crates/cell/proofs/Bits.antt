-- Bits of a word: of none, of a word with one more set; two words with the same bits are the same.
-- Assumes nothing.
use mathlib.Core.Path.{◌≡◌, refl, sym, ap, ◌∙◌}
use mathlib.Core.Bool.{Bool, true, false, not, ◌&&◌, ◌||◌}
use Prim.Native.Nat.{ℕ, zero, suc, ◌+◌, ◌*◌, ◌/◌, ◌%◌, ◌^◌, max, ◌<◌}
use native.Mathlib.Nat.{zero-div, div-one, pow-suc, mod-lt}
use native.Mathlib.Numerals.{add-one}
use native.Mathlib.Omega.{arith}
use lib.Dec.{eqb, lit<, eqb-zero-suc, eqb-suc-zero, eqb-suc-suc}
use lib.Bits.{bit_or, or_step, or_shr}
use lib.Pow.{low, shl-shr, shr-shr, shr_lt}
use borrow.Author.Tests.{eqb-true, eqb-false, ne_eqb}
use Rattle.cell.specs.Marks.{bit}

-- the lowest bit, and the others, which are those of the half
bit-zero : (n : ℕ) → bit 0 n ≡ eqb (n % 2) 1
unfolding bit
bit-zero n = rw div-one

bit-suc : (k n : ℕ) → bit (suc k) n ≡ bit k (n / 2)
unfolding bit
bit-suc k n =
    let e : 1 + k ≡ suc k = omega arith in
    ap (λ (x : ℕ). eqb (x % 2) 1) (ap (λ (x : ℕ). n / 2 ^ x) (sym e) ∙ sym (shr-shr n 1 k))

pub bit-none : (k : ℕ) → bit k 0 ≡ false
unfolding bit
bit-none k = rw zero-div

-- the bits of two words joined
either : (p q : ℕ) → p < 2 → q < 2 → eqb (max p q) 1 ≡ (eqb p 1 || eqb q 1)
either zero zero h k = refl
either zero (suc zero) h k = refl
either zero (suc (suc q)) h k = absurd (omega arith)
either (suc zero) zero h k = refl
either (suc zero) (suc zero) h k = refl
either (suc zero) (suc (suc q)) h k = absurd (omega arith)
either (suc (suc p)) q h k = absurd (omega arith)

or-low : (x y : ℕ) → bit_or x y % 2 ≡ max (x % 2) (y % 2)
or-low x y =
    let hx : x % 2 < 2 = mod-lt x (lit< tt) in
    let hy : y % 2 < 2 = mod-lt y (lit< tt) in
    let m : max (x % 2) (y % 2) < 2 = omega arith in
    rw (or_step x y) (low (bit_or (x / 2) (y / 2)) 1 m)

pub bit-or : (k a b : ℕ) → bit k (bit_or a b) ≡ (bit k a || bit k b)
unfolding bit
bit-or k a b =
    ap (λ (x : ℕ). eqb (x % 2) 1) (or_shr a b k)
    ∙ ap (λ (x : ℕ). eqb x 1) (or-low (a / 2 ^ k) (b / 2 ^ k))
    ∙ either (a / 2 ^ k % 2) (b / 2 ^ k % 2) (mod-lt (a / 2 ^ k) (lit< tt)) (mod-lt (b / 2 ^ k) (lit< tt))

pub bit_pow : (j k : ℕ) → bit j (2 ^ k) ≡ eqb j k
bit_pow zero zero = bit-zero 1
bit_pow zero (suc k) =
    let e : 2 ^ k * 2 % 2 ≡ 0 = omega arith in
    bit-zero (2 ^ suc k) ∙ rw (pow-suc 2 k, e, eqb-zero-suc k)
bit_pow (suc j) zero = bit-suc j 1 ∙ bit-none j ∙ sym (eqb-suc-zero j)
bit_pow (suc j) (suc k) = bit-suc j (2 ^ suc k) ∙ rw (pow-suc 2 k, shl-shr (2 ^ k) 1) (bit_pow j k ∙ sym (eqb-suc-suc j k))

-- two words with the same bits
low_same : (p q : ℕ) → p < 2 → q < 2 → eqb p 1 ≡ eqb q 1 → p ≡ q
low_same p q h g e = go (eqb q 1) refl
  where
    go : (x : Bool) → eqb q 1 ≡ x → p ≡ q
    go true f = let a : p ≡ 1 = eqb-true p 1 (e ∙ f) in let b : q ≡ 1 = eqb-true q 1 f in omega arith
    go false f = let a : p ≡ 1 → ⊥ = eqb-false p 1 (e ∙ f) in let b : q ≡ 1 → ⊥ = eqb-false q 1 f in omega arith

pub bits_same : (m x y : ℕ) → x < 2 ^ m → y < 2 ^ m → ((k : ℕ) → k < m → bit k x ≡ bit k y) → x ≡ y
bits_same zero x y hx hy same = omega arith
bits_same (suc m) x y hx hy same =
    whole (low_same (x % 2) (y % 2) (mod-lt x (lit< tt)) (mod-lt y (lit< tt)) (sym (bit-zero x) ∙ same 0 (omega arith) ∙ bit-zero y))
    (bits_same m (x / 2) (y / 2) (shr_lt m 1 (rw (add-one m) hx)) (shr_lt m 1 (rw (add-one m) hy))
    (λ k h. sym (bit-suc k x) ∙ same (suc k) (omega arith) ∙ bit-suc k y))
  where
    whole : x % 2 ≡ y % 2 → x / 2 ≡ y / 2 → x ≡ y
    whole e f = omega arith

-- a word is zero if its lowest bit and its half are
zero-half : (x : ℕ) → eqb x 0 ≡ (not (eqb (x % 2) 1) && eqb (x / 2) 0)
zero-half x = go (eqb x 0) (eqb (x % 2) 1) refl refl
  where
    go : (a b : Bool) → eqb x 0 ≡ a → eqb (x % 2) 1 ≡ b → eqb x 0 ≡ (not (eqb (x % 2) 1) && eqb (x / 2) 0)
    go true b e f = let z : x ≡ 0 = eqb-true x 0 e in rw z
    go false true e f = rw (e, f)
    go false false e f =
        let z : x ≡ 0 → ⊥ = eqb-false x 0 e in
        let o : x % 2 ≡ 1 → ⊥ = eqb-false (x % 2) 1 f in
        let h : x / 2 ≡ 0 → ⊥ = λ p. z (omega arith) in
        rw (e, f, ne_eqb (x / 2) 0 h)

-- what is left of a word above bit k - 1: bit k, and what is left above it
pub zero_bit : (k x : ℕ) → eqb (x / 2 ^ k) 0 ≡ (not (bit k x) && eqb (x / 2 ^ suc k) 0)
unfolding bit
zero_bit k x =
    let e : k + 1 ≡ suc k = omega arith in
    let half : x / 2 ^ k / 2 ≡ x / 2 ^ suc k = rw e at (shr-shr x k 1) in
    rw half at (zero-half (x / 2 ^ k))
