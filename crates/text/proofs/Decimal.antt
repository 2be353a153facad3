-- Digits: runs of them, and the number that they write.
-- Assumes nothing.
use mathlib.Core.Path.{◌≡◌, refl, ap, sym, subst, ◌∙◌}
use mathlib.Core.List.{[], ◌∷◌}
use mathlib.Core.Bool.{Bool, true, false, cond, not}
use Prim.Native.Nat.{ℕ, ◌+◌, ◌-◌, ◌*◌, ◌^◌, ◌<◌, ◌≤◌}
use native.Mathlib.Omega.{arith}
use native.Mathlib.Numerals.{add-one}
use native.Mathlib.Nat.{add-zero, pow-suc, pow-le-pow_right}
use lib.ListN.{length, take, drop, get_or, length-take}
use Rattle.std.specs.List.{position_or_len}
use Rattle.std.proofs.lemmas.List.Recursion.{is_position_or_len}
use Rattle.std.proofs.lemmas.List.Sums.{position_or_len_is}
use Rattle.text.specs.Byte.{Bytes, is_digit, every}
use Rattle.text.specs.Number.{number, number_from, leading, behind, Digits}
use Rattle.text.proofs.Truth.{and_left, and_right, and_both}
use Rattle.text.proofs.Left.{left-cons, left-none}
use Rattle.text.proofs.Class.{digit_value}

-- THE RUN OF DIGITS that a text begins with, and what stands behind it
pub run_take : (s : Bytes) → take (length (leading s)) s ≡ leading s
unfolding leading
run_take [] = refl
run_take (b ∷ s) = go (is_digit b) (run_take s)
  where
    go : (t : Bool) → take (length (leading s)) s ≡ leading s → take (length (cond t (b ∷ leading s) [])) (b ∷ s) ≡ cond t (b ∷ leading s) []
    go true h = ap (λ r. b ∷ r) h
    go false h = refl

pub run_drop : (s : Bytes) → drop (length (leading s)) s ≡ behind s
unfolding leading behind
run_drop [] = refl
run_drop (b ∷ s) = go (is_digit b) (run_drop s)
  where
    go : (t : Bool) → drop (length (leading s)) s ≡ behind s → drop (length (cond t (b ∷ leading s) [])) (b ∷ s) ≡ cond t (behind s) (b ∷ s)
    go true h = h
    go false h = refl

pub run_digits : (s : Bytes) → every is_digit (leading s) ≡ true
unfolding leading every
run_digits [] = refl
run_digits (b ∷ s) = go (is_digit b) refl (run_digits s)
  where
    go : (t : Bool) → is_digit b ≡ t → every is_digit (leading s) ≡ true → every is_digit (cond t (b ∷ leading s) []) ≡ true
    go true e h = and_both (is_digit b) (every is_digit (leading s)) e h
    go false e h = refl

pub run_within : (s : Bytes) → length (leading s) ≤ length s
run_within s = omega (arith, simp length-take at (ap length (run_take s)))

pub run_stops : (s : Bytes) (w : ℕ) → w ≡ length (leading s) → (w ≡ length s → ⊥) → w < length s
run_stops s w run h = omega (arith, run_within s)

-- the run ends at the first byte that is no digit, or where the text does
abbrev pub no_digit : ℕ → Bool
no_digit b = not (is_digit b)

run_length : (s : Bytes) → length (leading s) ≡ position_or_len no_digit s
unfolding leading
run_length = is_position_or_len (λ s. length (leading s)) no_digit refl step
  where
    step : (b : ℕ) (s : Bytes) → length (leading (b ∷ s)) ≡ cond (no_digit b) 0 (1 + length (leading s))
    step b s = go (is_digit b)
      where
        go : (t : Bool) → length (cond t (b ∷ leading s) []) ≡ cond (not t) 0 (1 + length (leading s))
        go true = omega arith
        go false = refl

pub run_until : (s : Bytes) (n : ℕ) → n ≤ length s → ((k : ℕ) → k < n → no_digit (get_or s k 0) ≡ false) → (n < length s → no_digit (get_or s n 0) ≡ true) → n ≡ length (leading s)
run_until s n within none ends = sym (run_length s ∙ position_or_len_is no_digit s n 0 within none ends)

-- THE NUMBER so far, and what is left of the digits
pub number_again : (s : Bytes) (i n d : ℕ) → number_from 0 s ≡ number_from n (drop i s) → i < length s → d ≡ get_or s i 0 - 48 → number_from 0 s ≡ number_from (n * 10 + d) (drop (i + 1) s)
unfolding number_from
number_again s i n d inv h e = inv ∙ rw (left-cons s i h, e)

pub number-last : (s : Bytes) (i n : ℕ) → number_from 0 s ≡ number_from n (drop i s) → length s ≤ i → n ≡ number_from 0 s
unfolding number_from
number-last s i n inv h = sym (inv ∙ rw (left-none s i h))

pub power_step : (n d i : ℕ) → n < 10 ^ i → d ≤ 9 → n * 10 + d < 10 ^ (i + 1)
power_step n d i h g = rw (add-one, pow-suc) (omega arith)

pub power_more : (n i k : ℕ) → n < 10 ^ i → i ≤ k → n < 10 ^ k
power_more n i k h g = omega (arith, pow-le-pow_right {n = 10} (omega arith) g)

-- digits write a number below the power of their count
below-from : (s : Bytes) (n i : ℕ) → n < 10 ^ i → every is_digit s ≡ true → number_from n s < 10 ^ (i + length s)
unfolding number_from every
below-from [] n i h e = rw (add-zero i) h
below-from (b ∷ s) n i h e =
    let d : b - 48 ≤ 9 = digit_value b (and_left (is_digit b) (every is_digit s) e) in
    subst (λ (m : ℕ). number_from (n * 10 + (b - 48)) s < 10 ^ m) (omega arith)
    (below-from s (n * 10 + (b - 48)) (i + 1) (power_step n (b - 48) i h d) (and_right (is_digit b) (every is_digit s) e))

pub number-below : (w : ℕ) (s : Bytes) (r : ℕ) → Digits w s → r ≡ number s → r < 10 ^ w
number-below w s r d e =
    rw e (power_more (number s) (0 + length s) w (below-from s 0 0 (omega arith) d.clean) (omega (arith, d.short)))
