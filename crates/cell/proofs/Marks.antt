-- Estimate marks: a mark set is the status of its interval and of no other.
-- Assumes nothing.
use mathlib.Core.Path.{◌≡◌, refl, sym, ap, ◌∙◌}
use mathlib.Core.List.{[], ◌∷◌, ◌++◌}
use mathlib.Core.Bool.{Bool, true, false, or-true, or-false}
use mathlib.Core.Logic.{⊎_elim}
use Prim.Native.Nat.{ℕ, zero, suc, ◌+◌, ◌*◌, ◌/◌, ◌%◌, ◌^◌, ◌≤◌, ◌<◌}
use native.Mathlib.Nat.{one-mul, mod-lt, eq-or-lt_of_le, le_refl}
use native.Mathlib.Numerals.{add-one}
use native.Mathlib.Omega.{arith}
use lib.Dec.{eqb, lit<}
use lib.Bits.{bit_or, bit_and, and_mask}
use lib.Pow.{shl_exact}
use lib.ListN.{length, get_or, set, length-append, length-set, get_or-append}
use lib.Seq.{ext_get_or, get_or_at, get_or-set_same, get_or-set_other}
use borrow.Author.Tests.{eqb-true, eqb-false, eq-eqb, ne_eqb}
use Rattle.cell.specs.Layout.{Words, marks_at, values_at, word_bits, mark_bits}
use Rattle.cell.specs.Marks.{bit, mark_word, is_estimated, statuses, with_mark}
use Rattle.cell.proofs.Bits.{bit-or, bit_pow}

-- interval k of word j
pub in_word : (w : Words) (j k : ℕ) → k < word_bits → is_estimated w (j * word_bits + k) ≡ bit k (get_or w (marks_at + j) 0)
unfolding is_estimated
in_word w j k h =
    let q : (j * word_bits + k) / word_bits ≡ j = omega arith in
    let r : (j * word_bits + k) % word_bits ≡ k = omega arith in
    rw (q, r)

-- ---- a mark

module _ (w : Words) (i : ℕ) (hi : i < mark_bits) (hw : values_at ≤ length w) where
  marked : ℕ
  marked = bit_or (get_or w (mark_word i) 0) (2 ^ (i % word_bits))

  pub mark_here : is_estimated (with_mark w i) i ≡ true
  unfolding is_estimated with_mark marked
  mark_here =
      rw (get_or-set_same w (mark_word i) marked 0 (omega arith))
      (bit-or (i % word_bits) (get_or w (mark_word i) 0) (2 ^ (i % word_bits))
      ∙ rw (bit_pow (i % word_bits) (i % word_bits), eq-eqb (i % word_bits) (i % word_bits) refl, or-true))

  pub mark_other : (j : ℕ) → (j ≡ i → ⊥) → is_estimated (with_mark w i) j ≡ is_estimated w j
  unfolding is_estimated with_mark marked
  mark_other j d = go (eqb (j / word_bits) (i / word_bits)) refl
    where
      go : (x : Bool) → eqb (j / word_bits) (i / word_bits) ≡ x
          → bit (j % word_bits) (get_or (set w (mark_word i) marked) (mark_word j) 0) ≡ bit (j % word_bits) (get_or w (mark_word j) 0)
      go true e =
          let q : j / word_bits ≡ i / word_bits = eqb-true (j / word_bits) (i / word_bits) e in
          let r : j % word_bits ≡ i % word_bits → ⊥ = λ p. d (omega arith) in
          rw (q, get_or-set_same w (mark_word i) marked 0 (omega arith))
          (bit-or (j % word_bits) (get_or w (mark_word i) 0) (2 ^ (i % word_bits))
          ∙ rw (bit_pow (j % word_bits) (i % word_bits), ne_eqb (j % word_bits) (i % word_bits) r, or-false))
      go false e =
          let q : j / word_bits ≡ i / word_bits → ⊥ = eqb-false (j / word_bits) (i / word_bits) e in
          let r : mark_word j ≡ mark_word i → ⊥ = λ p. q (omega arith) in
          rw (get_or-set_other w (mark_word i) (mark_word j) marked 0 r)

-- ---- the list of statuses

pub statuses-length : (n : ℕ) (w : Words) → length (statuses n w) ≡ n
unfolding statuses
statuses-length zero w = refl
statuses-length (suc n) w = length-append (statuses n w) (is_estimated w n ∷ []) ∙ ap (λ (k : ℕ). k + 1) (statuses-length n w) ∙ add-one n

pub statuses-at : (n : ℕ) (w : Words) (i : ℕ) → i < n → get_or (statuses n w) i false ≡ is_estimated w i
unfolding statuses
statuses-at zero w i h = absurd (omega arith)
statuses-at (suc n) w i h = ⊎_elim last_one (earlier (statuses-at n w i)) (eq-or-lt_of_le (let k : i ≤ n = omega arith in k))
  where
    last_one : i ≡ n → get_or (statuses n w ++ (is_estimated w n ∷ [])) i false ≡ is_estimated w i
    last_one e = rw e (get_or_at (statuses n w) (is_estimated w n) [] false n (statuses-length n w))

    earlier : (i < n → get_or (statuses n w) i false ≡ is_estimated w i) → i < n
        → get_or (statuses n w ++ (is_estimated w n ∷ [])) i false ≡ is_estimated w i
    earlier ih l = get_or-append (statuses n w) (is_estimated w n ∷ []) false i (rw (statuses-length n w) l) ∙ ih l

-- setting the mark of interval i sets its status, and changes no other
pub marked_status : (n : ℕ) (w : Words) (i : ℕ) → i < n → n ≤ mark_bits → values_at ≤ length w
    → statuses n (with_mark w i) ≡ set (statuses n w) i true
marked_status n w i h l hw =
    ext_get_or false (statuses n (with_mark w i)) (set (statuses n w) i true)
    (statuses-length n (with_mark w i) ∙ sym (length-set (statuses n w) i true ∙ statuses-length n w))
    (λ j m. go j (rw (statuses-length n (with_mark w i)) at m) (eqb j i) refl)
  where
    go : (j : ℕ) → j < n → (x : Bool) → eqb j i ≡ x → get_or (statuses n (with_mark w i)) j false ≡ get_or (set (statuses n w) i true) j false
    go j m true e =
        let q : j ≡ i = eqb-true j i e in
        statuses-at n (with_mark w i) j m
        ∙ rw (q, get_or-set_same (statuses n w) i true false (rw (statuses-length n w) h)) (mark_here w i (omega arith) hw)
    go j m false e =
        let q : j ≡ i → ⊥ = eqb-false j i e in
        statuses-at n (with_mark w i) j m ∙ mark_other w i (omega arith) hw j q
        ∙ sym (get_or-set_other (statuses n w) i j true false q ∙ statuses-at n w j m)

-- ---- what the code computes

mask : (i : ℕ) → (1 * 2 ^ (i % word_bits)) % 2 ^ word_bits ≡ 2 ^ (i % word_bits)
mask i =
    let h : i % word_bits < word_bits = mod-lt i (lit< tt) in
    shl_exact {a = 1} 1 (i % word_bits) word_bits (lit< tt) (omega arith) ∙ one-mul (2 ^ (i % word_bits))

-- a shift and a mask set a bit
abbrev masked : Words → ℕ → Words
masked w i = set w (mark_word i) (bit_or (get_or w (mark_word i) 0) ((1 * 2 ^ (i % word_bits)) % 2 ^ word_bits))

pub mark_set : (w : Words) (i : ℕ) → masked w i ≡ with_mark w i
unfolding with_mark
mark_set w i = rw (mask i)

pub mark_statuses : (w : Words) (i : ℕ) → i < mark_bits → values_at ≤ length w → statuses mark_bits (masked w i) ≡ set (statuses mark_bits w) i true
mark_statuses w i h l = rw (mark_set w i) (marked_status mark_bits w i h (le_refl mark_bits) l)

-- a shift and a mask test a bit
pub tested : (w : Words) (i : ℕ) → eqb (bit_and (get_or w (mark_word i) 0 / 2 ^ (i % word_bits)) 1) 1 ≡ is_estimated w i
unfolding is_estimated bit
tested w i = ap (λ (x : ℕ). eqb x 1) (and_mask (get_or w (mark_word i) 0 / 2 ^ (i % word_bits)) 1)

pub tested_status : (w : Words) (i : ℕ) → i < mark_bits
    → eqb (bit_and (get_or w (mark_word i) 0 / 2 ^ (i % word_bits)) 1) 1 ≡ get_or (statuses mark_bits w) i false
tested_status w i h = tested w i ∙ sym (statuses-at mark_bits w i h)
