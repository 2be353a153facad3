-- The scans of `sound`: every word of a class, and no mark from an interval on.
-- Assumes nothing.
use mathlib.Core.Path.{◌≡◌, refl, sym, ap, ◌∙◌}
use mathlib.Core.List.{List, [], ◌∷◌}
use mathlib.Core.Bool.{Bool, true, false, not, ◌&&◌, and_assoc}
use Prim.Native.Nat.{ℕ, zero, suc, ◌+◌, ◌-◌, ◌*◌, ◌/◌, ◌%◌, ◌^◌, ◌≤◌, ◌<◌}
use native.Mathlib.Nat.{div-one}
use native.Mathlib.Omega.{arith}
use native.Mathlib.Numerals.{add-one}
use lib.Dec.{eqb}
use lib.Pow.{shr_lt}
use lib.ListN.{length, get_or, take, drop, length-drop, drop_of_length-le}
use lib.Seq.{drop-cons, drop-drop, get_or-drop}
use borrow.Author.Tests.{not-true}
use Rattle.text.specs.Byte.{every}
use Rattle.text.proofs.Left.{left-whole}
use Rattle.text.proofs.Truth.{and_left, and_right, and_both}
use Rattle.cell.specs.Layout.{Words, width, marks_at, values_at, word_bits, mark_bits}
use Rattle.cell.specs.Marks.{bit, mark_word, is_estimated, statuses}
use Rattle.reads.specs.Sound.{is_zero, no_mark, values_of}
use Rattle.cell.proofs.Bits.{zero_bit}
use Rattle.cell.proofs.Marks.{in_word, statuses-length, statuses-at}

-- ---- every word

-- the values of a cell, and those past the n-th, as the code hands them on
pub values_are : (w : Words) → length w ≡ width → take (width - values_at) (drop values_at w) ≡ values_of w
values_are w wide = rw wide at (left-whole w values_at)

pub unused_are : (w : Words) (n : ℕ) → length w ≡ width → take (width - (values_at + n)) (drop (values_at + n) w) ≡ drop n (values_of w)
unused_are w n wide = rw wide at (left-whole w (values_at + n)) ∙ sym (drop-drop n values_at w)

-- ---- no mark

pub none_from_lem : (es : List Bool) → ((i : ℕ) → i < length es → get_or es i false ≡ false) → no_mark es ≡ true
unfolding no_mark
none_from_lem [] h = refl
none_from_lem (e ∷ es) h = and_both (not e) (no_mark es) (ap not (h 0 (omega arith))) (none_from_lem es (λ i l. h (suc i) (omega arith)))

none-at : (es : List Bool) (i : ℕ) → no_mark es ≡ true → i < length es → get_or es i false ≡ false
unfolding no_mark
none-at [] i h l = refl
none-at (e ∷ es) zero h l = not-true e (and_left (not e) (no_mark es) h)
none-at (e ∷ es) (suc i) h l = none-at es i (and_right (not e) (no_mark es) h) (omega arith)

-- no mark from interval n on
abbrev pub none_from : ℕ → Words → Bool
none_from n w = no_mark (drop n (statuses mark_bits w))

pub unmarked : (n : ℕ) (w : Words) (i : ℕ) → none_from n w ≡ true → n ≤ i → i < mark_bits → is_estimated w i ≡ false
unmarked n w i h a b =
    let e : n + (i - n) ≡ i = omega arith in
    let rest : List Bool = drop n (statuses mark_bits w) in
    let l : i - n < length rest = simp (length-drop, statuses-length) (omega arith) in
    sym (statuses-at mark_bits w i b) ∙ rw e at (sym (get_or-drop n (statuses mark_bits w) (i - n) false) ∙ none-at rest (i - n) h l)

none-suc : (w : Words) (i : ℕ) → i < mark_bits → none_from i w ≡ (not (is_estimated w i) && none_from (suc i) w)
unfolding no_mark
none-suc w i h =
    let l : i < length (statuses mark_bits w) = rw (statuses-length mark_bits w) h in
    rw (drop-cons (statuses mark_bits w) i false l, statuses-at mark_bits w i h)

-- from the k-th interval of word j on, m of that word being left
none-word : (w : Words) (j k m : ℕ) → k + m ≡ word_bits → marks_at + j < values_at → get_or w (marks_at + j) 0 < 2 ^ word_bits
    → none_from (j * word_bits + k) w ≡ (eqb (get_or w (marks_at + j) 0 / 2 ^ k) 0 && none_from (suc j * word_bits) w)
none-word w j k zero e l fits =
    let all : k ≡ word_bits = omega arith in
    let z : get_or w (marks_at + j) 0 / 2 ^ word_bits < 1 = shr_lt 0 word_bits fits in
    let q : get_or w (marks_at + j) 0 / 2 ^ word_bits ≡ 0 = omega arith in
    let next : j * word_bits + word_bits ≡ suc j * word_bits = omega arith in
    rw (all, q, next)
none-word w j k (suc m) e l fits =
    let word : ℕ = get_or w (marks_at + j) 0 in
    let rest : Bool = none_from (suc j * word_bits) w in
    let next : suc (j * word_bits + k) ≡ j * word_bits + suc k = omega arith in
    none-suc w (j * word_bits + k) (omega arith)
    ∙ rw (in_word w j k (omega arith), next, none-word w j (suc k) m (omega arith) l fits)
    (sym (and_assoc (not (bit k word)) (eqb (word / 2 ^ suc k) 0) rest)
    ∙ ap (λ (b : Bool). b && rest) (sym (zero_bit k word)))

-- a whole word
none-whole : (w : Words) (at : ℕ) → marks_at ≤ at → at < values_at → get_or w at 0 < 2 ^ word_bits
    → none_from ((at - marks_at) * word_bits) w ≡ (eqb (get_or w at 0) 0 && none_from ((at + 1 - marks_at) * word_bits) w)
none-whole w at from h fits =
    let here : marks_at + (at - marks_at) ≡ at = omega arith in
    let start : (at - marks_at) * word_bits + 0 ≡ (at - marks_at) * word_bits = omega arith in
    let next : suc (at - marks_at) * word_bits ≡ (at + 1 - marks_at) * word_bits = omega arith in
    rw (start, here, next, div-one) at (none-word w (at - marks_at) 0 word_bits (omega arith) (omega arith) (rw here fits))

module _ (w : Words) (n : ℕ) where
  pub clear_first : n < mark_bits → get_or w (mark_word n) 0 < 2 ^ word_bits
      → none_from n w ≡ (eqb (get_or w (mark_word n) 0 / 2 ^ (n % word_bits)) 0 && none_from ((mark_word n + 1 - marks_at) * word_bits) w)
  clear_first h fits =
      let e : n / word_bits * word_bits + n % word_bits ≡ n = omega arith in
      let next : suc (n / word_bits) * word_bits ≡ (mark_word n + 1 - marks_at) * word_bits = omega arith in
      rw (e, next) at (none-word w (n / word_bits) (n % word_bits) (word_bits - n % word_bits) (omega arith) (omega arith) fits)

-- whole words from a place on
none_words : (w : Words) (at m : ℕ) → at + m ≡ values_at → marks_at ≤ at → length w ≡ width → ((i : ℕ) → get_or w i 0 < 2 ^ word_bits)
    → none_from ((at - marks_at) * word_bits) w ≡ every is_zero (take m (drop at w))
unfolding no_mark every
none_words w at zero e from wide fits =
    let l : length (statuses mark_bits w) ≤ (at - marks_at) * word_bits = rw (statuses-length mark_bits w) (omega arith) in
    rw (drop_of_length-le (statuses mark_bits w) l)
none_words w at (suc m) e from wide fits =
    rw (none-whole w at from (omega arith) (fits at), drop-cons w at 0 (omega arith), ← add-one at, none_words w (at + 1) m (omega arith) (omega arith) wide fits)

-- the word of interval n, and those behind it
pub clear : (w : Words) (n : ℕ) → n < mark_bits → length w ≡ width → ((i : ℕ) → get_or w i 0 < 2 ^ word_bits)
    → (eqb (get_or w (mark_word n) 0 / 2 ^ (n % word_bits)) 0 && every is_zero (take (values_at - (mark_word n + 1)) (drop (mark_word n + 1) w))) ≡ none_from n w
clear w n h wide fits =
    rw (← none_words w (mark_word n + 1) (values_at - (mark_word n + 1)) (omega arith) (omega arith) wide fits) (sym (clear_first w n h (fits (mark_word n))))
