-- The number of marks: the ones of the mark words are the estimated intervals.
-- Assumes nothing.
use mathlib.Core.Path.{◌≡◌, refl, sym, ap, ap₂, ◌∙◌}
use mathlib.Core.Bool.{true, ◌&&◌}
use Prim.Native.Nat.{ℕ, zero, suc, ◌+◌, ◌-◌, ◌*◌, ◌/◌, ◌%◌, ◌^◌, ◌≤◌, ◌<◌}
use native.Mathlib.Nat.{add-zero, mod-lt, mod-eq_of_lt, add_assoc}
use native.Mathlib.Omega.{arith}
use lib.Dec.{eqb, lit<}
use lib.Pow.{pow_pos, mod-pow-add}
use lib.Count.{ones, ones_cat, ones-ones}
use lib.ListN.{length, get_or, take, drop, length-drop}
use lib.Seq.{length-take-le, take-suc}
use Rattle.std.specs.List.{sum_by}
use Rattle.std.proofs.lemmas.List.{take_all, get_or-take, get_or-drop}
use Rattle.std.proofs.lemmas.List.Sums.{sum_by_push}
use Rattle.text.specs.Byte.{every}
use Rattle.text.proofs.Truth.{and_right}
use Rattle.cell.specs.Layout.{Words, width, count_at, marks_at, values_at, max_intervals, word_bits, mark_bits}
use Rattle.cell.specs.Marks.{bit, one, estimated}
use Rattle.reads.specs.Sound.{is_real_stamp, is_value, is_zero, values_of, is_sound}
use Rattle.cell.specs.Read.{stamp_in}
use Rattle.cell.proofs.Marks.{in_word}
use Rattle.reads.proofs.Scan.{none_from, unmarked}

-- ---- the ones of a word

one_bit : (m : ℕ) → m < 2 → ones m ≡ one (eqb m 1)
one_bit zero h = unfold ones in refl
one_bit (suc zero) h = ones-ones 1
one_bit (suc (suc m)) h = absurd (omega arith)

-- one bit more
ones-suc : (k n : ℕ) → ones (n % 2 ^ suc k) ≡ ones (n % 2 ^ k) + one (bit k n)
unfolding bit
ones-suc k n =
    let e : 1 + k ≡ suc k = omega arith in
    let split : n % 2 ^ suc k ≡ (n / 2 ^ k % 2) * 2 ^ k + n % 2 ^ k = rw e at (mod-pow-add n 1 k) in
    rw (split, ones_cat k (n / 2 ^ k % 2) (n % 2 ^ k) (mod-lt n (omega (arith, pow_pos k))), one_bit (n / 2 ^ k % 2) (mod-lt (n / 2 ^ k) (lit< tt)))
    (let a : one (eqb (n / 2 ^ k % 2) 1) + ones (n % 2 ^ k) ≡ ones (n % 2 ^ k) + one (eqb (n / 2 ^ k % 2) 1) = omega arith in a)

-- the estimated intervals up to the k-th of word j
estimated-word : (w : Words) (j k : ℕ) → k ≤ word_bits
    → estimated (j * word_bits + k) w ≡ estimated (j * word_bits) w + ones (get_or w (marks_at + j) 0 % 2 ^ k)
unfolding estimated
estimated-word w j zero h =
    let z : get_or w (marks_at + j) 0 % 2 ^ 0 ≡ 0 = omega arith in
    rw (add-zero (j * word_bits), z) (unfold ones in sym (add-zero (estimated (j * word_bits) w)))
estimated-word w j (suc k) h =
    let e : j * word_bits + suc k ≡ suc (j * word_bits + k) = omega arith in
    rw (e, ones-suc k (get_or w (marks_at + j) 0))
    (ap₂ (λ (x y : ℕ). x + y) (estimated-word w j k (omega arith)) (ap one (in_word w j k h))
    ∙ add_assoc (estimated (j * word_bits) w) (ones (get_or w (marks_at + j) 0 % 2 ^ k)) (one (bit k (get_or w (marks_at + j) 0))))

-- ---- the count, word by word

-- the words of the marks
abbrev pub mark_words : Words → Words
mark_words w = take (values_at - marks_at) (drop marks_at w)

module _ (w : Words) (wide : length w ≡ width) (fits : (i : ℕ) → get_or w i 0 < 2 ^ word_bits) where
  marks_length : length (mark_words w) ≡ values_at - marks_at
  marks_length = length-take-le (values_at - marks_at) (drop marks_at w) (simp length-drop (omega arith))

  mark : (j : ℕ) → j < values_at - marks_at → get_or (mark_words w) j 0 ≡ get_or w (marks_at + j) 0
  mark j h = get_or-take (values_at - marks_at) (drop marks_at w) j 0 h ∙ get_or-drop marks_at w j 0

  ones-estimated : (j : ℕ) → j ≤ values_at - marks_at → sum_by ones (take j (mark_words w)) ≡ estimated (j * word_bits) w
  unfolding estimated
  ones-estimated zero h = refl
  ones-estimated (suc j) h =
      let next : j * word_bits + word_bits ≡ suc j * word_bits = omega arith in
      let word : get_or w (marks_at + j) 0 % 2 ^ word_bits ≡ get_or w (marks_at + j) 0 = mod-eq_of_lt (fits (marks_at + j)) in
      rw (take-suc (mark_words w) j 0 (omega (arith, marks_length)), sum_by_push ones, ones-estimated j (omega arith), mark j (omega arith))
      (sym (rw (next, word) at (estimated-word w j word_bits (omega arith))))

  pub marks-estimated : sum_by ones (mark_words w) ≡ estimated mark_bits w
  marks-estimated = rw (take_all (values_at - marks_at) (mark_words w) (omega (arith, marks_length))) at (ones-estimated (values_at - marks_at) (omega arith))

-- ---- a sound cell

-- past the last marked interval the number stays
estimated_past : (n m : ℕ) (w : Words) → none_from n w ≡ true → n + m ≤ mark_bits → estimated (n + m) w ≡ estimated n w
unfolding estimated
estimated_past n zero w u h = rw (add-zero n)
estimated_past n (suc m) w u h =
    let e : n + suc m ≡ suc (n + m) = omega arith in
    rw (e, unmarked n w (n + m) u (omega arith) (omega arith)) (add-zero (estimated (n + m) w) ∙ estimated_past n m w u (omega arith))

sound_none : (n : ℕ) (w : Words) → is_sound n w ≡ true → none_from n w ≡ true
unfolding is_sound
sound_none n w sound =
    and_right (eqb (get_or w count_at 0) n && is_real_stamp (stamp_in w) && every is_value (values_of w) && every is_zero (drop n (values_of w)))
    (none_from n w) sound

-- the marks of a sound cell are those of its day's intervals
pub sound-estimated : (n : ℕ) (w : Words) → n ≤ max_intervals → is_sound n w ≡ true → estimated mark_bits w ≡ estimated n w
sound-estimated n w h sound =
    let e : n + (mark_bits - n) ≡ mark_bits = omega arith in
    rw e at (estimated_past n (mark_bits - n) w (sound_none n w sound) (omega arith))
