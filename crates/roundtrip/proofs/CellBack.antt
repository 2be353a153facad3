-- A sound read is the read that is built from its own stamp and intervals: the words of a cell tell nothing else.
-- Assumes nothing.
use mathlib.Core.Path.{◌≡◌, refl, sym, ap, ◌∙◌}
use mathlib.Core.List.{List, [], ◌∷◌, ◌++◌}
use mathlib.Core.Bool.{Bool, true, false}
use mathlib.Core.Logic.{⊎_elim}
use Prim.Native.Nat.{ℕ, zero, suc, ◌+◌, ◌-◌, ◌%◌, ◌^◌, ◌≤◌, ◌<◌}
use native.Mathlib.Nat.{mod-lt, eq-or-lt_of_le}
use native.Mathlib.Omega.{arith}
use lib.Dec.{eqb, ltb, lit<}
use lib.Bits.{or_lt}
use lib.Pow.{pow-lt}
use lib.ListN.{length, get_or, set, replicate, drop, length-append, get_or-append, get_or-eq_default}
use lib.Seq.{get_or_at, get_or-drop, get_or-set_same, get_or-set_other, set_out}
use borrow.Author.Tests.{eqb-true, eqb-false, ltb-true, ltb-false}
use Rattle.text.specs.Byte.{every}
use Rattle.text.proofs.Truth.{and_left, and_right}
use Rattle.details.specs.declared.detail.Interval.{Interval}
use Rattle.cell.specs.Layout.{Words, width, count_at, date_at, clock_at, values_at, max_intervals, word_bits, mark_bits}
use Rattle.cell.specs.Marks.{mark_word, with_mark}
use Rattle.cell.specs.Read.{cleared, begun, with_stamp, marked_if, with_interval, with_intervals, read_words, stamp_in, interval_in, no_interval, Holds}
use Rattle.reads.specs.Sound.{is_zero, values_of, is_sound}
use Rattle.cell.proofs.Built.{built_holds}
use Rattle.reads.proofs.Held.{holds_unique}
use Rattle.reads.proofs.Scan.{unmarked}
use Rattle.reads.proofs.SoundParts.{SoundParts, sound-parts}
use Rattle.writer.specs.Write.{Fits}

-- ---- the first n intervals of a read

unfoldable pub intervals_in : ℕ → Words → List Interval
intervals_in zero w = []
intervals_in (suc n) w = intervals_in n w ++ interval_in w n ∷ []

pub intervals-long : (n : ℕ) (w : Words) → length (intervals_in n w) ≡ n
unfolding intervals_in
intervals-long zero w = refl
intervals-long (suc n) w = simp length-append (omega (arith, intervals-long n w))

intervals-at : (n : ℕ) (w : Words) (i : ℕ) → i < n → get_or (intervals_in n w) i no_interval ≡ interval_in w i
unfolding intervals_in
intervals-at zero w i h = absurd (omega arith)
intervals-at (suc n) w i h = ⊎_elim last_one (earlier (intervals-at n w i)) (eq-or-lt_of_le (let k : i ≤ n = omega arith in k))
  where
    last_one : i ≡ n → get_or (intervals_in n w ++ interval_in w n ∷ []) i no_interval ≡ interval_in w i
    last_one e = rw e (get_or_at (intervals_in n w) (interval_in w n) [] no_interval n (intervals-long n w))

    earlier : (i < n → get_or (intervals_in n w) i no_interval ≡ interval_in w i) → i < n
        → get_or (intervals_in n w ++ interval_in w n ∷ []) i no_interval ≡ interval_in w i
    earlier ih l = get_or-append (intervals_in n w) (interval_in w n ∷ []) no_interval i (rw (intervals-long n w) l) ∙ ih l

intervals_past : (n : ℕ) (w : Words) (i : ℕ) → n ≤ i → get_or (intervals_in n w) i no_interval ≡ no_interval
intervals_past n w i h = get_or-eq_default (intervals_in n w) no_interval (rw (intervals-long n w) h)

-- ---- A SOUND READ HOLDS ITS OWN INTERVALS: past the day's last there is no value and no mark.

all-zero : (s : Words) (i : ℕ) → every is_zero s ≡ true → get_or s i 0 ≡ 0
unfolding every
all-zero [] i h = refl
all-zero (x ∷ s) zero h = eqb-true x 0 (and_left (is_zero x) (every is_zero s) h)
all-zero (x ∷ s) (suc i) h = all-zero s i (and_right (is_zero x) (every is_zero s) h)

module _ (n : ℕ) (w : Words) (parts : SoundParts n w) where
  value_past : (i : ℕ) → n ≤ i → get_or w (values_at + i) 0 ≡ 0
  value_past i h =
      let here : n + (i - n) ≡ i = omega arith in
      rw here at (sym (get_or-drop n (values_of w) (i - n) 0 ∙ get_or-drop values_at w (n + (i - n)) 0) ∙ all-zero (drop n (values_of w)) (i - n) parts.zeros)

  interval_at : (i : ℕ) → i < mark_bits → interval_in w i ≡ get_or (intervals_in n w) i no_interval
  unfolding interval_in
  interval_at i h = go (ltb i n) refl
    where
      go : (x : Bool) → ltb i n ≡ x → interval_in w i ≡ get_or (intervals_in n w) i no_interval
      go true e = sym (intervals-at n w i (ltb-true i n e))
      go false e =
          let past : n ≤ i = ltb-false i n e in
          rw (value_past i past, unmarked n w i parts.unmarked past h) (sym (intervals_past n w i past))

  sound-holds : length w ≡ width → Holds w n (stamp_in w) (intervals_in n w)
  unfolding interval_in
  sound-holds wide = record {
    wide = wide;
    counted = parts.counted;
    stamped = refl;
    values = λ i h. ap (λ (v : Interval). v.wh) (interval_at i (omega arith));
    marks = λ i h. ap (λ (v : Interval). v.estimated) (interval_at i h);
  }

-- ---- THE WORDS OF A BUILT READ FIT, if all that is put in does.

set-fits : (w : Words) (k x : ℕ) → Fits w → x < 2 ^ word_bits → Fits (set w k x)
set-fits w k x fits small i = go (eqb i k) refl (ltb k (length w)) refl
  where
    go : (p : Bool) → eqb i k ≡ p → (q : Bool) → ltb k (length w) ≡ q → get_or (set w k x) i 0 < 2 ^ word_bits
    go true e true f = rw (eqb-true i k e, get_or-set_same w k x 0 (ltb-true k (length w) f)) small
    go true e false f = rw (set_out w k x (ltb-false k (length w) f)) (fits i)
    go false e q f = rw (get_or-set_other w k i x 0 (eqb-false i k e)) (fits i)

marked-fits : (e : Bool) (w : Words) (i : ℕ) → Fits w → Fits (marked_if e w i)
unfolding with_mark
marked-fits true w i fits =
    set-fits w (mark_word i) _ fits
    (or_lt word_bits (get_or w (mark_word i) 0) (2 ^ (i % word_bits)) (fits (mark_word i)) (pow-lt (mod-lt i (lit< tt))))
marked-fits false w i fits = fits

intervals_fit : (vs : List Interval) (w : Words) (i : ℕ) → Fits w → ((k : ℕ) → k < length vs → (get_or vs k no_interval).wh < 2 ^ word_bits)
    → Fits (with_intervals w i vs)
unfolding with_intervals with_interval
intervals_fit [] w i fits small = fits
intervals_fit (v ∷ vs) w i fits small =
    intervals_fit vs (with_interval w i v) (suc i)
    (set-fits (marked_if v.estimated w i) (values_at + i) v.wh (marked-fits v.estimated w i fits) (small 0 (omega arith)))
    (λ k l. small (suc k) (omega arith))

pub zeros-at : (n i : ℕ) → ◌≡◌ {A = ℕ} (get_or (replicate n 0) i 0) 0
zeros-at zero i = refl
zeros-at (suc n) zero = refl
zeros-at (suc n) (suc i) = zeros-at n i

begun-fits : (n : ℕ) → n ≤ max_intervals → Fits (begun n)
unfolding begun cleared
begun-fits n few = set-fits cleared count_at n (λ k. rw (zeros-at width k) (omega arith)) (omega arith)

-- ---- THE READ THAT COMES BACK

module _ (n : ℕ) (w : Words) (wide : length w ≡ width) (fits : Fits w) (few : n ≤ max_intervals) (sound : is_sound n w ≡ true) where
  interval_fits : (k : ℕ) → k < length (intervals_in n w) → (get_or (intervals_in n w) k no_interval).wh < 2 ^ word_bits
  unfolding interval_in
  interval_fits k l = rw (intervals-at n w k (rw (intervals-long n w) at l)) (fits (values_at + k))

  built_fits : Fits (read_words n (stamp_in w) (intervals_in n w))
  unfolding read_words with_stamp
  built_fits =
      intervals_fit (intervals_in n w) (with_stamp (begun n) (stamp_in w)) 0
      (set-fits (set (begun n) date_at (get_or w date_at 0)) clock_at (get_or w clock_at 0)
      (set-fits (begun n) date_at (get_or w date_at 0) (begun-fits n few) (fits date_at)) (fits clock_at))
      interval_fits

  pub cell-back : read_words n (stamp_in w) (intervals_in n w) ≡ w
  cell-back =
      holds_unique (read_words n (stamp_in w) (intervals_in n w)) w n (stamp_in w) (intervals_in n w)
      (built_holds n (stamp_in w) (intervals_in n w) (rw (intervals-long n w) few))
      (sound-holds n w (sound-parts n w sound) wide) built_fits fits
