-- Words that hold a read: they are sound, and no other words hold the same.
-- Assumes nothing.
use mathlib.Core.Path.{◌≡◌, refl, sym, ap, ◌∙◌}
use mathlib.Core.Bool.{Bool, true, false}
use Prim.Native.Nat.{ℕ, ◌+◌, ◌-◌, ◌*◌, ◌^◌, ◌≤◌, ◌<◌}
use native.Mathlib.Omega.{arith}
use lib.Dec.{eqb, ltb}
use lib.ListN.{length, get_or, drop, length-drop, get_or-eq_default}
use lib.Seq.{get_or-drop, ext_get_or}
use borrow.Author.Tests.{eqb-true, eqb-false, eq-eqb, ltb-true, ltb-false, le-leb}
use Rattle.text.specs.Byte.{every}
use Rattle.text.proofs.Class.{every_from}
use Rattle.text.proofs.Truth.{and_both}
use Rattle.headers.specs.declared.time.Stamp.{Stamp}
use Rattle.cell.specs.Layout.{Words, width, count_at, date_at, clock_at, marks_at, values_at, max_intervals, word_bits, mark_bits}
use Rattle.cell.specs.Marks.{statuses}
use Rattle.cell.specs.Read.{stamp_in, no_interval, Holds}
use Rattle.reads.specs.Sound.{is_real_stamp, max_value, is_value, is_zero, no_mark, values_of, is_sound}
use Rattle.cell.proofs.Bits.{bits_same}
use Rattle.cell.proofs.Marks.{in_word, statuses-length, statuses-at}
use Rattle.reads.proofs.Scan.{none_from_lem}
use Rattle.cell.proofs.Built.{Intervals}

-- ---- soundness

module _ (w : Words) (count : ℕ) (s : Stamp) (vs : Intervals) (held : Holds w count s vs) where
  -- the most values, and none past the last interval
  small : ((i : ℕ) → i < length vs → (get_or vs i no_interval).wh ≤ max_value) → (i : ℕ) → (get_or vs i no_interval).wh ≤ max_value
  small most i = go (ltb i (length vs)) refl
    where
      go : (x : Bool) → ltb i (length vs) ≡ x → (get_or vs i no_interval).wh ≤ max_value
      go true e = most i (ltb-true i (length vs) e)
      go false e = rw (get_or-eq_default vs no_interval (ltb-false i (length vs) e)) (omega arith)

  all-values : ((i : ℕ) → i < length vs → (get_or vs i no_interval).wh ≤ max_value) → every is_value (values_of w) ≡ true
  all-values most =
      every_from is_value (values_of w)
      (λ i l.
      let h : i < max_intervals = omega (arith, length-drop values_at w, held.wide) in
      ap is_value (get_or-drop values_at w i 0 ∙ held.values i h) ∙ le-leb (get_or vs i no_interval).wh max_value (small most i))

  rest-zero : (n : ℕ) → length vs ≤ n → every is_zero (drop n (values_of w)) ≡ true
  rest-zero n past =
      every_from is_zero (drop n (values_of w))
      (λ i l.
      let h : n + i < max_intervals = omega (arith, length-drop n (values_of w), length-drop values_at w, held.wide) in
      ap is_zero (get_or-drop n (values_of w) i 0 ∙ get_or-drop values_at w (n + i) 0 ∙ held.values (n + i) h)
      ∙ rw (get_or-eq_default vs no_interval (let g : length vs ≤ n + i = omega arith in g)))

  rest-unmarked : (n : ℕ) → length vs ≤ n → no_mark (drop n (statuses mark_bits w)) ≡ true
  rest-unmarked n past =
      none_from_lem (drop n (statuses mark_bits w))
      (λ i l.
      let h : n + i < mark_bits = omega (arith, length-drop n (statuses mark_bits w), statuses-length mark_bits w) in
      get_or-drop n (statuses mark_bits w) i false ∙ statuses-at mark_bits w (n + i) h ∙ held.marks (n + i) h
      ∙ rw (get_or-eq_default vs no_interval (let g : length vs ≤ n + i = omega arith in g)))

  pub holds-sound : (n : ℕ) → n ≡ count → count ≡ length vs → is_real_stamp s ≡ true
      → ((i : ℕ) → i < length vs → (get_or vs i no_interval).wh ≤ max_value) → is_sound n w ≡ true
  unfolding is_sound
  holds-sound n e all real most =
      let past : length vs ≤ n = omega arith in
      let counted : eqb (get_or w count_at 0) n ≡ true = eq-eqb (get_or w count_at 0) n (held.counted ∙ sym e) in
      and_both _ _
      (and_both _ _ (and_both _ _ (and_both _ _ counted (rw held.stamped real)) (all-values most)) (rest-zero n past))
      (rest-unmarked n past)

-- ---- uniqueness

module _ (w u : Words) (count : ℕ) (s : Stamp) (vs : Intervals) (held : Holds w count s vs) (also : Holds u count s vs)
    (fits : (k : ℕ) → get_or w k 0 < 2 ^ word_bits) (fits-also : (k : ℕ) → get_or u k 0 < 2 ^ word_bits) where
  same_head : (k : ℕ) → k < marks_at → get_or w k 0 ≡ get_or u k 0
  same_head k h = go (eqb k count_at) (eqb k date_at) refl refl
    where
      stamps : stamp_in w ≡ stamp_in u
      stamps = held.stamped ∙ sym also.stamped

      go : (x y : Bool) → eqb k count_at ≡ x → eqb k date_at ≡ y → get_or w k 0 ≡ get_or u k 0
      go true y e f = rw (eqb-true k count_at e) (held.counted ∙ sym also.counted)
      go false true e f = rw (eqb-true k date_at f) (ap (λ (x : Stamp). x.date) stamps)
      go false false e f =
          let a : k ≡ count_at → ⊥ = eqb-false k count_at e in
          let b : k ≡ date_at → ⊥ = eqb-false k date_at f in
          let last : k ≡ clock_at = omega arith in
          rw last (ap (λ (x : Stamp). x.clock) stamps)

  same-marks : (j : ℕ) → marks_at + j < values_at → get_or w (marks_at + j) 0 ≡ get_or u (marks_at + j) 0
  same-marks j h =
      bits_same word_bits (get_or w (marks_at + j) 0) (get_or u (marks_at + j) 0) (fits (marks_at + j)) (fits-also (marks_at + j))
      (λ k l.
      let m : j * word_bits + k < mark_bits = omega arith in
      sym (in_word w j k l) ∙ held.marks (j * word_bits + k) m ∙ sym (also.marks (j * word_bits + k) m) ∙ in_word u j k l)

  same_word : (k : ℕ) → k < width → get_or w k 0 ≡ get_or u k 0
  same_word k h = go (ltb k marks_at) (ltb k values_at) refl refl
    where
      go : (x y : Bool) → ltb k marks_at ≡ x → ltb k values_at ≡ y → get_or w k 0 ≡ get_or u k 0
      go true y e f = same_head k (ltb-true k marks_at e)
      go false true e f =
          let from : marks_at ≤ k = ltb-false k marks_at e in
          let to : k < values_at = ltb-true k values_at f in
          let here : marks_at + (k - marks_at) ≡ k = omega arith in
          rw here at (same-marks (k - marks_at) (omega arith))
      go false false e f =
          let from : values_at ≤ k = ltb-false k values_at f in
          let here : values_at + (k - values_at) ≡ k = omega arith in
          rw here at (held.values (k - values_at) (omega arith) ∙ sym (also.values (k - values_at) (omega arith)))

  pub holds_unique : w ≡ u
  holds_unique = ext_get_or 0 w u (held.wide ∙ sym also.wide) (λ k l. same_word k (omega (arith, held.wide)))
