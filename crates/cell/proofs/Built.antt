-- A read built interval by interval holds what was put.
-- Assumes nothing.
use mathlib.Core.Path.{◌≡◌, refl, sym, ap, ◌∙◌}
use mathlib.Core.List.{List, [], ◌∷◌, ◌++◌, append-nil}
use mathlib.Core.Bool.{Bool, true, false}
use Prim.Native.Nat.{ℕ, zero, suc, ◌+◌, ◌%◌, ◌^◌, ◌≤◌, ◌<◌}
use native.Mathlib.Nat.{add-zero, le_refl}
use native.Mathlib.Numerals.{add-one}
use native.Mathlib.Omega.{arith}
use lib.Dec.{eqb}
use lib.Bits.{bit_or}
use lib.ListN.{length, get_or, set, length-append, length-set, get_or-replicate, get_or-eq_default}
use lib.Seq.{set_comm, get_or_at, get_or-set_same, get_or-set_other, append_snoc}
use borrow.Author.Tests.{eqb-true, eqb-false}
use Rattle.headers.specs.declared.time.Stamp.{Stamp}
use Rattle.details.specs.declared.detail.Interval.{Interval}
use Rattle.cell.specs.Layout.{Words, width, count_at, date_at, clock_at, marks_at, values_at, max_intervals, word_bits, mark_bits}
use Rattle.cell.specs.Marks.{mark_word, is_estimated, with_mark}
use Rattle.cell.specs.Read.{cleared, begun, with_stamp, marked_if, with_interval, with_intervals, read_words, no_interval, Holds}
use Rattle.cell.proofs.Bits.{bit-none}
use Rattle.cell.proofs.Marks.{mark_here, mark_other}

abbrev pub Intervals : Type 0
Intervals = List Interval

-- ---- the words of one interval

module _ (w : Words) (i : ℕ) (v : Interval) where
  -- its value may be put before its mark
  pub put-marked : (out : Words) → i < max_intervals → v.estimated ≡ true → out ≡ with_mark (set w (values_at + i) v.wh) i
      → out ≡ with_interval w i v
  unfolding with_interval with_mark
  put-marked out h e g =
      g ∙ rw (e, get_or-set_other w (values_at + i) (mark_word i) v.wh 0 (λ p. omega arith))
      (set_comm w (values_at + i) (mark_word i) v.wh (bit_or (get_or w (mark_word i) 0) (2 ^ (i % word_bits))) (λ p. omega arith))

  pub put-plain : v.estimated ≡ false → set w (values_at + i) v.wh ≡ with_interval w i v
  unfolding with_interval
  put-plain e = rw e

-- the words that a mark, if it is set, leaves
marked_other : (e : Bool) (w : Words) (i k : ℕ) → (k ≡ mark_word i → ⊥) → get_or (marked_if e w i) k 0 ≡ get_or w k 0
unfolding with_mark
marked_other true w i k d = get_or-set_other w (mark_word i) k _ 0 d
marked_other false w i k d = refl

marked-length : (e : Bool) (w : Words) (i : ℕ) → length (marked_if e w i) ≡ length w
unfolding with_mark
marked-length true w i = length-set w (mark_word i) _
marked-length false w i = refl

marked-here : (e : Bool) (w : Words) (i : ℕ) → i < mark_bits → values_at ≤ length w → is_estimated w i ≡ false
    → is_estimated (marked_if e w i) i ≡ e
marked-here true w i h hw z = mark_here w i h hw
marked-here false w i h hw z = z

marked-kept : (e : Bool) (w : Words) (i j : ℕ) → i < mark_bits → values_at ≤ length w → (j ≡ i → ⊥)
    → is_estimated (marked_if e w i) j ≡ is_estimated w j
marked-kept true w i j h hw d = mark_other w i h hw j d
marked-kept false w i j h hw d = refl

-- a value is no mark
value-kept : (w : Words) (i x j : ℕ) → j < mark_bits → is_estimated (set w (values_at + i) x) j ≡ is_estimated w j
unfolding is_estimated
value-kept w i x j h = rw (get_or-set_other w (values_at + i) (mark_word j) x 0 (λ p. omega arith))

-- ---- one interval more

added_other : (vs : Intervals) (v : Interval) (i : ℕ) → (i ≡ length vs → ⊥) → get_or (vs ++ v ∷ []) i no_interval ≡ get_or vs i no_interval
added_other [] v zero d = absurd (d refl)
added_other [] v (suc i) d = refl
added_other (x ∷ vs) v zero d = refl
added_other (x ∷ vs) v (suc i) d = added_other vs v i (λ p. d (ap suc p))

module _ (w : Words) (count : ℕ) (s : Stamp) (vs : Intervals) (v : Interval) (held : Holds w count s vs) (room : length vs < max_intervals) where
  put : Words
  put = with_interval w (length vs) v

  put-length : length put ≡ width
  unfolding put with_interval
  put-length =
      length-set (marked_if v.estimated w (length vs)) (values_at + length vs) v.wh ∙ marked-length v.estimated w (length vs)
      ∙ held.wide

  -- the words before the marks stay
  put-head : (k : ℕ) → k < marks_at → get_or put k 0 ≡ get_or w k 0
  unfolding put with_interval
  put-head k h =
      get_or-set_other (marked_if v.estimated w (length vs)) (values_at + length vs) k v.wh 0 (λ p. omega arith)
      ∙ marked_other v.estimated w (length vs) k (λ p. omega arith)

  put-value : (i : ℕ) → i < max_intervals → get_or put (values_at + i) 0 ≡ (get_or (vs ++ v ∷ []) i no_interval).wh
  unfolding put with_interval
  put-value i h = go (eqb i (length vs)) refl
    where
      long : values_at + length vs < length (marked_if v.estimated w (length vs))
      long = omega (arith, marked-length v.estimated w (length vs), held.wide)

      go : (x : Bool) → eqb i (length vs) ≡ x
          → get_or (set (marked_if v.estimated w (length vs)) (values_at + length vs) v.wh) (values_at + i) 0 ≡ (get_or (vs ++ v ∷ []) i no_interval).wh
      go true e =
          rw (eqb-true i (length vs) e, get_or-set_same (marked_if v.estimated w (length vs)) (values_at + length vs) v.wh 0 long)
          (sym (ap (λ (x : Interval). x.wh) (get_or_at vs v [] no_interval (length vs) refl)))
      go false e =
          let d : i ≡ length vs → ⊥ = eqb-false i (length vs) e in
          get_or-set_other (marked_if v.estimated w (length vs)) (values_at + length vs) (values_at + i) v.wh 0 (λ p. d (omega arith))
          ∙ marked_other v.estimated w (length vs) (values_at + i) (λ p. omega arith) ∙ held.values i h
          ∙ sym (ap (λ (x : Interval). x.wh) (added_other vs v i d))

  put_mark : (i : ℕ) → i < mark_bits → is_estimated put i ≡ (get_or (vs ++ v ∷ []) i no_interval).estimated
  unfolding put with_interval
  put_mark i h =
      value-kept (marked_if v.estimated w (length vs)) (length vs) v.wh i h ∙ go (eqb i (length vs)) refl
    where
      n : length vs < mark_bits
      n = omega arith

      long : values_at ≤ length w
      long = omega (arith, held.wide)

      go : (x : Bool) → eqb i (length vs) ≡ x → is_estimated (marked_if v.estimated w (length vs)) i ≡ (get_or (vs ++ v ∷ []) i no_interval).estimated
      go true e =
          rw (eqb-true i (length vs) e)
          (marked-here v.estimated w (length vs) n long
          (held.marks (length vs) n ∙ ap (λ (x : Interval). x.estimated) (get_or-eq_default vs no_interval (le_refl (length vs))))
          ∙ sym (ap (λ (x : Interval). x.estimated) (get_or_at vs v [] no_interval (length vs) refl)))
      go false e =
          let d : i ≡ length vs → ⊥ = eqb-false i (length vs) e in
          marked-kept v.estimated w (length vs) i n long d ∙ held.marks i h
          ∙ sym (ap (λ (x : Interval). x.estimated) (added_other vs v i d))

  pub put_holds : Holds (with_interval w (length vs) v) count s (vs ++ v ∷ [])
  unfolding put
  put_holds = record {
    wide = put-length;
    counted = put-head count_at (omega arith) ∙ held.counted;
    stamped = rw (put-head date_at (omega arith), put-head clock_at (omega arith)) held.stamped;
    values = put-value;
    marks = put_mark;
  }

-- ---- the whole read

-- intervals put one after the other, as the rows give them
pub put-append : (w : Words) (i : ℕ) (vs us : Intervals) → with_intervals w i (vs ++ us) ≡ with_intervals (with_intervals w i vs) (i + length vs) us
unfolding with_intervals
put-append w i [] us = rw (add-zero i)
put-append w i (v ∷ vs) us =
    let e : suc i + length vs ≡ i + suc (length vs) = omega arith in
    rw e at (put-append (with_interval w i v) (suc i) vs us)

module _ (count : ℕ) (s : Stamp) where
  begun-word : (k : ℕ) → clock_at < k → k < width → get_or (with_stamp (begun count) s) k 0 ≡ 0
  unfolding with_stamp begun cleared
  begun-word k a b =
      get_or-set_other (set (set cleared count_at count) date_at s.date) clock_at k s.clock 0 (λ p. omega arith)
      ∙ get_or-set_other (set cleared count_at count) date_at k s.date 0 (λ p. omega arith)
      ∙ get_or-set_other cleared count_at k count 0 (λ p. omega arith) ∙ get_or-replicate width k 0 0 b

  pub begun-holds : Holds (with_stamp (begun count) s) count s []
  begun-holds = record {
    wide = unfold with_stamp begun cleared in refl;
    counted = unfold with_stamp begun cleared in refl;
    stamped = unfold with_stamp begun cleared in refl;
    values = λ i h. begun-word (values_at + i) (omega arith) (omega arith);
    marks = λ i h. unfold is_estimated in rw (begun-word (mark_word i) (omega arith) (omega arith)) (bit-none (i % word_bits));
  }

  pub put-all-holds : (w : Words) (done vs : Intervals) → Holds w count s done → length done + length vs ≤ max_intervals
      → Holds (with_intervals w (length done) vs) count s (done ++ vs)
  unfolding with_intervals
  put-all-holds w done [] held room = rw (append-nil done) held
  put-all-holds w done (v ∷ vs) held room =
      let n : length (done ++ v ∷ []) ≡ suc (length done) = length-append done (v ∷ []) ∙ add-one (length done) in
      let one_more_lem : Holds (with_interval w (length done) v) count s (done ++ v ∷ []) = put_holds w count s done v held (omega arith) in
      rw (n, append_snoc) at (put-all-holds (with_interval w (length done) v) (done ++ v ∷ []) vs one_more_lem (omega (arith, n)))

  pub built_holds : (intervals : Intervals) → length intervals ≤ max_intervals → Holds (read_words count s intervals) count s intervals
  unfolding read_words
  built_holds intervals h = put-all-holds (with_stamp (begun count) s) [] intervals begun-holds (omega arith)
