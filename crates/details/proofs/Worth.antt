-- Values: the value rule at each answer of its reader.
-- Assumes nothing.
use mathlib.Core.Path.{◌≡◌, refl, ap, sym, ◌∙◌}
use mathlib.Core.List.{[], ◌∷◌}
use mathlib.Core.Bool.{Bool, true, false, cond, not, ◌&&◌, and-true}
use Prim.Native.Char.{code}
use Prim.Native.Nat.{ℕ, zero, suc, ◌+◌, ◌*◌, ◌<◌, ◌≤◌}
use native.Mathlib.Omega.{arith}
use lib.Dec.{eqb, leb}
use lib.ListN.{length, take, drop, get_or, length-take}
use borrow.Author.Tests.{eq-eqb, ne_eqb, le-leb, lt-leb, leb-true, leb-false, eqb-true, eqb-false}
use Rattle.text.specs.Byte.{Bytes, ascii, is_digit, every, starts_with}
use Rattle.text.specs.Number.{number, number_from, leading, behind, Digits}
use Rattle.text.proofs.Truth.{and_right}
use Rattle.text.proofs.Decimal.{run_take, run_drop, run_digits}
use Rattle.report.specs.Outcome.{Outcome, passed, refused, require, ◌>>◌}
use Rattle.report.proofs.Passing.{test-passed}
use Rattle.report.specs.Verdict.{negative, too_fine, no_value}
use Rattle.details.specs.Value.{point, whole_digits, part_digits, is_negative, watt_hours, with_point, value_parts, value_of}

-- three, two, one digits behind the point, and none
module _ (w p : Bytes) (k n : ℕ) (ek : k ≡ number w) (en : n ≡ number p) where
  pub hours_three : length p ≡ 3 → k * 1000 + n ≡ watt_hours w p
  unfolding watt_hours
  hours_three h = rw (h, ek, en) (omega arith)

  pub hours_two : length p ≡ 2 → k * 1000 + n * 10 ≡ watt_hours w p
  unfolding watt_hours
  hours_two h = rw (h, ek, en)

  pub hours_one : length p ≡ 1 → k * 1000 + n * 100 ≡ watt_hours w p
  unfolding watt_hours
  hours_one h = rw (h, ek, en)

hours_none-by : (w p : Bytes) → length p ≡ 0 → number w * 1000 ≡ watt_hours w p
unfolding watt_hours number_from
hours_none-by w [] h = omega arith
hours_none-by w (b ∷ p) h = absurd (omega (arith, h))

pub hours_none : (w p : Bytes) (k : ℕ) → k ≡ number w → Digits part_digits p → (length p ≡ 3 → ⊥) → (length p ≡ 2 → ⊥) → (length p ≡ 1 → ⊥) → k * 1000 ≡ watt_hours w p
hours_none w p k e d h3 h2 h1 = rw e (hours_none-by w p (omega (arith, d.short)))

-- A test, as a reader makes it.
tested : {A : Type 0} (t : Bool) (v : ℕ) (o : Outcome A) → cond t o (refused v) ≡ (require t v >> o)
tested true v o = refl
tested false v o = refl

refused-first : {A : Type 0} (t : Bool) (v : ℕ) (o : Outcome A) → cond t (refused v) o ≡ (require (not t) v >> o)
refused-first true v o = refl
refused-first false v o = refl

at-most : (n m : ℕ) → leb (m + 1) n ≡ not (leb n m)
at-most n m = go (leb n m) refl
  where
    go : (t : Bool) → leb n m ≡ t → leb (m + 1) n ≡ not t
    go true h = lt-leb (m + 1) n (omega (arith, leb-true n m h))
    go false h = le-leb (m + 1) n (omega (arith, leb-false n m h))

some : (n : ℕ) → leb 1 n ≡ not (eqb n 0)
some zero = refl
some (suc n) = rw (le-leb 1 (suc n) (omega arith), ne_eqb (suc n) 0 (λ e. omega (arith, e)))

-- the first byte
minus : (f : Bytes) → is_negative f ≡ starts_with (ascii "-") f
unfolding is_negative starts_with
minus [] = refl
minus (b ∷ f) = go (eqb b (code "-")) refl ∙ sym (and-true (eqb (code "-") b))
  where
    go : (t : Bool) → eqb b (code "-") ≡ t → t ≡ eqb (code "-") b
    go true h = sym (eq-eqb (code "-") b (sym (eqb-true b (code "-") h)))
    go false h = sym (ne_eqb (code "-") b (λ e. eqb-false b (code "-") h (sym e)))

pub value-signed : (f : Bytes) (q : Bool) → q ≡ starts_with (ascii "-") f → value_of f ≡ (require (not q) negative >> value_parts (leading f) (behind f))
unfolding value_of
value-signed f q e = rw (minus f, ← e) (refused-first q negative (value_parts (leading f) (behind f)))

-- digits only
ended : (whole rest : Bytes) → length rest < 1
    → value_parts whole rest ≡ (require (leb 1 (length whole) && leb (length whole) whole_digits) no_value >> passed (watt_hours whole []))
unfolding value_parts
ended whole [] h = tested (leb 1 (length whole) && leb (length whole) whole_digits) no_value (passed (watt_hours whole []))
ended whole (b ∷ rest) h = absurd (omega (arith, h))

-- another byte behind them: a point, or none
fraction : (whole part : Bytes) → with_point whole part
    ≡ (require (leb (length part) part_digits) too_fine
    >> (require (leb 1 (length part) && leb (length whole) whole_digits) no_value >> passed (watt_hours whole part)))
unfolding with_point
fraction whole part =
    rw (at-most (length part) part_digits, tested (leb 1 (length part) && leb (length whole) whole_digits) no_value (passed (watt_hours whole part)))
    (refused-first (not (leb (length part) part_digits)) too_fine _ ∙ rw (not-not (leb (length part) part_digits)))
  where
    not-not : (t : Bool) → not (not t) ≡ t
    not-not true = refl
    not-not false = refl

pointed : (whole rest : Bytes) → 1 ≤ length rest → get_or rest 0 0 ≡ point
    → value_parts whole rest ≡ (require (every is_digit (drop 1 rest)) no_value >> with_point whole (drop 1 rest))
unfolding value_parts
pointed whole [] h e = absurd (omega (arith, h))
pointed whole (b ∷ rest) h e = rw (eq-eqb b point e) (tested (every is_digit rest) no_value (with_point whole rest))

odd : (whole rest : Bytes) → 1 ≤ length rest → (get_or rest 0 0 ≡ point → ⊥) → value_parts whole rest ≡ refused no_value
unfolding value_parts
odd whole [] h e = absurd (omega (arith, h))
odd whole (b ∷ rest) h e = rw (ne_eqb b point e)

-- w is the length of the run of digits, whole is the run, and rest stands behind it
module _ (f whole rest : Bytes) (w : ℕ) (run : w ≡ length (leading f)) (ew : whole ≡ take w f) where
  pub whole-digits : (t : Bool) → passed tt ≡ require (t && leb w whole_digits) no_value → Digits whole_digits whole
  whole-digits t h =
      let short : w ≤ whole_digits = leb-true w whole_digits (and_right t (leb w whole_digits) (test-passed (t && leb w whole_digits) no_value h)) in
      record { short = rw ew (simp length-take (omega (arith, short))); clean = rw (ew, run, run_take f) (run_digits f) }

  whole_length : length whole ≡ w
  whole_length = ap length (ew ∙ ap (λ n. take n f) run ∙ run_take f) ∙ sym run

  module _ (er : rest ≡ drop w f) where
    parts : value_parts (leading f) (behind f) ≡ value_parts whole rest
    parts = rw (ew, er, run, run_take f, run_drop f)

    pub value-whole : length rest < 1 → value_parts (leading f) (behind f) ≡ (require (leb 1 w && leb w whole_digits) no_value >> passed (watt_hours whole []))
    value-whole h = parts ∙ (rw whole_length at (ended whole rest h))

    pub value-pointed : 1 ≤ length rest → get_or rest 0 0 ≡ point → (part : Bytes) (r : Bool) → r ≡ every is_digit part → part ≡ drop 1 rest
        → value_parts (leading f) (behind f)
        ≡ (require r no_value
        >> (require (leb (length part) part_digits) too_fine
        >> (require (not (eqb (length part) 0) && leb w whole_digits) no_value >> passed (watt_hours whole part))))
    value-pointed h e part r er ep = parts ∙ rw (pointed whole rest h e, ← ep, ← er, fraction whole part, whole_length, some (length part))

    pub value-odd : 1 ≤ length rest → (get_or rest 0 0 ≡ point → ⊥) → value_parts (leading f) (behind f) ≡ refused no_value
    value-odd h e = parts ∙ odd whole rest h e
