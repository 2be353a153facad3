-- Day numbers and real dates are each other's inverse, from 0 to the last day; and the counts of intervals that there are.
-- Assumes nothing.
use mathlib.Core.Path.{◌≡◌, refl, ap, ◌∙◌}
use mathlib.Core.Bool.{Bool, true, false, cond}
use mathlib.Core.Logic.{◌⊎◌, inl, inr}
use Prim.Native.Nat.{ℕ, zero, suc, ◌+◌, ◌-◌, ◌≤◌, ◌<◌}
use native.Mathlib.Omega.{arith}
use borrow.Author.Tests.{ltb-true, ltb-false, le-leb}
use lib.Dec.{ltb}
use Rattle.calendar.specs.Date.{first_year, year_of, month_of, day_part, is_date}
use Rattle.calendar.specs.Day.{months, month_index, length_at, first_day, day_number, last_day, date_of, InMonth}
use Rattle.calendar.specs.Intervals.{is_second_sunday_of_march, is_first_sunday_of_november, intervals_on, intervals_of}
use Rattle.calendar.specs.Answer.{date_is, intervals_on_date, intervals_of_day}
use Rattle.calendar.proofs.Table.{months-end, first_next, first-order}
use Rattle.calendar.proofs.Dates.{month_in, date_at, real-at, number_at, date_in, date_at_lem, index_in, day_in_lem}

-- ---- the month of a day

month_found : (n k : ℕ) → n < first_day k → k ≤ months → (j : ℕ) × InMonth n j
unfolding first_day
month_found n zero h w = absurd (omega arith)
month_found n (suc k) h w = last (ltb n (first_day k)) refl (λ l. month_found n k l (omega arith))
  where
    last : (b : Bool) → ltb n (first_day k) ≡ b → (n < first_day k → (j : ℕ) × InMonth n j) → (j : ℕ) × InMonth n j
    last true e earlier = earlier (ltb-true n (first_day k) e)
    last false e earlier =
        (k, record { within = omega arith; from = ltb-false n (first_day k) e; before = omega (arith, first_next k) })

module _ (n k : ℕ) (i : InMonth n k) where
  rest_of : n - first_day k < length_at k
  rest_of = omega (arith, first_next k)

  -- the date, by the month and the day of the month
  pub date_found : date_of n ≡ date_at k (n - first_day k + 1)
  date_found =
      let e : n ≡ first_day k + (n - first_day k) = omega arith in
      ap date_of e ∙ date_in k (n - first_day k) rest_of

  real-found : is_date (date_of n) ≡ true
  real-found = rw date_found (real-at k (n - first_day k + 1) (omega arith) (omega (arith, rest_of)) i.within)

  number-found : day_number (date_of n) ≡ n
  number-found =
      let e : first_day k + (n - first_day k + 1 - 1) ≡ n = omega arith in
      rw date_found (number_at k (n - first_day k + 1) (omega arith) (omega (arith, rest_of)) ∙ e)

-- ---- day numbers and dates

module _ (n : ℕ) (low : n ≤ last_day) where
  month_here : (j : ℕ) × InMonth n j
  month_here = month_found n months (omega (arith, months-end)) (omega arith)

  pub date_real : is_date (date_of n) ≡ true
  date_real = real-found n month_here.0 month_here.1

  pub number_of_date : day_number (date_of n) ≡ n
  number_of_date = number-found n month_here.0 month_here.1

pub day-low : (date : ℕ) → is_date date ≡ true → day_number date ≤ last_day
unfolding day_number
day-low date e =
    let r = month_in date e in
    let k = month_index date in
    let o : first_day (k + 1) ≤ first_day months = first-order (k + 1) months (omega (arith, index_in date r)) in
    omega (arith, o, first_next k, months-end, day_in_lem date r, r.day-from)

-- what the code's sums and differences need of a real date
pub record Ranges (date : ℕ) : Type 0 where
  pub year : first_year ≤ year_of date
  pub month : 1 ≤ month_of date
  pub day : 1 ≤ day_part date
  pub index : month_index date < months
  pub number : day_number date ≤ last_day

pub in_range : (date : ℕ) → is_date date ≡ true → Ranges date
in_range date e =
    let r = month_in date e in
    record { year = r.year_from; month = r.month_from; day = r.day-from; index = index_in date r; number = day-low date e }

pub date-of-number : (date : ℕ) → is_date date ≡ true → date_of (day_number date) ≡ date
unfolding day_number
date-of-number date e =
    let r = month_in date e in
    let d : day_part date - 1 + 1 ≡ day_part date = omega (arith, r.day-from) in
    date_in (month_index date) (day_part date - 1) (omega (arith, day_in_lem date r, r.day-from)) ∙ ap (date_at (month_index date)) d ∙ date_at_lem date r

-- what is answered for a day up to the last
pub date_is_lem : (n : ℕ) → n ≤ last_day → date_is n ≡ date_of n
unfolding date_is
date_is_lem n h = rw (le-leb n last_day h)

-- ---- intervals

three : (a b : Bool) (n : ℕ) → n ≡ cond a 92 (cond b 100 96) → (n ≡ 92) ⊎ ((n ≡ 96) ⊎ (n ≡ 100))
three true b n e = inl e
three false true n e = inr (inr e)
three false false n e = inr (inl e)

pub intervals-three : (date : ℕ) → (intervals_on date ≡ 92) ⊎ ((intervals_on date ≡ 96) ⊎ (intervals_on date ≡ 100))
unfolding intervals_on
intervals-three date = three (is_second_sunday_of_march date) (is_first_sunday_of_november date) (intervals_on date) refl

pub intervals_on_is : (date : ℕ) → is_date date ≡ true → intervals_on_date date ≡ intervals_on date
unfolding intervals_on_date
intervals_on_is date e = rw e

pub intervals_of_is : (n : ℕ) → n ≤ last_day → intervals_of_day n ≡ intervals_of n
unfolding intervals_of_day
intervals_of_is n h = rw (le-leb n last_day h)

-- the two ways to a day's intervals agree
pub intervals_same : (n : ℕ) → n ≤ last_day → intervals_on_date (date_is n) ≡ intervals_of_day n
unfolding intervals_of
intervals_same n h = rw (date_is_lem n h, intervals_on_is (date_of n) (date_real n h), intervals_of_is n h)
