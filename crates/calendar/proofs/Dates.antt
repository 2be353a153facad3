-- The parts of a date, what makes it real, and the dates of a month one after the other.
-- Assumes nothing.
use mathlib.Core.Path.{◌≡◌, refl, ◌∙◌}
use mathlib.Core.Bool.{Bool, true, false, cond, ◌||◌, and-eq-true_iff}
use Prim.Native.Nat.{ℕ, zero, suc, ◌+◌, ◌-◌, ◌/◌, ◌%◌, ◌≤◌, ◌<◌}
use native.Mathlib.Nat.{add-zero, add-suc}
use native.Mathlib.Omega.{arith}
use borrow.Author.Tests.{leb-true, le-leb, lt-ltb, le-ltb, ltb-true, ltb-false}
use lib.Dec.{eqb, ltb}
use Rattle.calendar.specs.Date.{first_year, last_year, is_leap, month_length, year_of, month_of, day_part, date_from, is_date}
use Rattle.calendar.specs.Day.{months, month_index, length_at, first_day, day_number, date_after, date_of}

-- ---- the parts

module _ (year month day : ℕ) (low : month < 100) (few : day < 100) where
  year_of_lem : year_of (date_from year month day) ≡ year
  year_of_lem = omega arith

  month_of_lem : month_of (date_from year month day) ≡ month
  month_of_lem = omega arith

  day_of_lem : day_part (date_from year month day) ≡ day
  day_of_lem = omega arith

month_days : (a b c : Bool) → (28 ≤ cond a (cond b 29 28) (cond c 30 31)) × (cond a (cond b 29 28) (cond c 30 31) ≤ 31)
month_days true true c = omega arith
month_days true false c = omega arith
month_days false b true = omega arith
month_days false b false = omega arith

-- a month has 28 to 31 days
pub length_range : (year month : ℕ) → (28 ≤ month_length year month) × (month_length year month ≤ 31)
unfolding month_length
length_range year month = month_days (eqb month 2) (is_leap year) (eqb month 4 || eqb month 6 || eqb month 9 || eqb month 11)

-- ---- real dates

pub record Real (date : ℕ) : Type 0 where
  pub year_from : first_year ≤ year_of date
  pub year_to : year_of date ≤ last_year
  pub month_from : 1 ≤ month_of date
  pub month_to : month_of date ≤ 12
  pub day-from : 1 ≤ day_part date
  pub day-to : day_part date ≤ month_length (year_of date) (month_of date)

-- a date's parts are in their ranges
pub month_in : (date : ℕ) → is_date date ≡ true → Real date
unfolding is_date
month_in date e =
    let f5 = (and-eq-true_iff _ _).0 e in
    let f4 = (and-eq-true_iff _ _).0 f5.0 in
    let f3 = (and-eq-true_iff _ _).0 f4.0 in
    let f2 = (and-eq-true_iff _ _).0 f3.0 in
    let f1 = (and-eq-true_iff _ _).0 f2.0 in
    record {
      year_from = leb-true _ _ f1.0;
      year_to = leb-true _ _ f1.1;
      month_from = leb-true _ _ f2.1;
      month_to = leb-true _ _ f3.1;
      day-from = leb-true _ _ f4.1;
      day-to = leb-true _ _ f5.1;
    }

-- and a date with its parts in their ranges is real
pub is_real : (date : ℕ) → Real date → is_date date ≡ true
unfolding is_date
is_real date r =
    rw (le-leb _ _ r.year_from, le-leb _ _ r.year_to, le-leb _ _ r.month_from, le-leb _ _ r.month_to, le-leb _ _ r.day-from)
    (le-leb _ _ r.day-to)

-- ---- a day of a month

-- the date of day `day` of month k
abbrev pub date_at : ℕ → ℕ → ℕ
date_at k day = date_from (first_year + k / 12) (k % 12 + 1) day

module _ (k day : ℕ) (few : day < 100) where
  year_at : year_of (date_at k day) ≡ first_year + k / 12
  year_at = year_of_lem _ _ _ (omega arith) few

  month_at : month_of (date_at k day) ≡ k % 12 + 1
  month_at = month_of_lem _ _ _ (omega arith) few

  day-at : day_part (date_at k day) ≡ day
  day-at = day_of_lem _ _ _ (omega arith) few

  length-at : month_length (year_of (date_at k day)) (month_of (date_at k day)) ≡ length_at k
  length-at = rw (year_at, month_at)

  index_at : month_index (date_at k day) ≡ k
  index_at = rw (year_at, month_at) (omega arith)

module _ (k day : ℕ) (from : 1 ≤ day) (to : day ≤ length_at k) where
  few-at : day < 100
  few-at = omega (arith, length_range (first_year + k / 12) (k % 12 + 1))

  pub real-at : k < months → is_date (date_at k day) ≡ true
  real-at within = is_real (date_at k day) record {
    year_from = rw (year_at k day few-at) (omega arith);
    year_to = rw (year_at k day few-at) (omega arith);
    month_from = rw (month_at k day few-at) (omega arith);
    month_to = rw (month_at k day few-at) (omega arith);
    day-from = rw (day-at k day few-at) from;
    day-to = rw (day-at k day few-at, length-at k day few-at) to;
  }

  pub number_at : day_number (date_at k day) ≡ first_day k + (day - 1)
  unfolding day_number
  number_at = rw (index_at k day few-at, day-at k day few-at)

  next-day : day < length_at k → date_after (date_at k day) ≡ date_at k (day + 1)
  unfolding date_after
  next-day less = rw (year_at k day few-at, month_at k day few-at, day-at k day few-at, lt-ltb _ _ less)

  next_month : length_at k ≤ day → date_after (date_at k day) ≡ date_at (suc k) 1
  unfolding date_after
  next_month all = rw (year_at k day few-at, month_at k day few-at, day-at k day few-at, le-ltb _ _ all) (turned (ltb (k % 12 + 1) 12) refl)
    where
      turned : (b : Bool) → ltb (k % 12 + 1) 12 ≡ b
          → cond b (date_from (first_year + k / 12) (k % 12 + 1 + 1) 1) (date_from (first_year + k / 12 + 1) 1 1) ≡ date_at (suc k) 1
      turned true e = omega (arith, ltb-true (k % 12 + 1) 12 e)
      turned false e = omega (arith, ltb-false (k % 12 + 1) 12 e)

-- ---- the days of a month, one after the other

days_of : (k : ℕ) → date_of (first_day k) ≡ date_at k 1 → (e : ℕ) → e < length_at k → date_of (first_day k + e) ≡ date_at k (e + 1)
unfolding date_of
days_of k h zero l = rw (add-zero (first_day k)) h
days_of k h (suc e) l =
    let n : date_at k (e + 1 + 1) ≡ date_at k (suc e + 1) = omega arith in
    rw (add-suc (first_day k) e, days_of k h e (omega arith)) (next-day k (e + 1) (omega arith) (omega arith) (omega arith) ∙ n)

month-over : (k e : ℕ) → date_of (first_day k) ≡ date_at k 1 → length_at k ≡ suc e → date_of (first_day k + length_at k) ≡ date_at (suc k) 1
unfolding date_of
month-over k e h q = rw (q, add-suc (first_day k) e, days_of k h e (omega arith)) (next_month k (e + 1) (omega arith) (omega arith) (omega arith))

first_of : (k : ℕ) → date_of (first_day k) ≡ date_at k 1
unfolding date_of first_day
first_of zero = refl
first_of (suc k) = month-over k (length_at k - 1) (first_of k) (omega (arith, length_range (first_year + k / 12) (k % 12 + 1)))

-- day e of month k, from 0
pub date_in : (k e : ℕ) → e < length_at k → date_of (first_day k + e) ≡ date_at k (e + 1)
date_in k e l = days_of k (first_of k) e l

-- ---- a real date is a day of its month

module _ (date : ℕ) (r : Real date) where
  pub date_at_lem : date_at (month_index date) (day_part date) ≡ date
  date_at_lem = omega arith

  pub index_in : month_index date < months
  index_in = omega arith

  pub day_in_lem : day_part date ≤ length_at (month_index date)
  day_in_lem = omega (arith, rw date_at_lem at (length-at (month_index date) (day_part date) (omega arith)))
