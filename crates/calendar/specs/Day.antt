-- Day numbers: 20070101 is 0, a Monday. Document 01, "Rows".
-- Assumes nothing.
use Rattle.std.specs.Prelude.{Bool, cond, ℕ, zero, suc, ◌+◌, ◌-◌, ◌*◌, ◌/◌, ◌%◌, ◌<◌, ◌≤◌, eqb, ltb}
use Rattle.calendar.specs.Date.{first_year, month_length, year_of, month_of, day_part, date_from}

-- Months count from January 2007, which is 0, to December 2099.
abbrev pub months : ℕ
months = 1116

abbrev pub month_index : ℕ → ℕ
month_index date = (year_of date - first_year) * 12 + (month_of date - 1)

abbrev pub length_at : ℕ → ℕ
length_at k = month_length (first_year + k / 12) (k % 12 + 1)

-- The day number of the first day of month k: January 2007 is 0, each later one the entry before plus the length of the month before.
unfoldable pub first_day : ℕ → ℕ
first_day zero = 0
first_day (suc k) = first_day k + length_at k

-- the number of a date's day
unfoldable pub day_number : ℕ → ℕ
day_number date = first_day (month_index date) + (day_part date - 1)

-- 20991231
abbrev pub last_day : ℕ
last_day = 33967

-- The date after a date, by the month's length and the year's end.
unfoldable pub date_after : ℕ → ℕ
date_after date =
    cond (ltb (day_part date) (month_length (year_of date) (month_of date))) (date_from (year_of date) (month_of date) (day_part date + 1))
    (cond (ltb (month_of date) 12) (date_from (year_of date) (month_of date + 1) 1)
    (date_from (year_of date + 1) 1 1))

-- the date of the day with a number
unfoldable pub date_of : ℕ → ℕ
date_of zero = date_from first_year 1 1
date_of (suc n) = date_after (date_of n)

-- day 0 is a Monday, so a Sunday is 6 days past a multiple of 7
abbrev pub is_sunday : ℕ → Bool
is_sunday n = eqb (n % 7) 6

-- the day with number n is in month k
pub record InMonth (n k : ℕ) : Type 0 where
  pub within : k < months
  pub from : first_day k ≤ n
  pub before : n < first_day (k + 1)
