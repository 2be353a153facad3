-- Dates: a number YYYYMMDD, real from 2007 to 2099. Document 01, "Rows".
-- Assumes nothing.
use Rattle.std.specs.Prelude.{Bool, cond, not, ◌&&◌, ◌||◌, ℕ, ◌+◌, ◌*◌, ◌/◌, ◌%◌, eqb, leb}

abbrev pub first_year : ℕ
first_year = 2007

abbrev pub last_year : ℕ
last_year = 2099

abbrev pub is_leap : ℕ → Bool
is_leap year = eqb (year % 4) 0 && (not (eqb (year % 100) 0) || eqb (year % 400) 0)

-- how many days month 1 to 12 of a year has
unfoldable pub month_length : ℕ → ℕ → ℕ
month_length year month =
    cond (eqb month 2) (cond (is_leap year) 29 28) (cond (eqb month 4 || eqb month 6 || eqb month 9 || eqb month 11) 30 31)

-- the parts of a date YYYYMMDD
abbrev pub year_of : ℕ → ℕ
year_of date = date / 10000

abbrev pub month_of : ℕ → ℕ
month_of date = date / 100 % 100

abbrev pub day_part : ℕ → ℕ
day_part date = date % 100

abbrev pub date_from : ℕ → ℕ → ℕ → ℕ
date_from year month day = year * 10000 + month * 100 + day

-- document 01's "real dates of 2007 to 2099"
unfoldable pub is_date : ℕ → Bool
is_date date =
    leb first_year (year_of date) && leb (year_of date) last_year && leb 1 (month_of date) && leb (month_of date) 12
    && leb 1 (day_part date) && leb (day_part date) (month_length (year_of date) (month_of date))
