-- The intervals of a day: the second Sunday of March has 92, the first Sunday of November 100, others 96. Document 01, "Rows".
-- Assumes nothing.
use Rattle.std.specs.Prelude.{Bool, cond, ◌&&◌, ℕ, eqb, leb}
use Rattle.calendar.specs.Date.{month_of, day_part}
use Rattle.calendar.specs.Day.{day_number, is_sunday, date_of}

-- a month's first Sunday is the one from its 1st to its 7th, the second from its 8th to its 14th
abbrev pub is_second_sunday_of_march : ℕ → Bool
is_second_sunday_of_march date = eqb (month_of date) 3 && leb 8 (day_part date) && leb (day_part date) 14 && is_sunday (day_number date)

abbrev pub is_first_sunday_of_november : ℕ → Bool
is_first_sunday_of_november date = eqb (month_of date) 11 && leb (day_part date) 7 && is_sunday (day_number date)

-- by a day's date
unfoldable pub intervals_on : ℕ → ℕ
intervals_on date = cond (is_second_sunday_of_march date) 92 (cond (is_first_sunday_of_november date) 100 96)

-- by a day's number
unfoldable pub intervals_of : ℕ → ℕ
intervals_of n = intervals_on (date_of n)
