-- What the calendar's functions answer to any number at all: 0, or `None`, where it is no date, or no day up to 20991231.
-- Assumes nothing.
use Rattle.std.specs.Prelude.{Option, Some, None, cond, ℕ, leb}
use Rattle.calendar.specs.Date.{is_date}
use Rattle.calendar.specs.Day.{day_number, last_day, date_of}
use Rattle.calendar.specs.Intervals.{intervals_on, intervals_of}

unfoldable pub day_is : ℕ → Option ℕ
day_is date = cond (is_date date) (Some (day_number date)) None

unfoldable pub date_is : ℕ → ℕ
date_is n = cond (leb n last_day) (date_of n) 0

unfoldable pub intervals_on_date : ℕ → ℕ
intervals_on_date date = cond (is_date date) (intervals_on date) 0

unfoldable pub intervals_of_day : ℕ → ℕ
intervals_of_day n = cond (leb n last_day) (intervals_of n) 0
