-- Times of 14 digits, the stamp of a read, and a day's start and stop. Document 01, "Rows"; document 02, S-1.
-- Assumes nothing.
use Rattle.std.specs.Prelude.{Bool, ◌&&◌, ◌||◌, ℕ, ◌+◌, ◌*◌, eqb, ltb, length, take, drop}
use Rattle.calendar.specs.Date.{is_date}
use Rattle.calendar.specs.Clock.{is_clock}
use Rattle.text.specs.Byte.{Bytes, is_digit, every}
use Rattle.text.specs.Number.{number}
use Rattle.report.specs.Outcome.{Outcome, passed, require, ◌>>=◌, ◌>>◌}
use Rattle.report.specs.Verdict.{misfit}
use Rattle.headers.specs.declared.time.Time.{Time}
use Rattle.headers.specs.declared.time.Stamp.{Stamp}

-- YYYYMMDD, then HHMMSS
abbrev pub date_size : ℕ
date_size = 8

abbrev pub clock_size : ℕ
clock_size = 6

abbrev pub time_size : ℕ
time_size = date_size + clock_size

abbrev pub date_text : Bytes → ℕ
date_text f = number (take date_size f)

abbrev pub clock_text : Bytes → ℕ
clock_text f = number (drop date_size f)

-- a time: 14 digits, a real date of 2007 to 2099, hour to 23, minute and second to 59
unfoldable pub is_time : Bytes → Bool
is_time f = eqb (length f) time_size && every is_digit f && is_date (date_text f) && is_clock (clock_text f)

unfoldable pub time_of : Bytes → Outcome Time
time_of f = do
  require (is_time f) misfit
  passed (record { date = date_text f; clock = clock_text f })

abbrev pub stamp_at : Time → Stamp
stamp_at time = record { date = time.date; clock = time.clock }

-- a read's stamp, which settles which read of a day wins
unfoldable pub stamp_of : Bytes → Outcome Stamp
stamp_of f = do
  time ← time_of f
  passed (stamp_at time)

-- the 14 digits as one number
abbrev pub moment : Time → ℕ
moment t = t.date * 1000000 + t.clock

-- start is numerically below stop
unfoldable pub is_below : Time → Time → Bool
is_below start stop = ltb (moment start) (moment stop)

-- 23:59:00, which Write puts
abbrev pub day_stop : ℕ
day_stop = 235900

-- 23:59:59. Document 02, S-1.
abbrev pub last_second : ℕ
last_second = 235959

-- the clock times that stop a day
unfoldable pub stops_day : ℕ → Bool
stops_day clock = eqb clock day_stop || eqb clock last_second

-- start is 000000 of a day and stop the stop of that day
unfoldable pub is_whole_day : Time → Time → Bool
is_whole_day start stop = eqb start.clock 0 && eqb stop.date start.date && stops_day stop.clock
