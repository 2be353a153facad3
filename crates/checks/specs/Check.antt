-- The registry checks 30 to 35 of a record that has all its rows. Document 01, "What a call returns".
-- Assumes nothing.
use Rattle.std.specs.Prelude.{Option, Some, None, Result, Ok, Err, Bool, not, ◌&&◌, ℕ, suc, ◌+◌, ◌-◌, ◌/◌, ◌%◌, eqb, leb, ltb}
use Rattle.calendar.specs.Date.{is_date}
use Rattle.calendar.specs.Day.{day_number}
use Rattle.text.specs.Byte.{Bytes, equals}
use Rattle.report.specs.Outcome.{Outcome, passed, refused, require, ◌>>◌}
use Rattle.report.specs.Verdict.{unknown_meter, not_owner, read_by_ercot, no_interval_data, not_idr, outside_window, verdict_number}
use Rattle.registry.specs.Registry.{Meter, meters_of, window_is}
use Rattle.registry.specs.Index.{meter_at, find_meter}
use Rattle.registry.specs.declared.entry.Window.{Window}
use Rattle.report.specs.declared.verdict.Fault.{Fault}
use Rattle.checks.specs.declared.Cleared.{Cleared}

-- the flags, by what each is worth: ERCOT reads the meter, it is set up for interval data, its profile is IDR
abbrev pub ercot_flag : ℕ
ercot_flag = 1

abbrev pub interval_flag : ℕ
interval_flag = 2

abbrev pub idr_flag : ℕ
idr_flag = 4

unfoldable pub has_flag : ℕ → ℕ → Bool
has_flag flag flags = eqb (flags / flag % 2) 1

-- a date of the window
unfoldable pub in_window : Window → ℕ → Bool
in_window w date = is_date date && leb w.first (day_number date) && ltb (day_number date) (w.first + w.days)

-- 32 to 34, by the sum of the flags
unfoldable pub flag_checks : ℕ → Outcome (Unit {0})
flag_checks flags = do
  require (not (has_flag ercot_flag flags)) read_by_ercot
  require (has_flag interval_flag flags) no_interval_data
  require (has_flag idr_flag flags) not_idr

-- 35: the window day, from 0
unfoldable pub day_in : Window → ℕ → Outcome ℕ
day_in w date = do
  require (in_window w date) outside_window
  passed (day_number date - w.first)

-- the checks of a known meter; they give the window day
unfoldable pub meter_checks : Window → Meter → Bytes → ℕ → Outcome ℕ
meter_checks w meter sender date = do
  require (equals meter.owner sender) not_owner
  flag_checks meter.flags
  day_in w date

-- what the checks give: meter and window day, each from 0; or the verdict, and the meter as the report numbers it: from 1, 0 if unknown
pub data Judgement : Type 0 where
  Passed : ℕ → ℕ → Judgement
  Refused : ℕ → ℕ → Judgement

-- a refusal with the meter as the report numbers it, from 1
abbrev pub of_meter : ℕ → Outcome ℕ → Judgement
of_meter m (passed d) = Passed m d
of_meter m (refused v) = Refused v (suc m)

abbrev pub by_meter : Option ℕ → Bytes → Bytes → ℕ → Judgement
by_meter None reg sender date = Refused unknown_meter 0
by_meter (Some m) reg sender date = of_meter m (meter_checks (window_is reg) (meter_at reg m) sender date)

-- ESI ID and Sender are padded as in the registry
unfoldable pub judge : Bytes → Bytes → Bytes → ℕ → Judgement
judge reg id sender date = by_meter (find_meter id (meters_of reg)) reg sender date

-- what the code answers
abbrev pub judged_says : Result Cleared Fault → Judgement
judged_says (Ok c) = Passed c.meter c.day
judged_says (Err f) = Refused (verdict_number f.verdict) f.meter
