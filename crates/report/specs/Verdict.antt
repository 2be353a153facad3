-- The verdicts, by document 01's numbers ("What a call returns").
-- Assumes nothing.
use Rattle.std.specs.Prelude.{ℕ}
use Rattle.report.specs.declared.verdict.Verdict.{Verdict}
use Rattle.report.specs.declared.verdict.Verdict.TheVariants.{Stray, Short, Surplus, Long, WrongCode, WrongCount, Misfit, NotBelow, NotOneDay, WrongStatus, Negative, TooFine, NoValue, UnknownMeter, NotOwner, ReadByErcot, NoIntervalData, NotIdr, OutsideWindow}

-- the record is loaded
abbrev pub loaded : ℕ
loaded = 0

-- A RECORD, BY THE LINES AROUND IT: a stray run; a record short of rows; a surplus row
abbrev pub stray : ℕ
stray = 10

abbrev pub short : ℕ
short = 12

abbrev pub surplus : ℕ
surplus = 22

-- A ROW: the line is long
abbrev pub long : ℕ
long = 11

-- the first field is not the code due
abbrev pub wrong_code : ℕ
wrong_code = 13

-- the field count is wrong
abbrev pub wrong_count : ℕ
wrong_count = 14

-- a field does not fit
abbrev pub misfit : ℕ
misfit = 15

-- row one: start is not below stop
abbrev pub not_below : ℕ
not_below = 16

-- row one: not one whole day
abbrev pub not_one_day : ℕ
not_one_day = 17

-- a status is neither `A` nor `E`
abbrev pub wrong_status : ℕ
wrong_status = 18

-- a value's first byte is `-`
abbrev pub negative : ℕ
negative = 19

-- a value has 4 or more digits after its point
abbrev pub too_fine : ℕ
too_fine = 20

-- any other misfit of a value
abbrev pub no_value : ℕ
no_value = 21

-- A RECORD, BY THE REGISTRY: its ESI ID is unknown
abbrev pub unknown_meter : ℕ
unknown_meter = 30

-- the Sender is not the meter's owner
abbrev pub not_owner : ℕ
not_owner = 31

-- flag 1: ERCOT reads the meter
abbrev pub read_by_ercot : ℕ
read_by_ercot = 32

-- no flag 2: it is not set up for interval data
abbrev pub no_interval_data : ℕ
no_interval_data = 33

-- no flag 4: its profile is not IDR
abbrev pub not_idr : ℕ
not_idr = 34

-- the day is outside the window
abbrev pub outside_window : ℕ
outside_window = 35

-- a verdict's number
abbrev pub verdict_number : Verdict → ℕ
verdict_number Stray = stray
verdict_number Short = short
verdict_number Surplus = surplus
verdict_number Long = long
verdict_number WrongCode = wrong_code
verdict_number WrongCount = wrong_count
verdict_number Misfit = misfit
verdict_number NotBelow = not_below
verdict_number NotOneDay = not_one_day
verdict_number WrongStatus = wrong_status
verdict_number Negative = negative
verdict_number TooFine = too_fine
verdict_number NoValue = no_value
verdict_number UnknownMeter = unknown_meter
verdict_number NotOwner = not_owner
verdict_number ReadByErcot = read_by_ercot
verdict_number NoIntervalData = no_interval_data
verdict_number NotIdr = not_idr
verdict_number OutsideWindow = outside_window
