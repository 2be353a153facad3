-- The rows of a record as Write puts them out. Document 01, "Calls": Write; the fields are those of "Rows".
-- Assumes nothing.
use Rattle.std.specs.Prelude.{List, [], ◌∷◌, ◌++◌, Bool, true, false, ℕ, zero, suc, ◌/◌, ◌%◌}
use Rattle.text.specs.Byte.{Bytes, ascii}
use Rattle.text.specs.Field.{comma}
use Rattle.text.specs.Number.{digits_of}
use Rattle.digits.specs.Decimal.{trimmed}
use Rattle.headers.specs.Time.{date_size, clock_size, day_stop}
use Rattle.headers.specs.Thirty.{sender_name, rep_name}
use Rattle.headers.specs.declared.time.Stamp.{Stamp}
use Rattle.details.specs.Value.{point, whole_digits, part_digits, per_kwh}
use Rattle.details.specs.Detail.{detail_code}
use Rattle.details.specs.declared.detail.Interval.{Interval}

-- fields with a comma between two of them
unfoldable pub with_commas : List Bytes → Bytes
with_commas [] = []
with_commas (f ∷ []) = f
with_commas (f ∷ (g ∷ fs)) = f ++ comma ∷ with_commas (g ∷ fs)

-- ---- fields

-- a time: YYYYMMDD, then HHMMSS
unfoldable pub time_text : ℕ → ℕ → Bytes
time_text date clock = digits_of date_size date ++ digits_of clock_size clock

unfoldable pub stamp_text : Stamp → Bytes
stamp_text s = time_text s.date s.clock

-- channels by their number: load is 0, generation 1
abbrev pub channel_text : ℕ → Bytes
channel_text zero = ascii "4"
channel_text (suc c) = ascii "1"

-- kWh from watt hours: at least one digit before the point, no needless leading zero, three decimals
unfoldable pub value_text : ℕ → Bytes
value_text wh = trimmed (digits_of whole_digits (wh / per_kwh)) ++ point ∷ digits_of part_digits (wh % per_kwh)

-- whether estimated
abbrev pub status_text : Bool → Bytes
status_text false = ascii "A"
status_text true = ascii "E"

-- ---- lines, without their LF

unfoldable pub line_one : Bytes → ℕ → ℕ → Bytes
line_one esi_id channel date =
    with_commas
    (ascii "00000001" ∷ esi_id ∷ channel_text channel ∷ time_text date 0 ∷ time_text date day_stop ∷ ascii "Y" ∷ ascii "N" ∷ [])

abbrev pub line_two : Bytes
line_two = ascii "00000002,,,,,,,900,01,,,,,CST"

unfoldable pub line_three : Bytes → Bytes
line_three descriptor = with_commas (ascii "00000003" ∷ descriptor ∷ [])

unfoldable pub line_four : Stamp → Bytes
line_four stamp = with_commas (ascii "00000004" ∷ stamp_text stamp ∷ ascii "M" ∷ [])

-- MRE and Sender are the owner, the Receiver is ERCOT, REP is empty
unfoldable pub line_thirty : Bytes → Bytes
line_thirty owner =
    with_commas
    (ascii "00000030" ∷ ascii "ATTRIBUTE_VALUE_PAIRS" ∷ (ascii "MRE=" ++ owner) ∷ (sender_name ++ owner) ∷ ascii "Receiver=183529049" ∷ rep_name ∷ [])

-- value, status, empty
abbrev pub interval_fields : Interval → List Bytes
interval_fields v = value_text v.wh ∷ status_text v.estimated ∷ [] ∷ []

-- a row's fields behind its code: those of its intervals, and the last, which is empty
unfoldable pub row_fields : List Interval → List Bytes
row_fields [] = [] ∷ []
row_fields (v ∷ vs) = interval_fields v ++ row_fields vs

-- detail row k, from 0
unfoldable pub line_detail : ℕ → List Interval → Bytes
line_detail k intervals = with_commas (detail_code k ∷ row_fields intervals)
