-- The lengths of the written fields and lines.
-- Assumes nothing.
use mathlib.Core.Path.{◌≡◌, refl, ◌∙◌}
use mathlib.Core.List.{List, [], ◌∷◌}
use mathlib.Core.Bool.{Bool, true, false}
use Prim.Native.Nat.{ℕ, zero, suc, ◌+◌, ◌*◌, ◌/◌, ◌%◌, ◌≤◌}
use native.Mathlib.Omega.{arith}
use lib.ListN.{length, length-append}
use Rattle.text.specs.Byte.{Bytes, ascii}
use Rattle.text.specs.Field.{comma}
use Rattle.text.specs.Number.{digits_of}
use Rattle.text.proofs.DigitsOf.{digits-length}
use Rattle.digits.specs.Decimal.{trimmed}
use Rattle.digits.proofs.Decimal.{trimmed-length}
use Rattle.lines.specs.Line.{detail_bytes}
use Rattle.headers.specs.Time.{date_size, clock_size, time_size, day_stop}
use Rattle.headers.specs.Thirty.{sender_name}
use Rattle.headers.specs.declared.time.Stamp.{Stamp}
use Rattle.details.specs.Value.{point, whole_digits, part_digits, per_kwh}
use Rattle.details.specs.Detail.{per_row, detail_code}
use Rattle.details.specs.declared.detail.Interval.{Interval}
use Rattle.rowtext.specs.Text.{with_commas, time_text, stamp_text, channel_text, value_text, status_text, interval_fields, row_fields, line_one, line_two, line_three, line_four, line_thirty, line_detail}

-- ---- fields

pub time_length : (date clock : ℕ) → length (time_text date clock) ≡ time_size
unfolding time_text
time_length date clock =
    length-append (digits_of date_size date) (digits_of clock_size clock)
    ∙ omega (arith, digits-length date_size date, digits-length clock_size clock)

pub channel-length : (c : ℕ) → length (channel_text c) ≡ 1
channel-length zero = refl
channel-length (suc c) = refl

pub status-length : (e : Bool) → length (status_text e) ≡ 1
status-length false = refl
status-length true = refl

pub value-length : (wh : ℕ) → length (value_text wh) ≤ 10
unfolding value_text
value-length wh =
    let whole : Bytes = digits_of whole_digits (wh / per_kwh) in
    let part : Bytes = digits_of part_digits (wh % per_kwh) in
    omega
    (arith, length-append (trimmed whole) (point ∷ part), trimmed-length whole, digits-length whole_digits (wh / per_kwh), digits-length part_digits (wh % per_kwh))

pub code_length : (k : ℕ) → length (detail_code k) ≡ 8
code_length k = length-append detail_bytes (digits_of 2 k) ∙ omega (arith, digits-length 2 k)

-- ---- lines

-- fields, each behind a comma
abbrev behind_commas : List Bytes → ℕ
behind_commas [] = 0
behind_commas (f ∷ fs) = length f + 1 + behind_commas fs

joined_length : (f : Bytes) (fs : List Bytes) → length (with_commas (f ∷ fs)) ≡ length f + behind_commas fs
unfolding with_commas
joined_length f [] = omega arith
joined_length f (g ∷ fs) = length-append f (comma ∷ with_commas (g ∷ fs)) ∙ omega (arith, joined_length g fs)

pub one-length : (id : Bytes) (c date : ℕ) → length (line_one id c date) ≡ length id + 45
unfolding line_one
one-length id c date =
    joined_length _ _ ∙ omega (arith, channel-length c, time_length date 0, time_length date day_stop)

pub two-length : length line_two ≡ 29
two-length = refl

pub three-length : (s : Bytes) → length (line_three s) ≡ length s + 9
unfolding line_three
three-length s = joined_length _ _ ∙ omega arith

pub four-length : (s : Stamp) → length (line_four s) ≡ 25
unfolding line_four stamp_text
four-length s = joined_length _ _ ∙ omega (arith, time_length s.date s.clock)

pub thirty-length : (o : Bytes) → length (line_thirty o) ≡ length o + length o + 67
unfolding line_thirty
thirty-length o = joined_length _ _ ∙ omega (arith, length-append (ascii "MRE=") o, length-append sender_name o)

interval_length : (v : Interval) → behind_commas (interval_fields v) ≤ 14
interval_length v = omega (arith, value-length v.wh, status-length v.estimated)

row_length : (vs : List Interval) → behind_commas (row_fields vs) ≤ 14 * length vs + 1
unfolding row_fields
row_length [] = omega arith
row_length (v ∷ vs) = omega (arith, interval_length v, row_length vs)

pub detail_length : (k : ℕ) (vs : List Interval) → length vs ≡ per_row → length (line_detail k vs) ≤ 65
unfolding line_detail
detail_length k vs four = rw joined_length (omega (arith, code_length k, row_length vs, four))
