-- Rows one and thirty that passed: the ESI ID is one and the day is a date; the Sender's number is a DUNS number.
-- Assumes nothing.
use mathlib.Core.Path.{◌≡◌}
use mathlib.Core.List.{List}
use mathlib.Core.Bool.{Bool, true, ◌&&◌}
use Prim.Native.Nat.{ℕ}
use lib.Dec.{eqb}
use lib.ListN.{length}
use Rattle.calendar.specs.Date.{is_date}
use Rattle.calendar.specs.Clock.{is_clock}
use Rattle.text.specs.Byte.{Bytes, ascii, is_digit, every, equals, starts_with}
use Rattle.text.specs.Identifier.{is_esi_id, is_duns}
use Rattle.text.proofs.Truth.{and_left, and_right}
use Rattle.lines.specs.Line.{Line}
use Rattle.report.specs.Outcome.{Outcome, passed, require}
use Rattle.lines.specs.Row.{fields_of, ◌!◌}
use Rattle.report.specs.Verdict.{misfit, not_below, not_one_day}
use Rattle.report.proofs.Passing.{bind_passed, then_passed, require-passed}
use Rattle.headers.specs.Time.{time_size, date_text, clock_text, is_time, time_of, is_below, is_whole_day}
use Rattle.headers.specs.One.{RowOne, channel_of, day_of, one_of, row_one}
use Rattle.headers.specs.Thirty.{behind_name, sender_name, has_duns, ends_thirty, is_thirty, thirty_of, row_thirty}
use Rattle.headers.specs.declared.time.Time.{Time}

middle : (a b c : Bool) → (a && b && c) ≡ true → b ≡ true
middle a b c h = and_right a b (and_left (a && b) c h)

-- ---- ROW ONE

time_passed : (f : Bytes) (t : Time) → time_of f ≡ passed t → is_date t.date ≡ true
unfolding time_of is_time
time_passed f t e =
    let p = then_passed (require (is_time f) misfit) t (passed (record { date = date_text f; clock = clock_text f })) e in
    let q : ◌≡◌ {A = Outcome Time} (passed (record { date = date_text f; clock = clock_text f })) (passed t) = p.2 in
    let is : ◌≡◌ {A = Time} (record { date = date_text f; clock = clock_text f }) t = cc in
    rw (← is)
    (middle (eqb (length f) time_size && every is_digit f) (is_date (date_text f)) (is_clock (clock_text f))
    (require-passed (is_time f) misfit p.0 p.1))

day-passed : (start stop y n : Bytes) (d : ℕ) → day_of start stop y n ≡ passed d → is_date d ≡ true
unfolding day_of
day-passed start stop y n d e =
    let from = bind_passed (time_of start) d _ e in
    let to = bind_passed (time_of stop) d _ from.2 in
    let y-is = then_passed (require (equals y (ascii "Y")) misfit) d _ to.2 in
    let n-is = then_passed (require (equals n (ascii "N")) misfit) d _ y-is.2 in
    let below = then_passed (require (is_below from.0 to.0) not_below) d _ n-is.2 in
    let whole = then_passed (require (is_whole_day from.0 to.0) not_one_day) d _ below.2 in
    let q : ◌≡◌ {A = Outcome ℕ} (passed from.0.date) (passed d) = whole.2 in
    let is : from.0.date ≡ d = cc in
    rw (← is) (time_passed start from.0 from.1)

abbrev Right : RowOne → Type 0
Right one = (is_esi_id one.esi_id ≡ true) × (is_date one.day ≡ true)

fields_passed : (fields : List Bytes) (one : RowOne) → one_of fields ≡ passed one → Right one
unfolding one_of
fields_passed fields one e =
    let id = then_passed (require (is_esi_id (fields ! 2)) misfit) one _ e in
    let channel = bind_passed (channel_of (fields ! 3)) one _ id.2 in
    let day = bind_passed (day_of (fields ! 4) (fields ! 5) (fields ! 6) (fields ! 7)) one _ channel.2 in
    let q : ◌≡◌ {A = Outcome RowOne} (passed (record { esi_id = fields ! 2; channel = channel.0; day = day.0 })) (passed one) = day.2 in
    let is : ◌≡◌ {A = RowOne} (record { esi_id = fields ! 2; channel = channel.0; day = day.0 }) one = cc in
    rw (← is) (require-passed (is_esi_id (fields ! 2)) misfit id.0 id.1, day-passed _ _ _ _ day.0 day.1)

pub one-passed : (l : Line) (one : RowOne) → row_one l ≡ passed one → (is_esi_id one.esi_id ≡ true) × (is_date one.day ≡ true)
unfolding row_one
one-passed l one e =
    let fields = bind_passed (fields_of (ascii "00000001") 7 l) one one_of e in
    fields_passed fields.0 one fields.2

-- ---- ROW THIRTY

pub thirty-passed : (l : Line) (sender : Bytes) → row_thirty l ≡ passed sender → is_duns sender ≡ true
unfolding row_thirty thirty_of is_thirty has_duns
thirty-passed l sender e =
    let fields = bind_passed (fields_of (ascii "00000030") 6 l) sender thirty_of e in
    let right = then_passed (require (is_thirty fields.0) misfit) sender (passed (behind_name sender_name (fields.0 ! 4))) fields.2 in
    let q : ◌≡◌ {A = Outcome Bytes} (passed (behind_name sender_name (fields.0 ! 4))) (passed sender) = right.2 in
    let is : behind_name sender_name (fields.0 ! 4) ≡ sender = cc in
    rw (← is)
    (and_right (starts_with sender_name (fields.0 ! 4)) (is_duns (behind_name sender_name (fields.0 ! 4)))
    (middle (equals (fields.0 ! 2) (ascii "ATTRIBUTE_VALUE_PAIRS") && has_duns (ascii "MRE=") (fields.0 ! 3))
    (has_duns sender_name (fields.0 ! 4)) (ends_thirty (fields.0 ! 5) (fields.0 ! 6))
    (require-passed (is_thirty fields.0) misfit right.0 right.1)))
