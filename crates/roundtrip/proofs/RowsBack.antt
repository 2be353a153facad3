-- Each written line reads back: as its row's reader takes it, without an LF, and of its kind.
-- Assumes nothing.
use mathlib.Core.Path.{◌≡◌, refl}
use mathlib.Core.List.{List, [], ◌∷◌, ◌++◌}
use mathlib.Core.Bool.{Bool, true, false, ◌&&◌, ◌||◌}
use Prim.Native.Nat.{ℕ, zero, suc, ◌/◌, ◌^◌, ◌≤◌, ◌<◌}
use native.Mathlib.Omega.{arith}
use lib.Dec.{eqb, leb}
use lib.ListN.{length}
use lib.Seq.{take_at, drop_at}
use borrow.Author.Tests.{eqb-true, leb-true}
use Rattle.calendar.specs.Date.{is_date}
use Rattle.calendar.specs.Clock.{is_clock}
use Rattle.calendar.proofs.Dates.{month_in}
use Rattle.text.specs.Byte.{Bytes, ascii, is_digit, is_alnum, is_empty, every, equals, starts_with}
use Rattle.text.specs.Field.{cut}
use Rattle.text.specs.Number.{number, number_from, leading, behind, digits_of}
use Rattle.text.specs.Identifier.{is_name, is_esi_id, is_descriptor, is_duns, esi_id_size, descriptor_size, duns_size}
use Rattle.text.proofs.Truth.{and_left, and_right}
use Rattle.text.proofs.Class.{every_append}
use Rattle.text.proofs.DigitsOf.{digits-length, digits-clean, digits_number}
use Rattle.lines.specs.Line.{NoLf, ends_with_cr, drop_cr, ended_line, line_limit, is_long, kind_of}
use Rattle.report.specs.Outcome.{passed}
use Rattle.lines.specs.Row.{fields_of}
use Rattle.lines.specs.declared.line.Kind.TheVariants.{Opener, Detail, Other}
use Rattle.headers.specs.Time.{date_size, clock_size, day_stop, is_time, time_of, stamp_of}
use Rattle.headers.specs.One.{channel_of, day_of, one_of, row_one}
use Rattle.headers.specs.Two.{decimal_parts, is_decimal, up_to_digits, fits_form, fit_all, two_of, row_two}
use Rattle.headers.specs.Three.{row_three}
use Rattle.headers.specs.Four.{four_of, row_four}
use Rattle.headers.specs.Thirty.{sender_name, rep_name, has_duns, ends_thirty, is_thirty, thirty_of, row_thirty}
use Rattle.headers.specs.declared.one.Channel.{Channel}
use Rattle.headers.specs.declared.one.Channel.TheVariants.{Load, Generation}
use Rattle.headers.specs.declared.time.Stamp.{Stamp}
use Rattle.headers.proofs.Stops.{day_stop_stops, stop_clock, day_spanned}
use Rattle.details.specs.Detail.{detail_code, status_of, with_empty, interval_of, four_of as four_intervals, detail_of, row_detail}
use Rattle.details.specs.declared.detail.Interval.{Interval}
use Rattle.rowtext.specs.Text.{with_commas, time_text, stamp_text, channel_text, value_text, status_text, interval_fields, row_fields, line_one, line_two, line_three, line_four, line_thirty, line_detail}
use Rattle.rowtext.specs.Value.{value_end}
use Rattle.rowtext.proofs.Lengths.{time_length, one-length, three-length, four-length, thirty-length, detail_length}
use Rattle.roundtrip.proofs.Fields.{Plain, AllPlain, none, ◌also◌, digits-plain, alnum-plain, joined_no_lf, joined-ended, fields_back}
use Rattle.roundtrip.proofs.ValueBack.{value-plain, value-back}

-- ---- FIELDS

time_clean : (date clock : ℕ) → every is_digit (time_text date clock) ≡ true
unfolding time_text
time_clean date clock =
    every_append is_digit (digits_of date_size date) (digits_of clock_size clock) (digits-clean date_size date) (digits-clean clock_size clock)

time_plain : (date clock : ℕ) → Plain (time_text date clock)
time_plain date clock = digits-plain (time_text date clock) (time_clean date clock)

clock_low : (clock : ℕ) → is_clock clock ≡ true → clock < 10 ^ clock_size
unfolding is_clock
clock_low clock h = omega (arith, leb-true (clock / 10000) 23 (and_left _ _ (and_left _ _ h)))

time_back : (date clock : ℕ) → is_date date ≡ true → is_clock clock ≡ true → time_of (time_text date clock) ≡ passed (record { date = date; clock = clock })
unfolding time_of is_time time_text
time_back date clock real hour =
    let d : number (digits_of date_size date) ≡ date = digits_number date_size date (omega (arith, month_in date real)) in
    let c : number (digits_of clock_size clock) ≡ clock = digits_number clock_size clock (clock_low clock hour) in
    rw (time_length date clock, time_clean date clock, take_at (digits_of date_size date) (digits_of clock_size clock) date_size (digits-length date_size date), drop_at (digits_of date_size date) (digits_of clock_size clock) date_size (digits-length date_size date), d, c, real, hour)

-- 1 to n letters or digits
name-plain : (n : ℕ) (s : Bytes) → is_name n s ≡ true → Plain s
unfolding is_name
name-plain n s h = alnum-plain s (and_right (leb 1 (length s) && leb (length s) n) (every is_alnum s) h)

name_short : (n : ℕ) (s : Bytes) → is_name n s ≡ true → length s ≤ n
unfolding is_name
name_short n s h = leb-true (length s) n (and_right (leb 1 (length s)) (leb (length s) n) (and_left _ _ h))

-- ---- ROW ONE

abbrev pub channel_at : ℕ → Channel
channel_at zero = Load
channel_at (suc c) = Generation

channel-back : (c : ℕ) → channel_of (channel_text c) ≡ passed (channel_at c)
unfolding channel_of equals
channel-back zero = refl
channel-back (suc c) = refl

channel-plain : (c : ℕ) → Plain (channel_text c)
unfolding every
channel-plain zero = refl
channel-plain (suc c) = refl

day-back : (date : ℕ) → is_date date ≡ true → day_of (time_text date 0) (time_text date day_stop) (ascii "Y") (ascii "N") ≡ passed date
unfolding is_clock
day-back date real = day_spanned _ _ date day_stop (time_back date 0 real refl) (time_back date day_stop real (stop_clock day_stop day_stop_stops)) day_stop_stops

module _ (id : Bytes) (c date : ℕ) (named : is_esi_id id ≡ true) where
  one_plain : AllPlain (ascii "00000001" ∷ id ∷ channel_text c ∷ time_text date 0 ∷ time_text date day_stop ∷ ascii "Y" ∷ ascii "N" ∷ [])
  unfolding every
  one_plain = refl also name-plain esi_id_size id named also channel-plain c also time_plain date 0 also time_plain date day_stop also refl also refl also none

  pub one_no_lf : NoLf (line_one id c date)
  unfolding line_one
  one_no_lf = joined_no_lf _ one_plain

  pub one-kind : kind_of (ended_line (line_one id c date)).body ≡ Opener
  unfolding line_one with_commas kind_of starts_with
  one-kind = rw (joined-ended _ _ one_plain)

  pub one-back : is_date date ≡ true → row_one (ended_line (line_one id c date)) ≡ passed (record { esi_id = id; channel = channel_at c; day = date })
  unfolding line_one row_one one_of
  one-back real =
      let short : length (line_one id c date) ≤ line_limit = omega (arith, one-length id c date, name_short esi_id_size id named) in
      rw (fields_back _ _ one_plain 7 refl short, named, channel-back c, day-back date real)

-- ---- ROW TWO

pub two-no-LF : NoLf line_two
unfolding every
two-no-LF = refl

pub two-kind : kind_of (ended_line line_two).body ≡ Other
unfolding ended_line drop_cr ends_with_cr kind_of starts_with
two-kind = refl

pub two_back : row_two (ended_line line_two) ≡ passed tt
unfolding ended_line drop_cr ends_with_cr is_long fields_of cut equals is_empty every number_from leading behind decimal_parts is_decimal up_to_digits fits_form fit_all two_of row_two
two_back = refl

-- ---- ROW THREE

module _ (s : Bytes) (named : is_descriptor s ≡ true) where
  three-plain : AllPlain (ascii "00000003" ∷ s ∷ [])
  unfolding every
  three-plain = refl also name-plain descriptor_size s named also none

  pub three_no_lf : NoLf (line_three s)
  unfolding line_three
  three_no_lf = joined_no_lf _ three-plain

  pub three-kind : kind_of (ended_line (line_three s)).body ≡ Other
  unfolding line_three with_commas kind_of starts_with
  three-kind = rw (joined-ended _ _ three-plain)

  pub three_back : row_three (ended_line (line_three s)) ≡ passed tt
  unfolding line_three row_three
  three_back =
      let short : length (line_three s) ≤ line_limit = omega (arith, three-length s, name_short descriptor_size s named) in
      rw (fields_back _ _ three-plain 2 refl short, named)

-- ---- ROW FOUR

module _ (s : Stamp) where
  four-plain : AllPlain (ascii "00000004" ∷ stamp_text s ∷ ascii "M" ∷ [])
  unfolding stamp_text every
  four-plain = refl also time_plain s.date s.clock also refl also none

  pub four_no_lf : NoLf (line_four s)
  unfolding line_four
  four_no_lf = joined_no_lf _ four-plain

  pub four-kind : kind_of (ended_line (line_four s)).body ≡ Other
  unfolding line_four with_commas kind_of starts_with
  four-kind = rw (joined-ended _ _ four-plain)

  pub four-back : is_date s.date ≡ true → is_clock s.clock ≡ true → row_four (ended_line (line_four s)) ≡ passed s
  unfolding line_four stamp_text row_four four_of stamp_of equals
  four-back real hour =
      let short : length (line_four s) ≤ line_limit = omega (arith, four-length s) in
      rw (fields_back _ _ four-plain 3 refl short, time_back s.date s.clock real hour)

-- ---- ROW THIRTY

duns-short : (o : Bytes) → is_duns o ≡ true → length o ≤ duns_size
unfolding is_duns
duns-short o h = go (eqb (length o) 9) refl (and_left (eqb (length o) 9 || eqb (length o) duns_size) (every is_digit o) h)
  where
    go : (t : Bool) → eqb (length o) 9 ≡ t → (t || eqb (length o) duns_size) ≡ true → length o ≤ duns_size
    go true e g = omega (arith, eqb-true (length o) 9 e)
    go false e g = omega (arith, eqb-true (length o) duns_size g)

-- REP's number is missing
empty-duns : is_duns [] ≡ false
unfolding is_duns
empty-duns = refl

module _ (o : Bytes) (duns : is_duns o ≡ true) where
  owner-plain : Plain o
  unfolding is_duns
  owner-plain = digits-plain o (and_right (eqb (length o) 9 || eqb (length o) duns_size) (every is_digit o) duns)

  thirty-plain : AllPlain (ascii "00000030" ∷ ascii "ATTRIBUTE_VALUE_PAIRS" ∷ (ascii "MRE=" ++ o) ∷ (sender_name ++ o) ∷ ascii "Receiver=183529049" ∷ rep_name ∷ [])
  unfolding every
  thirty-plain = refl also refl also owner-plain also owner-plain also refl also refl also none

  pub thirty_no_lf : NoLf (line_thirty o)
  unfolding line_thirty
  thirty_no_lf = joined_no_lf _ thirty-plain

  pub thirty-kind : kind_of (ended_line (line_thirty o)).body ≡ Other
  unfolding line_thirty with_commas kind_of starts_with
  thirty-kind = rw (joined-ended _ _ thirty-plain)

  pub thirty-back : row_thirty (ended_line (line_thirty o)) ≡ passed o
  unfolding line_thirty row_thirty thirty_of is_thirty has_duns ends_thirty equals starts_with
  thirty-back =
      let short : length (line_thirty o) ≤ line_limit = omega (arith, thirty-length o, duns-short o duns) in
      rw (fields_back _ _ thirty-plain 6 refl short, duns, empty-duns)

-- ---- THE DETAIL ROW

code_plain : (k : ℕ) → Plain (detail_code k)
unfolding every
code_plain k = digits-plain (digits_of 2 k) (digits-clean 2 k)

status_back : (e : Bool) → status_of (status_text e) ≡ passed e
unfolding status_of equals
status_back false = refl
status_back true = refl

status_plain : (e : Bool) → Plain (status_text e)
unfolding every
status_plain false = refl
status_plain true = refl

interval_back : (v : Interval) → v.wh < value_end → interval_of (value_text v.wh) (status_text v.estimated) [] ≡ passed v
unfolding interval_of with_empty is_empty
interval_back v fits = rw (value-back v.wh fits, status_back v.estimated)

-- before other fields
interval_plain : (v : Interval) {fs : List Bytes} → AllPlain fs → AllPlain (interval_fields v ++ fs)
unfolding every
interval_plain v h = value-plain v.wh also status_plain v.estimated also refl also h

module _ (k : ℕ) (a b c d : Interval) where
  detail_plain : AllPlain (detail_code k ∷ row_fields (a ∷ b ∷ c ∷ d ∷ []))
  unfolding every row_fields
  detail_plain = code_plain k also interval_plain a (interval_plain b (interval_plain c (interval_plain d (refl also none))))

  pub detail_no_lf : NoLf (line_detail k (a ∷ b ∷ c ∷ d ∷ []))
  unfolding line_detail
  detail_no_lf = joined_no_lf _ detail_plain

  pub detail_kind : kind_of (ended_line (line_detail k (a ∷ b ∷ c ∷ d ∷ []))).body ≡ Detail
  unfolding line_detail row_fields with_commas kind_of starts_with
  detail_kind = rw (joined-ended _ _ detail_plain)

  pub detail_back : a.wh < value_end → b.wh < value_end → c.wh < value_end → d.wh < value_end → row_detail k (ended_line (line_detail k (a ∷ b ∷ c ∷ d ∷ []))) ≡ passed (a ∷ b ∷ c ∷ d ∷ [])
  unfolding line_detail row_fields row_detail detail_of four_intervals is_empty
  detail_back ha hb hc hd =
      let short : length (line_detail k (a ∷ b ∷ c ∷ d ∷ [])) ≤ line_limit = omega (arith, detail_length k (a ∷ b ∷ c ∷ d ∷ []) refl) in
      rw (fields_back _ _ detail_plain 14 refl short, interval_back a ha, interval_back b hb, interval_back c hc, interval_back d hd)
