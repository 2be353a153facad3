-- The record of a sound read, as a file: its rows say what the read is, and the record loads.
-- Assumes nothing.
use mathlib.Core.Path.{◌≡◌, refl, sym, ap, ◌∙◌}
use mathlib.Core.List.{List, [], ◌∷◌, ◌++◌, map, append-nil, append_assoc}
use mathlib.Core.Logic.{⊎_elim}
use mathlib.Core.Bool.{true}
use Prim.Native.Nat.{ℕ, zero, suc, ◌+◌, ◌*◌, ◌/◌, ◌≤◌, ◌<◌}
use native.Mathlib.Nat.{add-zero}
use native.Mathlib.Omega.{arith}
use lib.ListN.{length, get_or, length-append, length-map, length-drop}
use lib.Seq.{get_or-drop}
use borrow.Author.Tests.{leb-true}
use Rattle.calendar.specs.Clock.{is_clock}
use Rattle.calendar.specs.Date.{is_date}
use Rattle.calendar.specs.Intervals.{intervals_on}
use Rattle.calendar.proofs.Laws.{intervals-three}
use Rattle.text.specs.Byte.{Bytes}
use Rattle.text.specs.Identifier.{esi_id_size, is_esi_id, is_descriptor, is_duns}
use Rattle.text.proofs.Class.{every-at}
use Rattle.text.proofs.Truth.{and_left, and_right}
use Rattle.lines.specs.Line.{NoLf, Line, ended_line, kind_of}
use Rattle.report.specs.Outcome.{passed}
use Rattle.lines.specs.declared.line.Kind.{Kind}
use Rattle.lines.specs.declared.line.Kind.TheVariants.{Detail, Other}
use Rattle.report.proofs.Passing.{bind_passed}
use Rattle.details.specs.Detail.{per_row, row_detail}
use Rattle.details.specs.declared.detail.Interval.{Interval}
use Rattle.padded.specs.Padding.{pad}
use Rattle.registry.specs.Entry.{owner_size}
use Rattle.cell.specs.Layout.{Words, width, count_at, values_at, max_intervals}
use Rattle.cell.specs.Read.{interval_in, stamp_in}
use Rattle.reads.specs.Sound.{is_real_stamp, is_value, max_value, values_of, is_sound}
use Rattle.reads.proofs.SoundParts.{SoundParts, sound-parts}
use Rattle.cells.proofs.Found.{day-few}
use Rattle.checks.specs.Check.{Passed, judge}
use Rattle.rowtext.specs.Value.{value_end}
use Rattle.rowtext.specs.Text.{line_one, line_two, line_three, line_four, line_thirty}
use Rattle.writer.specs.Record.{detail_line, detail_lines, record_lines, record_text}
use Rattle.writer.specs.Write.{Fits}
use Rattle.plain.specs.Rows.{Record, goes_on, complete, header_rows, max_details, begins, first_row, checked, rules_of}
use Rattle.plain.specs.Record.{RecordLines, RecordSays, detail_rows, record_says, read_of, said_rows, lines_behind, rows_from}
use Rattle.plain.specs.Loader.{loading, file_events}
use Rattle.plain.proofs.Pieces.{map-append}
use Rattle.plain.proofs.WholeRecord.{whole-record}
use Rattle.roundtrip.proofs.CellBack.{intervals_in, cell-back}
use Rattle.roundtrip.proofs.LinesBack.{IsBehind, LineBehind, AllBehind, record-loads}
use Rattle.roundtrip.proofs.RowsBack.{channel_at, one-back, two_back, three_back, four-back, thirty-back, detail_back}
use Rattle.roundtrip.proofs.RowsBack.{one_no_lf, two-no-LF, three_no_lf, four_no_lf, thirty_no_lf, detail_no_lf}
use Rattle.roundtrip.proofs.RowsBack.{one-kind, two-kind, three-kind, four-kind, thirty-kind, detail_kind}

-- ---- ONE DETAIL ROW MORE, at the end

rows_snoc : (k : ℕ) (ls : List Line) (l : Line) (vs four : List Interval) → detail_rows k ls ≡ passed vs → row_detail (k + length ls) l ≡ passed four
    → detail_rows k (ls ++ l ∷ []) ≡ passed (vs ++ four)
unfolding detail_rows
rows_snoc k [] l vs four e f =
    let none : vs ≡ [] = cc in
    let here : row_detail k l ≡ passed four = rw (add-zero k) at f in
    rw (here, none) (ap passed (append-nil four))
rows_snoc k (x ∷ ls) l vs four e f =
    let a = bind_passed (row_detail k x) vs _ e in
    let b = bind_passed (detail_rows (suc k) ls) vs _ a.2 in
    let is : a.0 ++ b.0 ≡ vs = cc in
    let n : k + suc (length ls) ≡ suc k + length ls = omega arith in
    rw (a.1, rows_snoc (suc k) ls l b.0 four b.1 (rw n at f))
    (ap passed (sym (append_assoc a.0 b.0 four) ∙ ap (λ (r : List Interval). r ++ four) is))

behind_snoc : (ss : List Bytes) (s : Bytes) → AllBehind ss → LineBehind s → AllBehind (ss ++ s ∷ [])
behind_snoc [] s h g = (g, tt)
behind_snoc (x ∷ ss) s h g = (h.0, behind_snoc ss s h.1 g)

detail_lines-long : (n : ℕ) (w : Words) → length (detail_lines n w) ≡ n
unfolding detail_lines
detail_lines-long zero w = refl
detail_lines-long (suc n) w = simp length-append (omega (arith, detail_lines-long n w))

-- a row's four intervals behind those of the rows before it
intervals-four : (n : ℕ) (w : Words) → intervals_in (suc n * per_row) w
    ≡ intervals_in (n * per_row) w ++ (interval_in w (n * per_row) ∷ interval_in w (n * per_row + 1) ∷ interval_in w (n * per_row + 2) ∷ interval_in w (n * per_row + 3) ∷ [])
unfolding intervals_in
intervals-four n w =
    let a : n * per_row + 1 ≡ suc (n * per_row) = omega arith in
    let b : n * per_row + 2 ≡ suc (suc (n * per_row)) = omega arith in
    let c : n * per_row + 3 ≡ suc (suc (suc (n * per_row))) = omega arith in
    let e : suc n * per_row ≡ suc (suc (suc (suc (n * per_row)))) = omega arith in
    rw (e, a, b, c) (simp append_assoc)

line-behind : (s : Bytes) (k : Kind) → NoLf s → kind_of (ended_line s).body ≡ k → IsBehind k → LineBehind s
line-behind s k clean e h = record { no_lf = clean; kind = rw e h }

-- ---- THE DETAIL ROWS of a read whose values can be written

module _ (w : Words) (small : (i : ℕ) → i < max_intervals → (interval_in w i).wh < value_end) where
  -- row k of the read: what it says, and that it is a line behind row one
  detail_row_lem : (k : ℕ) → k < max_details
      → (row_detail k (ended_line (detail_line w k))
      ≡ passed (interval_in w (k * per_row) ∷ interval_in w (k * per_row + 1) ∷ interval_in w (k * per_row + 2) ∷ interval_in w (k * per_row + 3) ∷ []))
      × LineBehind (detail_line w k)
  detail_row_lem k h =
      let p = small (k * per_row) (omega arith) in
      let q = small (k * per_row + 1) (omega arith) in
      let r = small (k * per_row + 2) (omega arith) in
      let s = small (k * per_row + 3) (omega arith) in (
        detail_back k _ _ _ _ p q r s,
        line-behind (detail_line w k) Detail (detail_no_lf k _ _ _ _) (detail_kind k _ _ _ _) tt,
      )

  details_say : (n : ℕ) → n ≤ max_details → detail_rows 0 (map ended_line (detail_lines n w)) ≡ passed (intervals_in (n * per_row) w)
  unfolding detail_lines detail_rows intervals_in
  details_say zero h = refl
  details_say (suc n) h =
      let long : length (map ended_line (detail_lines n w)) ≡ n = length-map (detail_lines n w) ended_line ∙ detail_lines-long n w in
      let here : 0 + length (map ended_line (detail_lines n w)) ≡ n = omega arith in
      rw (map-append ended_line (detail_lines n w) (detail_line w n ∷ []), intervals-four n w)
      (rows_snoc 0 (map ended_line (detail_lines n w)) (ended_line (detail_line w n)) (intervals_in (n * per_row) w) _ (details_say n (omega arith))
      (rw here (detail_row_lem n (omega arith)).0))

  details-behind : (n : ℕ) → n ≤ max_details → AllBehind (detail_lines n w)
  unfolding detail_lines
  details-behind zero h = tt
  details-behind (suc n) h = behind_snoc (detail_lines n w) (detail_line w n) (details-behind n (omega arith)) (detail_row_lem n (omega arith)).1

-- ---- THE RECORD

-- a meter's names, a day, a descriptor and a sound read of that day
pub record Writable (id owner : Bytes) (date : ℕ) (descriptor : Bytes) (w : Words) : Type 0 where
  pub named : is_esi_id id ≡ true
  pub owned : is_duns owner ≡ true
  pub dated : is_date date ≡ true
  pub described : is_descriptor descriptor ≡ true
  pub wide : length w ≡ width
  pub fits : Fits w
  pub sound : is_sound (intervals_on date) w ≡ true

-- a day's intervals fill its rows
day-whole : (date : ℕ) → intervals_on date / per_row * per_row ≡ intervals_on date
day-whole date = ⊎_elim (λ x. omega arith) (λ y. ⊎_elim (λ x. omega arith) (λ x. omega arith) y) (intervals-three date)

-- the most watt hours of a sound cell are the most that a value can say
value-small : (n : ℕ) (w : Words) → length w ≡ width → SoundParts n w → (i : ℕ) → i < max_intervals → (interval_in w i).wh < value_end
unfolding interval_in
value-small n w wide parts i h =
    let l : i < length (values_of w) = simp length-drop (omega arith) in
    omega (arith, leb-true (get_or (values_of w) i 0) max_value (every-at is_value (values_of w) i parts.values l), get_or-drop values_at w i 0)

module _ (id owner : Bytes) (c date : ℕ) (descriptor : Bytes) (w : Words) (h : Writable id owner date descriptor w) where
  -- the detail rows of its day
  n : ℕ
  n = get_or w count_at 0 / per_row

  details : List Bytes
  details = detail_lines n w

  parts : SoundParts (intervals_on date) w
  parts = sound-parts (intervals_on date) w h.sound

  rows_whole : n * per_row ≡ intervals_on date
  unfolding n
  rows_whole = rw parts.counted (day-whole date)

  few : n ≤ max_details
  few = omega (arith, rows_whole, day-few date)

  small : (i : ℕ) → i < max_intervals → (interval_in w i).wh < value_end
  small = value-small (intervals_on date) w h.wide parts

  real_date : is_date (stamp_in w).date ≡ true
  unfolding is_real_stamp
  real_date = and_left (is_date (stamp_in w).date) (is_clock (stamp_in w).clock) parts.stamped

  real_clock : is_clock (stamp_in w).clock ≡ true
  unfolding is_real_stamp
  real_clock = and_right (is_date (stamp_in w).date) (is_clock (stamp_in w).clock) parts.stamped

  -- the lines behind row one
  behind : List Bytes
  behind = line_two ∷ line_three descriptor ∷ line_four (stamp_in w) ∷ line_thirty owner ∷ details

  lines : RecordLines
  lines = record {
    one = ended_line (line_one id c date);
    two = ended_line line_two;
    three = ended_line (line_three descriptor);
    four = ended_line (line_four (stamp_in w));
    thirty = ended_line (line_thirty owner);
    details = map ended_line details;
  }

  said : RecordSays
  said = record {
    one = record { esi_id = id; channel = channel_at c; day = date };
    stamp = stamp_in w;
    sender = owner;
    intervals = intervals_in (intervals_on date) w;
  }

  says : record_says lines ≡ passed said
  unfolding record_says lines said details
  says =
      rw (
        one-back id c date h.named h.dated,
        two_back,
        three_back descriptor h.described,
        four-back (stamp_in w) real_date real_clock,
        thirty-back owner h.owned,
        details_say w small n few,
        rows_whole,
      )

  all-behind : AllBehind behind
  unfolding behind details
  all-behind =
      let two = line-behind line_two Other two-no-LF two-kind tt in
      let three = line-behind (line_three descriptor) Other (three_no_lf descriptor h.described) (three-kind descriptor h.described) tt in
      let four = line-behind (line_four (stamp_in w)) Other (four_no_lf (stamp_in w)) (four-kind (stamp_in w)) tt in
      let thirty = line-behind (line_thirty owner) Other (thirty_no_lf owner h.owned) (thirty-kind owner h.owned) tt in
      (two, (three, (four, (thirty, details-behind w small n few))))

  read_back : read_of said ≡ w
  unfolding read_of said
  read_back = cell-back (intervals_on date) w h.wide h.fits (day-few date) h.sound

  -- judged to be meter m's, on window day d
  module _ (reg : Bytes) (m d : ℕ) (judged : judge reg (pad esi_id_size id) (pad owner_size owner) date ≡ Passed m d) where
    abbrev pub loads : Record
    loads = record { day = date; load = record { meter = m; channel = channel_at c; window_day = d; words = w } }

    rows-complete : rows_from (rules_of reg) (map ended_line behind) ((rules_of reg).row_one (ended_line (line_one id c date))) ≡ complete loads
    unfolding lines_behind lines behind said details checked said_rows
    rows-complete =
        let long : length (map ended_line details) ≡ n = length-map details ended_line ∙ detail_lines-long n w in
        whole-record reg lines said says (rw long rows_whole) ∙ rw (judged, read_back)

    first-row : (rules_of reg).row_one (ended_line (line_one id c date)) ≡ goes_on (begins said.one)
    unfolding rules_of first_row said
    first-row = rw (one-back id c date h.named h.dated)

    -- the rows behind row one, and those that the day has
    rows_all : (begins said.one).behind_one + length behind ≡ header_rows + (begins said.one).due
    unfolding begins said behind details
    rows_all = omega (arith, detail_lines-long n w, rows_whole)

    pub record-back : file_events (rules_of reg) (record_text id owner c date descriptor w) ≡ loading 1 (suc header_rows + get_or w count_at 0 / per_row) loads ∷ []
    unfolding record_text record_lines behind details n
    record-back =
        let last : suc (length behind) ≡ suc header_rows + n = omega (arith, detail_lines-long n w) in
        rw last at
        (record-loads reg (line_one id c date) behind (begins said.one) loads (one_no_lf id c date h.named)
        (one-kind id c date h.named) first-row rows_all all-behind rows-complete)
