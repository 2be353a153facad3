-- The rows of a record, one after the other, over one registry. Document 01, "Lines and data records" and "The plain loader": a row's first
-- error is the verdict; after the last row the registry checks do likewise, or the record waits.
-- Assumes nothing.
use Rattle.std.specs.Prelude.{[], Bool, cond, ℕ, zero, suc, ◌-◌, ◌*◌, ◌/◌, eqb, ltb}
use Rattle.calendar.specs.Intervals.{intervals_on}
use Rattle.text.specs.Byte.{Bytes}
use Rattle.text.specs.Identifier.{esi_id_size}
use Rattle.lines.specs.Line.{Line}
use Rattle.report.specs.Outcome.{Outcome, passed, refused}
use Rattle.report.specs.Verdict.{wrong_code}
use Rattle.headers.specs.One.{channel_number, RowOne, row_one}
use Rattle.headers.specs.Two.{row_two}
use Rattle.headers.specs.Three.{row_three}
use Rattle.headers.specs.Four.{row_four}
use Rattle.headers.specs.Thirty.{row_thirty}
use Rattle.headers.specs.declared.one.Channel.{Channel}
use Rattle.details.specs.Detail.{per_row, row_detail}
use Rattle.padded.specs.Padding.{pad}
use Rattle.registry.specs.Entry.{owner_size}
use Rattle.registry.specs.Registry.{is_registry}
use Rattle.cell.specs.Layout.{Words, max_intervals}
use Rattle.cell.specs.Read.{begun, with_stamp, with_intervals}
use Rattle.checks.specs.Check.{Judgement, Passed, Refused, judge}
use Rattle.cells.specs.Address.{cells_of, is_address, cell_of}

-- A read on its way into its cell: meter, window day (both from 0), channel, and the words of a cell that holds it.
pub record Load : Type 0 where
  pub meter : ℕ
  pub channel : Channel
  pub window_day : ℕ
  pub words : Words

-- A record that has all its rows and has passed the registry checks; its day as YYYYMMDD.
pub record Record : Type 0 where
  pub day : ℕ
  pub load : Load

-- What the rows of a record have said so far: how many rows were read behind row one, and how many detail rows the day has; ESI ID and Sender
-- are padded as in the registry; the read is built as the words of its cell.
pub record Rows : Type 0 where
  pub behind_one : ℕ
  pub due : ℕ
  pub day : ℕ
  pub channel : Channel
  pub esi_id : Bytes
  pub sender : Bytes
  pub words : Words

-- What a row answers: its first error, with the meter and day of the entry; a further row is due; the record is complete.
pub data Row : Type 0 where
  refused_with : (verdict meter day : ℕ) → Row
  goes_on : Rows → Row
  complete : Record → Row

-- What the plain loader asks of one registry.
pub record Rules : Type 0 where
  pub row_one : Line → Row
  pub row_next : Rows → Line → Row
  pub sound : Bool
  pub cells : ℕ
  pub has_cell : Load → Bool
  pub cell_of : Load → ℕ

-- rows two, three, four and thirty
abbrev pub header_rows : ℕ
header_rows = 4

-- no day has more detail rows
abbrev pub max_details : ℕ
max_details = max_intervals / per_row

-- the detail rows read so far
abbrev pub details_of : Rows → ℕ
details_of rows = rows.behind_one - header_rows

-- a row that is refused, or what follows from what it says
abbrev pub or_else : {A : Type 0} → ℕ → Outcome A → (A → Row) → Row
or_else day (refused verdict) next = refused_with verdict 0 day
or_else day (passed a) next = next a

-- row one begins the record: its day says how many detail rows are due
unfoldable pub begins : RowOne → Rows
begins one =
    record {
      behind_one = 0;
      due = intervals_on one.day / per_row;
      day = one.day;
      channel = one.channel;
      esi_id = pad esi_id_size one.esi_id;
      sender = pad owner_size [];
      words = begun (intervals_on one.day);
    }

unfoldable pub first_row : Line → Row
first_row line = or_else 0 (row_one line) (λ one. goes_on (begins one))

-- the rows with one more
unfoldable pub with_row : Rows → Words → Bytes → Rows
with_row rows words sender =
    record {
      behind_one = suc rows.behind_one;
      due = rows.due;
      day = rows.day;
      channel = rows.channel;
      esi_id = rows.esi_id;
      sender = sender;
      words = words;
    }

-- rows two and three leave nothing but their being right; row four gives the stamp, row thirty the Sender
abbrev pub two_row : Rows → Line → Row
two_row rows line = or_else rows.day (row_two line) (λ u. goes_on (with_row rows rows.words rows.sender))

abbrev pub three_row : Rows → Line → Row
three_row rows line = or_else rows.day (row_three line) (λ u. goes_on (with_row rows rows.words rows.sender))

abbrev pub four_row : Rows → Line → Row
four_row rows line = or_else rows.day (row_four line) (λ stamp. goes_on (with_row rows (with_stamp rows.words stamp) rows.sender))

abbrev pub thirty_row : Rows → Line → Row
thirty_row rows line = or_else rows.day (row_thirty line) (λ sender. goes_on (with_row rows rows.words (pad owner_size sender)))

module _ (reg : Bytes) where
  -- all rows are in: the registry checks
  abbrev pub by_judgement : Rows → Judgement → Row
  by_judgement rows (Refused verdict meter) = refused_with verdict meter rows.day
  by_judgement rows (Passed meter window_day) =
      complete
      (record {
        day = rows.day;
        load = record { meter = meter; channel = rows.channel; window_day = window_day; words = rows.words };
      })

  unfoldable pub checked : Rows → Row
  checked rows = by_judgement rows (judge reg rows.esi_id rows.sender rows.day)

  -- detail row k is read: it was the last, or another is due
  unfoldable pub after_detail : ℕ → Rows → Row
  after_detail k rows = cond (eqb (suc k) rows.due) (checked rows) (goes_on rows)

  -- Detail row k, from 0. That k is below `max_details` has to be asked only of a state that comes from no calls.
  unfoldable pub detail_row : ℕ → Rows → Line → Row
  detail_row k rows line =
      or_else rows.day (row_detail k line) λ intervals.
      cond (ltb k max_details) (after_detail k (with_row rows (with_intervals rows.words (k * per_row) intervals) rows.sender))
      (refused_with wrong_code 0 rows.day)

  -- rows two, three, four, thirty, then 10000000 upward
  unfoldable pub due_row : ℕ → Rows → Line → Row
  due_row zero rows line = two_row rows line
  due_row (suc zero) rows line = three_row rows line
  due_row (suc (suc zero)) rows line = four_row rows line
  due_row (suc (suc (suc zero))) rows line = thirty_row rows line
  due_row (suc (suc (suc (suc k)))) rows line = detail_row k rows line

  unfoldable pub next_row : Rows → Line → Row
  next_row rows line = due_row rows.behind_one rows line

  unfoldable pub rules_of : Rules
  rules_of =
      record {
        row_one = first_row;
        row_next = next_row;
        sound = is_registry reg;
        cells = cells_of reg;
        has_cell = λ l. is_address reg l.meter (channel_number l.channel) l.window_day;
        cell_of = λ l. cell_of reg l.meter (channel_number l.channel) l.window_day;
      }
