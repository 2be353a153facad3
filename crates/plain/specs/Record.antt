-- A record whole, from its rows as lines: what document 01's "Rows" and "Registry and cells" say of it at once. The plain loader takes the
-- rows one by one and builds the read as it goes; proofs/WholeRecord.antt shows that both say the same.
-- Assumes nothing.
use Rattle.std.specs.Prelude.{List, [], ◌∷◌, ◌++◌, ℕ, suc, ◌+◌, ◌/◌}
use Rattle.calendar.specs.Intervals.{intervals_on}
use Rattle.text.specs.Byte.{Bytes}
use Rattle.text.specs.Identifier.{esi_id_size}
use Rattle.lines.specs.Line.{Line}
use Rattle.report.specs.Outcome.{Outcome, passed, ◌>>=◌, ◌>>◌}
use Rattle.headers.specs.One.{RowOne, row_one}
use Rattle.headers.specs.Two.{row_two}
use Rattle.headers.specs.Three.{row_three}
use Rattle.headers.specs.Four.{row_four}
use Rattle.headers.specs.Thirty.{row_thirty}
use Rattle.headers.specs.declared.time.Stamp.{Stamp}
use Rattle.details.specs.Detail.{per_row, row_detail}
use Rattle.details.specs.declared.detail.Interval.{Interval}
use Rattle.padded.specs.Padding.{pad}
use Rattle.registry.specs.Entry.{owner_size}
use Rattle.cell.specs.Layout.{Words}
use Rattle.cell.specs.Read.{read_words}
use Rattle.plain.specs.Rows.{Rows, Row, refused_with, goes_on, complete, Rules, header_rows}

-- the lines of a record: the header rows, then the detail rows
pub record RecordLines : Type 0 where
  pub one : Line
  pub two : Line
  pub three : Line
  pub four : Line
  pub thirty : Line
  pub details : List Line

-- what they say: row one's fields, the stamp, the Sender, the intervals
pub record RecordSays : Type 0 where
  pub one : RowOne
  pub stamp : Stamp
  pub sender : Bytes
  pub intervals : List Interval

-- detail rows k upward
unfoldable pub detail_rows : ℕ → List Line → Outcome (List Interval)
detail_rows k [] = passed []
detail_rows k (l ∷ ls) = do
  four ← row_detail k l
  rest ← detail_rows (suc k) ls
  passed (four ++ rest)

unfoldable pub record_says : RecordLines → Outcome RecordSays
record_says r = do
  one ← row_one r.one
  row_two r.two
  row_three r.three
  stamp ← row_four r.four
  sender ← row_thirty r.thirty
  intervals ← detail_rows 0 r.details
  passed (record { one = one; stamp = stamp; sender = sender; intervals = intervals })

-- the read as the words of its cell
unfoldable pub read_of : RecordSays → Words
read_of s = read_words (intervals_on s.one.day) s.stamp s.intervals

-- what the rows have said once they are all in, n of them detail rows
unfoldable pub said_rows : RecordSays → ℕ → Rows
said_rows s n =
    record {
      behind_one = header_rows + n;
      due = intervals_on s.one.day / per_row;
      day = s.one.day;
      channel = s.one.channel;
      esi_id = pad esi_id_size s.one.esi_id;
      sender = pad owner_size s.sender;
      words = read_of s;
    }

-- the lines behind row one, in file order
unfoldable pub lines_behind : RecordLines → List Line
lines_behind r = r.two ∷ r.three ∷ r.four ∷ r.thirty ∷ r.details

module _ (R : Rules) where
  -- the rows one by one, as long as a further one is due
  unfoldable pub rows_from : List Line → Row → Row
  rows_from [] row = row
  rows_from (l ∷ ls) (refused_with verdict meter day) = refused_with verdict meter day
  rows_from (l ∷ ls) (goes_on rows) = rows_from ls (R.row_next rows l)
  rows_from (l ∷ ls) (complete r) = complete r
