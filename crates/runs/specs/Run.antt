-- Runs of lines: what the rows of a record, or the lines that a unit skips, do to a scan. It says only how a load is quick; what a caller must believe is
-- the plain loader's.
-- Assumes nothing.
use Rattle.std.specs.Prelude.{◌≡◌, List, [], Bool, true, false, ℕ, ◌+◌, ◌-◌, ◌*◌, ◌<◌, ◌≤◌, length, take, drop, Option, MatchOption}
use Rattle.text.specs.Byte.{Bytes}
use Rattle.lines.specs.Line.{ended_line}
use Rattle.lines.specs.End.{between, LineAt, EmptyAt}
use Rattle.lines.specs.declared.line.Kind.{Kind}
use Rattle.lines.specs.declared.line.Kind.TheVariants.{Empty, Opener, Detail, Other}
use Rattle.details.specs.Detail.{per_row}
use Rattle.details.specs.declared.detail.Interval.{Interval}
use Rattle.direct.specs.Direct.{DetailLine}
use Rattle.cell.specs.Read.{with_intervals}
use Rattle.plain.specs.Rows.{rules_of, max_details}
use Rattle.plain.specs.Loader.{takes_rows, skips, scan, step_line, scan_to, scan_events}
use Rattle.plain.specs.Call.{byte_limit}
use Rattle.plain.specs.Promise.{details_in}
use Rattle.records.specs.declared.Progress.{Progress}
use Rattle.records.specs.declared.Parts.{Parts}
use Rattle.records.specs.Answer.{rows_of, one_more, Few}
use Rattle.units.specs.declared.Unit.{Unit as KeptUnit}
use Rattle.units.specs.declared.Unit.TheVariants.{Takes, Skips}
use Rattle.units.specs.Answer.{unit_of, judged_if}
use Rattle.runs.specs.declared.rows.Taken.{Taken}
use Rattle.runs.specs.declared.Passed.{Passed}

-- behind lines of which none is the day's last row; or there is no line
abbrev pub went_by : {T : Type 0} → T → ℕ → ℕ → Passed T
went_by unit lines at = record { unit = unit; lines = lines; at = at; all = false }

-- so many lines end before a place of the piece, and the bytes from there on can't end too many
pub record FitsFrom (lines : ℕ) (piece : Bytes) (at : ℕ) : Type 0 where
  pub within : at ≤ length piece
  pub fits : lines + (length piece - at) ≤ byte_limit

-- ---- ONE LINE OF A RECORD

abbrev pub taken_rows : ℕ → ℕ → Taken
taken_rows size rows = record { size = size; rows = rows }

-- a record with so many rows read behind row one
abbrev pub with_read : Progress → ℕ → Progress
with_read p read = record { read = read; due = p.due; day = p.day; channel = p.channel }

-- a header row: one that passes is the step of its line, any other leaves what is lent as it was
pub record HeaderRead (p : Progress) (raw : Bytes) (passes : Bool) (before after : Parts) : Type 0 where
  pub id : after.id ≡ before.id
  pub step : passes ≡ true → (reg : Bytes) (first n : ℕ)
      → step_line (rules_of reg) n (ended_line raw) (takes_rows first (rows_of p before))
      ≡ record { unit = takes_rows first (rows_of (one_more p) after); events = [] }
  pub stays : passes ≡ false → after ≡ before

-- the record with these intervals put
abbrev pub with_detail : ℕ → List Interval → Parts → Parts
with_detail k row r = record { id = r.id; sender = r.sender; words = with_intervals r.words (k * per_row) row }

-- a detail row at the front of the bytes, which has so many with its LF, is read and its intervals are put
pub record RowPut (k : ℕ) (s : Bytes) (size : ℕ) (before after : Parts) : Type 0 where
  pub some : 0 < size
  pub intervals : List Interval
  pub line : DetailLine k s intervals (size - 1)
  pub put : after ≡ with_detail k intervals before

-- the line at a place was taken: it is a row of the record, the day's last if `all` says so, or an empty line
pub record Took (all : Bool) (p : Progress) (piece : Bytes) (at : ℕ) (before : Parts) (t : Taken) (after : Parts) : Type 0 where
  pub id : after.id ≡ before.id
  pub line : LineAt piece at t.size
  pub step : (reg : Bytes) (first n : ℕ)
      → step_line (rules_of reg) n (ended_line (between at (at + (t.size - 1)) piece)) (takes_rows first (rows_of p before))
      ≡ judged_if all reg n (takes_rows first (rows_of (with_read p (p.read + t.rows)) after))

-- a header row, or an empty line; or nothing
abbrev pub HeaderTaken : Progress → Bytes → ℕ → Parts → Option Taken → Parts → Type 0
HeaderTaken p piece at before r after = MatchOption r (after ≡ before) (λ t. (t.rows ≤ 1) × Took false p piece at before t after)

-- a line that is no row is an empty one, and a line that is one is detail row k
pub record DetailTook (k : ℕ) (piece : Bytes) (at : ℕ) (before : Parts) (t : Taken) (after : Parts) : Type 0 where
  pub few : t.rows ≤ 1
  pub gap : t.rows ≡ 0 → EmptyAt piece at t.size × (after ≡ before)
  pub row : t.rows ≡ 1 → RowPut k (drop at piece) t.size before after

-- detail row k, or an empty line; or nothing
abbrev pub DetailTaken : ℕ → Bytes → ℕ → Parts → Option Taken → Parts → Type 0
DetailTaken k piece at before r after = MatchOption r (after ≡ before) (λ t. DetailTook k piece at before t after)

-- ---- LINES OF A RECORD

abbrev pub rows_to : Progress → ℕ → ℕ → ℕ → Bool → Passed Progress
rows_to p read lines at all = record { unit = with_read p read; lines = lines; at = at; all = all }

-- rows read from a place on, with what they leave of the record, its ESI ID as it was; nothing is said but what the registry checks say, if the day's last row is in
pub record RowsRan (p : Progress) (lines : ℕ) (piece : Bytes) (at : ℕ) (before : Parts) (r : Passed Progress) (after : Parts) : Type 0 where
  pub id : after.id ≡ before.id
  pub behind : at ≤ r.at
  pub few : Few r.unit
  pub fits : FitsFrom r.lines piece r.at
  pub reaches : (reg : Bytes) (first : ℕ)
      → scan_to (rules_of reg) (scan [] lines (takes_rows first (rows_of p before))) (between at r.at piece)
      ≡ scan [] r.lines (judged_if r.all reg r.lines (takes_rows first (rows_of r.unit after))).unit
  pub tells : (reg : Bytes) (first : ℕ)
      → scan_events (rules_of reg) (scan [] lines (takes_rows first (rows_of p before))) (between at r.at piece)
      ≡ (judged_if r.all reg r.lines (takes_rows first (rows_of r.unit after))).events

-- ---- LINES THAT A UNIT SKIPS

-- whether a unit that skips lets a line go by: any but an opener
abbrev pub is_skipped : Kind → Bool
is_skipped Opener = false
is_skipped Empty = true
is_skipped Detail = true
is_skipped Other = true

-- lines skipped from a place on: nothing is said
pub record SkipsTo (lines : ℕ) (piece : Bytes) (at : ℕ) (r : Passed KeptUnit) : Type 0 where
  pub skipped : r ≡ went_by Skips r.lines r.at
  pub behind : at ≤ r.at
  pub fits : FitsFrom r.lines piece r.at
  pub reaches : (reg : Bytes) → scan_to (rules_of reg) (scan [] lines skips) (between at r.at piece) ≡ scan [] r.lines skips
  pub quiet : (reg : Bytes) → scan_events (rules_of reg) (scan [] lines skips) (between at r.at piece) ≡ []

-- ---- A RUN

-- behind the rows of a record
abbrev pub passed_rows : ℕ → Passed Progress → Passed KeptUnit
passed_rows first r = record { unit = Takes first r.unit; lines = r.lines; at = r.at; all = r.all }

-- what a run is asked with
pub record Asks (unit : KeptUnit) (lines : ℕ) (piece : Bytes) (at : ℕ) (r : Parts) : Type 0 where
  pub fits : FitsFrom lines piece at
  pub details : details_in (unit_of unit r) ≤ max_details

-- lines from a place on, of the first of which so many bytes are held: what they do to the scan, once a record whose rows are all in is judged. None
-- of them is a row one, so that the ESI ID stays
pub record Passes (unit : KeptUnit) (lines held : ℕ) (piece : Bytes) (at : ℕ) (before : Parts) (r : Passed KeptUnit) (after : Parts) : Type 0 where
  pub id : after.id ≡ before.id
  pub behind : at ≤ r.at
  pub fits : FitsFrom r.lines piece r.at
  pub reaches : (reg kept : Bytes)
      → scan_to (rules_of reg) (scan (take held kept) lines (unit_of unit before)) (between at r.at piece)
      ≡ scan (take held kept) r.lines (judged_if r.all reg r.lines (unit_of r.unit after)).unit
  pub tells : (reg kept : Bytes)
      → scan_events (rules_of reg) (scan (take held kept) lines (unit_of unit before)) (between at r.at piece)
      ≡ (judged_if r.all reg r.lines (unit_of r.unit after)).events
