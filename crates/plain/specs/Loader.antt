-- The plain loader on the bytes of one file: lines, the unit, verdicts. Document 01, "Lines and data records" and "The plain loader".
-- Assumes nothing.
use Rattle.std.specs.Prelude.{List, [], ◌∷◌, ◌++◌, map, Bool, true, false, ℕ, suc, eqb}
use Rattle.std.proofs.Math.Option.{Option, none, some}
use Rattle.text.specs.Byte.{Bytes}
use Rattle.lines.specs.Line.{LF, Line, ended_line, last_line, kind_of}
use Rattle.report.specs.Verdict.{loaded, stray, short, surplus}
use Rattle.lines.specs.declared.line.Kind.{Kind}
use Rattle.lines.specs.declared.line.Kind.TheVariants.{Empty, Opener, Detail, Other}
use Rattle.report.specs.declared.Entry.{Entry}
use Rattle.report.specs.Words.{entry_of}
use Rattle.plain.specs.Rows.{Load, Record, Rows, Row, refused_with, goes_on, complete, Rules}

-- Document 01's "unit" that is open: none; a record that takes rows (its first line); a record that waits (its first line, its last row's
-- line); a record or stray run that skips, whose verdict has fallen.
pub data OpenUnit : Type 0 where
  no_unit : OpenUnit
  takes_rows : ℕ → Rows → OpenUnit
  waits : ℕ → ℕ → Record → OpenUnit
  skips : OpenUnit

-- A verdict: its entry, and what it loads.
pub record Event : Type 0 where
  pub entry : Entry
  pub load : Option Load

-- what a line leaves: the unit, and the verdicts that fell, in order
pub record Step : Type 0 where
  pub unit : OpenUnit
  pub events : List Event

abbrev pub refusal : ℕ → ℕ → ℕ → ℕ → ℕ → Event
refusal first verdict at meter day = record { entry = entry_of first verdict at meter day; load = none }

-- the report counts meters from 1
abbrev pub meter_of : Record → ℕ
meter_of r = suc r.load.meter

-- verdict 0; the deciding line is that of the last row
abbrev pub loading : ℕ → ℕ → Record → Event
loading first last r = record { entry = entry_of first loaded last (meter_of r) r.day; load = some r.load }

-- At an opener, line n, or at finish, n then being one past the lines: a unit that takes rows gets 12, one that waits loads.
unfoldable pub close : ℕ → OpenUnit → List Event
close n no_unit = []
close n (takes_rows first rows) = refusal first short n 0 rows.day ∷ []
close n (waits first last r) = loading first last r ∷ []
close n skips = []

-- a row at line n: its first error is the verdict, and the unit skips; or it takes rows; or it waits
unfoldable pub settle : ℕ → ℕ → Row → Step
settle first n (refused_with verdict meter day) = record { unit = skips; events = refusal first verdict n meter day ∷ [] }
settle first n (goes_on rows) = record { unit = takes_rows first rows; events = [] }
settle first n (complete r) = record { unit = waits first n r; events = [] }

-- a stray run begins
abbrev pub stray_at : ℕ → Event
stray_at n = refusal n stray n 0 0

-- What is kept between bytes: the bytes since the last LF, the line count, the unit.
pub record Scan : Type 0 where
  pub kept : Bytes
  pub lines : ℕ
  pub unit : OpenUnit

abbrev pub scan : Bytes → ℕ → OpenUnit → Scan
scan kept lines unit = record { kept = kept; lines = lines; unit = unit }

abbrev pub start : Scan
start = scan [] 0 no_unit

unfoldable pub entries_of : List Event → List Entry
entries_of es = map (λ e. e.entry) es

abbrev pub with_load : Option Load → List Load → List Load
with_load none ls = ls
with_load (some l) ls = l ∷ ls

unfoldable pub loads_of : List Event → List Load
loads_of [] = []
loads_of (e ∷ es) = with_load e.load (loads_of es)

module _ (R : Rules) where
  -- line n, by its kind and the unit
  unfoldable pub step_kind : Kind → ℕ → Line → OpenUnit → Step
  step_kind Empty n l u = record { unit = u; events = [] }
  step_kind Opener n l u =
      let s : Step = settle n n (R.row_one l) in
      record { unit = s.unit; events = close n u ++ s.events }
  step_kind Detail n l no_unit = record { unit = skips; events = stray_at n ∷ [] }
  step_kind Detail n l (takes_rows first rows) = settle first n (R.row_next rows l)
  step_kind Detail n l (waits first last r) = record { unit = skips; events = refusal first surplus n (meter_of r) r.day ∷ [] }
  step_kind Detail n l skips = record { unit = skips; events = [] }
  step_kind Other n l no_unit = record { unit = skips; events = stray_at n ∷ [] }
  step_kind Other n l (takes_rows first rows) = settle first n (R.row_next rows l)
  step_kind Other n l (waits first last r) = record { unit = skips; events = loading first last r ∷ stray_at n ∷ [] }
  step_kind Other n l skips = record { unit = skips; events = [] }

  unfoldable pub step_line : ℕ → Line → OpenUnit → Step
  step_line n l u = step_kind (kind_of l.body) n l u

  -- One byte: an LF ends the line, any other is put behind the kept ones.
  unfoldable pub byte_to : Bool → Scan → ℕ → Scan
  byte_to true s b = scan [] (suc s.lines) (step_line (suc s.lines) (ended_line s.kept) s.unit).unit
  byte_to false s b = scan (s.kept ++ (b ∷ [])) s.lines s.unit

  unfoldable pub byte_events : Bool → Scan → List Event
  byte_events true s = (step_line (suc s.lines) (ended_line s.kept) s.unit).events
  byte_events false s = []

  unfoldable pub scan_to : Scan → Bytes → Scan
  scan_to s [] = s
  scan_to s (b ∷ bs) = scan_to (byte_to (eqb b LF) s b) bs

  unfoldable pub scan_events : Scan → Bytes → List Event
  scan_events s [] = []
  scan_events s (b ∷ bs) = byte_events (eqb b LF) s ++ scan_events (byte_to (eqb b LF) s b) bs

  -- Finish: kept bytes, if any, are read as a line; then the unit is closed at one past the lines.
  unfoldable pub end_at : Bytes → ℕ → OpenUnit → List Event
  end_at [] n u = close (suc n) u
  end_at (b ∷ kept) n u =
      let s : Step = step_line (suc n) (last_line (b ∷ kept)) u in
      s.events ++ close (suc (suc n)) s.unit

  unfoldable pub end_events : Scan → List Event
  end_events s = end_at s.kept s.lines s.unit

  -- all events of a file that stands behind a scan, its finish included
  unfoldable pub file_from : Scan → Bytes → List Event
  file_from s f = scan_events s f ++ end_events (scan_to s f)

  unfoldable pub file_events : Bytes → List Event
  file_events f = file_from start f
