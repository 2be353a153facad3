-- The unit as the code keeps it, by value beside the lent parts of its record; and what a line did to it.
-- Assumes nothing.
use Rattle.std.specs.Prelude.{◌≡◌, List, [], ◌∷◌, ◌++◌, Option, Some, None as Nothing, Bool, true, false, ℕ, suc, ◌≤◌, length}
use Rattle.report.specs.Words.{entry_of}
use Rattle.text.specs.Byte.{Bytes}
use Rattle.lines.specs.Line.{Line}
use Rattle.report.specs.Verdict.{verdict_number, surplus}
use Rattle.report.specs.declared.verdict.Fault.{Fault}
use Rattle.lines.specs.declared.line.Kind.{Kind}
use Rattle.lines.specs.declared.line.Kind.TheVariants.{Empty, Opener, Detail, Other}
use Rattle.cell.specs.Layout.{Words}
use Rattle.cells.specs.Address.{table_size}
use Rattle.report.specs.declared.Entry.{Entry}
use Rattle.plain.specs.Rows.{Rules, checked}
use Rattle.plain.specs.Table.{load_all}
use Rattle.plain.specs.Loader.{OpenUnit, no_unit, takes_rows, waits, skips, Event, Step, stray_at, settle, entries_of, loads_of, step_kind}
use Rattle.records.specs.declared.Ready.{Ready}
use Rattle.records.specs.declared.Parts.{Parts}
use Rattle.records.specs.Answer.{rows_of, record_of}
use Rattle.units.specs.declared.Unit.{Unit as KeptUnit}
use Rattle.units.specs.declared.Unit.TheVariants.{None, Takes, Waits, Skips}
use Rattle.units.specs.declared.Stepped.{Stepped}
use Rattle.units.specs.declared.LineRead.{LineRead}

abbrev pub unit_of : KeptUnit → Parts → OpenUnit
unit_of None r = no_unit
unit_of (Takes first p) r = takes_rows first (rows_of p r)
unit_of (Waits first last ready) r = waits first last (record_of ready r)
unit_of Skips r = skips

-- the entry of a verdict, if one fell
abbrev pub told : Option Entry → List Entry
told Nothing = []
told (Some e) = e ∷ []

abbrev pub told_by : LineRead → List Entry
told_by r = told r.first ++ told r.second

-- ---- A LINE IN TWO PARTS

-- the unit that a line of a kind ends before it is read: an opener ends any, a line that is neither empty nor a detail line one that waits
abbrev pub ended : Kind → OpenUnit → OpenUnit
ended Empty u = no_unit
ended Opener u = u
ended Detail u = no_unit
ended Other no_unit = no_unit
ended Other (takes_rows first rows) = no_unit
ended Other (waits first last r) = waits first last r
ended Other skips = no_unit

-- the unit that is left to read it
abbrev pub left_by : Kind → OpenUnit → OpenUnit
left_by Empty u = u
left_by Opener u = no_unit
left_by Detail u = u
left_by Other no_unit = no_unit
left_by Other (takes_rows first rows) = takes_rows first rows
left_by Other (waits first last r) = no_unit
left_by Other skips = skips

-- what the line does then
abbrev pub read_by : Rules → Kind → ℕ → Line → OpenUnit → Step
read_by R k n l u = step_kind R k n l (left_by k u)

-- nothing is said
abbrev pub quiet_step : OpenUnit → Step
quiet_step u = record { unit = u; events = [] }

-- all rows of a record are in, the last of them at line n: the registry checks
abbrev pub checked_at : Bytes → ℕ → OpenUnit → Step
checked_at reg n no_unit = quiet_step no_unit
checked_at reg n (takes_rows first rows) = settle first n (checked reg rows)
checked_at reg n (waits first last r) = quiet_step (waits first last r)
checked_at reg n skips = quiet_step skips

abbrev pub judged_if : Bool → Bytes → ℕ → OpenUnit → Step
judged_if true reg n u = checked_at reg n u
judged_if false reg n u = quiet_step u

-- ---- WHAT A LINE DID, BESIDE WHAT THE PLAIN LOADER'S STEP DOES

-- a line that is read: the unit and the entries are the step's, and nothing is loaded
pub record Reads (step : Step) (unit : OpenUnit) (entries : List Entry) : Type 0 where
  pub leaves : unit ≡ step.unit
  pub entered : entries ≡ entries_of step.events
  pub none : loads_of step.events ≡ []

-- the entries are those of the events, and the table is as their loads leave it
pub record Tells (R : Rules) (events : List Event) (entries : List Entry) (before after : Words) : Type 0 where
  pub entered : entries ≡ entries_of events
  pub loads : after ≡ load_all R before (loads_of events)

-- a line, with the unit that it ended
pub record Does (R : Rules) (step : Step) (unit : OpenUnit) (entries : List Entry) (before after : Words) : Type 0 where
  pub leaves : unit ≡ step.unit
  pub tells : Tells R step.events entries before after

-- a record that is refused; a stray run; a surplus row; a line of which nothing is said
abbrev pub refused_by : ℕ → ℕ → ℕ → ℕ → ℕ → Stepped
refused_by first verdict n meter day = record { unit = Skips; said = Some (entry_of first verdict n meter day) }

abbrev pub refused_at : ℕ → Fault → ℕ → ℕ → Stepped
refused_at first fault n day = refused_by first (verdict_number fault.verdict) n fault.meter day

abbrev pub stray_from : ℕ → Stepped
stray_from n = record { unit = Skips; said = Some (stray_at n).entry }

abbrev pub surplus_at : ℕ → ℕ → Ready → Stepped
surplus_at first n ready = record { unit = Skips; said = Some (entry_of first surplus n (suc ready.meter) ready.day) }

abbrev pub quietly : KeptUnit → Stepped
quietly unit = record { unit = unit; said = Nothing }

-- ---- THE TABLE

-- the table has room for the registry's cells; it ties two lent values, so no type says it: a struct of both would hold the table as a `&mut`, to be
-- taken apart to see the table again
abbrev pub HasRoom : Bytes → Words → Type 0
HasRoom reg table = table_size reg ≤ length table
