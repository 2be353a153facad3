-- A scan as the code keeps it: the kept bytes at the front of a run of 201, the line count, the unit with what is lent of its record; and what some
-- bytes of a piece do to it. What goes by in a run is in runs/specs/Run.
-- Assumes nothing.
use Rattle.std.specs.Prelude.{◌≡◌, List, ◌++◌, ℕ, ◌+◌, ◌-◌, ◌*◌, ◌<◌, ◌≤◌, length, take, replicate}
use Rattle.std.specs.List.{flat_map}
use Rattle.text.specs.Byte.{Bytes}
use Rattle.lines.specs.Line.{kept_limit}
use Rattle.lines.specs.End.{between}
use Rattle.cell.specs.Layout.{Words}
use Rattle.report.specs.declared.Entry.{Entry}
use Rattle.report.specs.Words.{per_entry, words_of}
use Rattle.plain.specs.Rows.{Rules, rules_of, max_details}
use Rattle.plain.specs.Loader.{Scan, scan, scan_to, scan_events}
use Rattle.plain.specs.Call.{byte_limit}
use Rattle.plain.specs.Promise.{cut_scan, details_in}
use Rattle.units.specs.Answer.{unit_of, told, Tells}
use Rattle.pieces.specs.declared.Scan.{Scan as KeptScan}
use Rattle.pieces.specs.declared.line.Moved.{Moved}

abbrev pub scan_of : KeptScan → Scan
scan_of s = scan (take s.held s.kept) s.lines (unit_of s.unit s.parts)

-- from one scan to another over some bytes: the other keeps what a state keeps, the entries are those of the verdicts that fell, and the table is as
-- their loads leave it
pub record Ran (R : Rules) (from : Scan) (bytes : Bytes) (to : Scan) (entries : List Entry) (before after : Words) : Type 0 where
  pub reaches : to ≡ cut_scan (scan_to R from bytes)
  pub tells : Tells R (scan_events R from bytes) entries before after

-- a scan that a state can hold, with so many bytes of the piece still to read; no invariant of a scan, since any words of C's are some state, and refusal
-- 1 is what asks
pub record Holds (s : KeptScan) (left : ℕ) : Type 0 where
  pub few : s.held ≤ kept_limit
  pub whole : s.held ≤ length s.kept
  pub details : details_in (unit_of s.unit s.parts) ≤ max_details
  pub fits : s.lines + left ≤ byte_limit

abbrev pub told_in : Moved → List Entry
told_in m = told m.first ++ told m.second

-- a line read from a place on, or what the piece has of it
pub record Moves (reg : Bytes) (from : Scan) (piece : Bytes) (at : ℕ) (m : Moved) (s : KeptScan) (before after : Words) : Type 0 where
  pub behind : at ≤ m.at
  pub moved : at < length piece → at < m.at
  pub within : m.at ≤ length piece
  pub holds : Holds s (length piece - m.at)
  pub ran : Ran (rules_of reg) from (between at m.at piece) (scan_of s) (told_in m) before after

-- the entries that one batch has room for
abbrev pub batch_size : ℕ
batch_size = 256

abbrev pub batch_words : ℕ
batch_words = batch_size * per_entry

-- the words that a batch keeps: those of its entries, and zeros behind them
unfoldable pub words_held : List Entry → List ℕ
words_held es = flat_map words_of es ++ replicate (batch_words - length es * per_entry) 0

-- the most verdicts that fall between two looks at the room: one behind a run of rows, two at a line
abbrev pub most_said : ℕ
most_said = 3

-- lines read from a place on to the next, as long as a batch has room for them
pub record Runs (reg : Bytes) (from : Scan) (piece : Bytes) (at next : ℕ) (s : KeptScan) (before after : Words) (batch : List Entry) : Type 0 where
  pub behind : at ≤ next
  pub moved : at < length piece → at < next
  pub within : next ≤ length piece
  pub holds : Holds s (length piece - next)
  pub ran : Ran (rules_of reg) from (between at next piece) (scan_of s) batch before after
