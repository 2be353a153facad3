-- A written record reads back to the day it came from. Document 01, demand 2, and "Calls": loaded into a cleared table it gives that cell,
-- where the meter's flags are 6. Its theorem is `round_trip` in proofs/RoundTrip.
-- Assumes nothing.
use Rattle.std.specs.Prelude.{◌≡◌, List, [], ◌∷◌, ℕ, suc, ◌+◌, ◌/◌, length, get_or, replicate}
use Rattle.calendar.specs.Day.{date_of}
use Rattle.text.specs.Byte.{Bytes}
use Rattle.report.specs.Outcome.{passed}
use Rattle.report.specs.Verdict.{loaded}
use Rattle.details.specs.Detail.{per_row}
use Rattle.registry.specs.Registry.{window_is}
use Rattle.registry.specs.Index.{meter_at}
use Rattle.checks.specs.Check.{interval_flag, idr_flag}
use Rattle.cell.specs.Layout.{Words, count_at}
use Rattle.reads.specs.Load.{put_cell}
use Rattle.cells.specs.Address.{cell_of}
use Rattle.cells.specs.Sound.{sound_cell}
use Rattle.report.specs.declared.Entry.{Entry}
use Rattle.plain.specs.Rows.{header_rows, rules_of}
use Rattle.plain.specs.Call.{fresh}
use Rattle.plain.specs.Promise.{Made, view_from, Chain}
use Rattle.plain.specs.Claim.{OnlyFinish, taken_by, report_of, last_table}
use Rattle.writer.specs.Write.{Fits, written_record}

-- document 01's "cleared table" has 0 in every word
abbrev pub Cleared : Words → Type 0
Cleared table = table ≡ replicate (length table) 0

-- the flags with which a meter's records load
abbrev pub loading_flags : ℕ
loading_flags = interval_flag + idr_flag

-- the cell of meter m, channel c and window day d holds the read w, and `text` is its record
pub record IsWritten (reg : Bytes) (table : Words) (m c d : ℕ) (descriptor : Bytes) (w : Words) (text : Bytes) : Type 0 where
  pub fits : Fits table
  pub cell : sound_cell reg table m c d ≡ passed w
  pub written : written_record reg table m c d descriptor ≡ passed text
  pub loads : (meter_at reg m).flags ≡ loading_flags

-- the entry of the record, which is the whole file: the first line is 1, the deciding line is its last row
abbrev pub entry_for : Bytes → ℕ → ℕ → Words → Entry
entry_for reg m d w =
    record {
      first = 1;
      verdict = loaded;
      at = suc header_rows + get_or w count_at 0 / per_row;
      meter = suc m;
      day = date_of ((window_is reg).first + d);
    }

-- after the calls: one entry with verdict 0, exactly that cell, and every other word as in the cleared table
pub record ReadsBack (reg : Bytes) (m c d : ℕ) (w cleared : Words) (ms : List Made) : Type 0 where
  pub report : report_of ms ≡ entry_for reg m d w ∷ []
  pub table : last_table cleared ms ≡ put_cell cleared (cell_of reg m c d) w

-- for every list of calls whose last is its only finish that was done, and whose pieces join to the record
abbrev pub TheRoundTrip : Type 0
TheRoundTrip =
    (reg : Bytes) (table : Words) (m c d : ℕ) (descriptor : Bytes) (w : Words) (text : Bytes) → IsWritten reg table m c d descriptor w text
    → (cleared : Words) → Cleared cleared → (ms : List Made) → Chain (rules_of reg) (view_from fresh) cleared ms → OnlyFinish ms → taken_by ms ≡ text
    → ReadsBack reg m c d w cleared ms
