-- The record that a cell's read is written as. Document 01, "Calls": Write; the rows are rowtext/specs/Text.
-- Assumes nothing.
use Rattle.std.specs.Prelude.{List, [], ◌∷◌, ◌++◌, ℕ, zero, suc, ◌+◌, ◌*◌, ◌/◌, get_or}
use Rattle.calendar.specs.Day.{date_of}
use Rattle.text.specs.Byte.{Bytes}
use Rattle.details.specs.Detail.{per_row}
use Rattle.details.specs.declared.detail.Interval.{Interval}
use Rattle.padded.specs.Padding.{unpad}
use Rattle.registry.specs.Registry.{window_is}
use Rattle.registry.specs.Index.{meter_at}
use Rattle.cell.specs.Layout.{Words, count_at}
use Rattle.cell.specs.Read.{interval_in, stamp_in}
use Rattle.lines.specs.Text.{rows}
use Rattle.rowtext.specs.Text.{line_one, line_two, line_three, line_four, line_thirty, line_detail}

-- the intervals of row k, from 0, of a cell, and the row
abbrev pub row_of : Words → ℕ → List Interval
row_of w k =
    interval_in w (k * per_row) ∷ interval_in w (k * per_row + 1) ∷ interval_in w (k * per_row + 2) ∷ interval_in w (k * per_row + 3) ∷ []

abbrev pub detail_line : Words → ℕ → Bytes
detail_line w k = line_detail k (row_of w k)

-- the first n detail rows
unfoldable pub detail_lines : ℕ → Words → List Bytes
detail_lines zero w = []
detail_lines (suc n) w = detail_lines n w ++ detail_line w n ∷ []

-- the rows of the record: as many detail rows as the cell's day has
unfoldable pub record_lines : Bytes → Bytes → ℕ → ℕ → Bytes → Words → List Bytes
record_lines esi_id owner channel date descriptor w =
    line_one esi_id channel date ∷ line_two ∷ line_three descriptor ∷ line_four (stamp_in w) ∷ line_thirty owner
    ∷ detail_lines (get_or w count_at 0 / per_row) w

-- a record with LF ends
unfoldable pub record_text : Bytes → Bytes → ℕ → ℕ → Bytes → Words → Bytes
record_text esi_id owner channel date descriptor w = rows (record_lines esi_id owner channel date descriptor w)

-- the longest record
abbrev pub record_limit : ℕ
record_limit = 2000

-- the record of a meter, a channel and a window day of a registry, from the words of its cell
unfoldable pub cell_text : Bytes → ℕ → ℕ → ℕ → Bytes → Words → Bytes
cell_text reg m c d descriptor w =
    record_text (unpad (meter_at reg m).id) (unpad (meter_at reg m).owner) c (date_of ((window_is reg).first + d)) descriptor w
