-- The rule for a loaded read, and the table. Document 01, "Registry and cells".
-- Assumes nothing.
use Rattle.std.specs.Prelude.{◌++◌, Bool, cond, ◌&&◌, ◌||◌, ℕ, ◌+◌, ◌*◌, eqb, ltb, take, drop, get_or}
use Rattle.headers.specs.declared.time.Stamp.{Stamp}
use Rattle.cell.specs.Layout.{Words, width, count_at}
use Rattle.cell.specs.Read.{stamp_in}

-- the words of cell number c, and the table with other words there
unfoldable pub cell_at : Words → ℕ → Words
cell_at table c = take width (drop (c * width) table)

unfoldable pub put_cell : Words → ℕ → Words → Words
put_cell table c w = take (c * width) table ++ w ++ drop (c * width + width) table

-- a cell whose word 0 is 0 holds no read
unfoldable pub holds_none : Words → Bool
holds_none w = eqb (get_or w count_at 0) 0

-- the new stamp is later than the old: by date, then by time
unfoldable pub is_later : Stamp → Stamp → Bool
is_later new old = ltb old.date new.date || (eqb old.date new.date && ltb old.clock new.clock)

-- a loaded read replaces the cell if word 0 is 0 or its stamp is later; equal stamps keep the old
unfoldable pub merge : Words → Words → Words
merge old new = cond (holds_none old || is_later (stamp_in new) (stamp_in old)) new old

-- the table after a read is loaded into cell number c
unfoldable pub loaded : Words → ℕ → Words → Words
loaded table c read = put_cell table c (merge (cell_at table c) read)
