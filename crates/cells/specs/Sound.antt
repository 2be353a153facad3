-- The cell at an address, sound or in the stages that calls ask for, or the refusal. Document 01, "What a call returns": 2, 3, 6, 7, 8, tested in this order.
-- Assumes nothing.
use Rattle.std.specs.Prelude.{Result, Bool, not, ℕ, ◌+◌, ◌*◌, ltb, length}
use Rattle.calendar.specs.Intervals.{intervals_of}
use Rattle.text.specs.Byte.{Bytes}
use Rattle.report.specs.Outcome.{Outcome, passed, require, answers, ◌>>=◌, ◌>>◌}
use Rattle.registry.specs.Registry.{is_registry, window_is}
use Rattle.cell.specs.Layout.{Words, width}
use Rattle.reads.specs.Load.{cell_at, holds_none}
use Rattle.reads.specs.Sound.{is_sound}
use Rattle.report.specs.Refusal.{bad_registry, short_table, no_cell, empty_cell, unsound_cell}
use Rattle.cells.specs.Address.{cells_of, table_size, is_address, cell_of}
use Rattle.report.specs.declared.refusal.Refusal.{Refusal}
use denote.Ref.{Bor}

-- 2 and 3: the registry breaks a rule; the table is shorter than its cells
unfoldable pub for_table : Bool → ℕ → ℕ → Outcome (Unit {0})
for_table legal cells size = do
  require legal bad_registry
  require (not (ltb size (cells * width))) short_table

-- 6: the cell at an address
unfoldable pub cell_for : Bytes → Words → ℕ → ℕ → ℕ → Outcome Words
cell_for reg table m c d = do
  for_table (is_registry reg) (cells_of reg) (length table)
  require (is_address reg m c d) no_cell
  passed (cell_at table (cell_of reg m c d))

-- 7: and it holds a read
unfoldable pub held_cell : Bytes → Words → ℕ → ℕ → ℕ → Outcome Words
held_cell reg table m c d = do
  u ← cell_for reg table m c d
  require (not (holds_none u)) empty_cell
  passed u

-- how many intervals a window day has
abbrev pub day_intervals : Bytes → ℕ → ℕ
day_intervals reg d = intervals_of ((window_is reg).first + d)

-- 7 and 8: the words of a cell that holds a sound read for its window day
unfoldable pub sound_words : ℕ → Words → Outcome Words
sound_words n w = do
  require (not (holds_none w)) empty_cell
  require (is_sound n w) unsound_cell
  passed w

unfoldable pub sound_cell : Bytes → Words → ℕ → ℕ → ℕ → Outcome Words
sound_cell reg table m c d = do
  require (is_registry reg) bad_registry
  require (not (ltb (length table) (table_size reg))) short_table
  require (is_address reg m c d) no_cell
  sound_words (day_intervals reg d) (cell_at table (cell_of reg m c d))

-- a cell is answered by that part of the table
abbrev pub cell_says : Result (Bor Words) Refusal → Outcome Words
cell_says r = answers r >>= (λ words. passed words.now)
