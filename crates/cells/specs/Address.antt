-- The cells that a registry has, and the words that its table needs. Document 01, "What a call returns": 3 and 6.
-- Assumes nothing.
use Rattle.std.specs.Prelude.{Bool, ◌&&◌, ℕ, ◌*◌, ◌<◌, ◌≤◌, ltb, length}
use Rattle.text.specs.Byte.{Bytes}
use Rattle.registry.specs.Registry.{meters_of, window_is, max_meters}
use Rattle.registry.specs.Entry.{max_days}
use Rattle.cell.specs.Layout.{width}
use Rattle.cells.specs.Number.{channels, cell_count, cell_number}

abbrev pub meter_count : Bytes → ℕ
meter_count reg = length (meters_of reg)

abbrev pub day_count : Bytes → ℕ
day_count reg = (window_is reg).days

-- the number of a registry's cells, and the words of its table
abbrev pub cells_of : Bytes → ℕ
cells_of reg = cell_count (meter_count reg) (day_count reg)

abbrev pub table_size : Bytes → ℕ
table_size reg = cells_of reg * width

-- meter, channel and window day are those of a cell
unfoldable pub is_address : Bytes → ℕ → ℕ → ℕ → Bool
is_address reg m c d = ltb m (meter_count reg) && ltb c channels && ltb d (day_count reg)

abbrev pub cell_of : Bytes → ℕ → ℕ → ℕ → ℕ
cell_of reg m c d = cell_number (meter_count reg) (day_count reg) m c d

-- so many meters and days as a registry can have
pub record Sizes (meters days : ℕ) : Type 0 where
  pub few : meters ≤ max_meters
  pub short : days ≤ max_days

-- an address among so many meters and days
pub record Among (meters days m c d : ℕ) : Type 0 where
  pub meter : m < meters
  pub channel : c < channels
  pub day : d < days
