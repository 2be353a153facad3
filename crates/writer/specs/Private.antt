-- What the writer's inner function is asked with: a meter and a window day that the registry has, a descriptor, and the words of a sound cell.
-- Assumes nothing.
use Rattle.std.specs.Prelude.{◌≡◌, true, ℕ, ◌<◌, ◌≤◌, length, get_or}
use Rattle.text.specs.Byte.{Bytes, every}
use Rattle.text.specs.Identifier.{descriptor_size}
use Rattle.registry.specs.Registry.{meters_of, window_is}
use Rattle.cell.specs.Layout.{Words, count_at, max_intervals}
use Rattle.reads.specs.Sound.{is_value, values_of}

pub record Writable (reg : Bytes) (m d : ℕ) (descriptor : Bytes) (w : Words) : Type 0 where
  pub meter : m < length (meters_of reg)
  pub day : d < (window_is reg).days
  pub short : length descriptor ≤ descriptor_size
  pub few : get_or w count_at 0 ≤ max_intervals
  pub values : every is_value (values_of w) ≡ true
