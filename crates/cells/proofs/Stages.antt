-- A sound cell, in the stages that calls ask for: it is held, and then its read is sound.
-- Assumes nothing.
use mathlib.Core.Path.{◌≡◌, refl}
use mathlib.Core.Bool.{Bool, true, false, not}
use Prim.Native.Nat.{ℕ}
use lib.Dec.{ltb}
use lib.ListN.{length}
use Rattle.text.specs.Byte.{Bytes}
use Rattle.report.specs.Outcome.{Outcome, passed, require, ◌>>=◌, ◌>>◌}
use Rattle.report.specs.Refusal.{bad_registry, short_table, no_cell, empty_cell, unsound_cell}
use Rattle.registry.specs.Registry.{is_registry}
use Rattle.cell.specs.Layout.{Words}
use Rattle.reads.specs.Load.{cell_at, holds_none}
use Rattle.reads.specs.Sound.{is_sound}
use Rattle.cells.specs.Address.{table_size, is_address, cell_of}
use Rattle.cells.specs.Sound.{for_table, cell_for, held_cell, day_intervals, sound_words, sound_cell}

module _ (reg : Bytes) (table : Words) (m c d : ℕ) where
  abbrev found : Words
  found = cell_at table (cell_of reg m c d)

  -- 8, of a cell that is held
  abbrev then_sound : Words → Outcome Words
  then_sound w = require (is_sound (day_intervals reg d) w) unsound_cell >> passed w

  pub sound_stages : sound_cell reg table m c d ≡ (held_cell reg table m c d >>= then_sound)
  unfolding sound_cell sound_words held_cell cell_for for_table
  sound_stages = go (is_registry reg) (ltb (length table) (table_size reg)) (is_address reg m c d) (holds_none found) refl
    where
      go : (p q r h : Bool) → holds_none found ≡ h
          → (require p bad_registry >> (require (not q) short_table >> (require r no_cell >> (require (not (holds_none found)) empty_cell >> then_sound found))))
          ≡ ((((require p bad_registry >> require (not q) short_table) >> (require r no_cell >> passed found)) >>= (λ w. require (not (holds_none w)) empty_cell >> passed w)) >>= then_sound)
      go false q r h e = refl
      go true true r h e = refl
      go true false false h e = refl
      go true false true true e = rw e
      go true false true false e = rw e
