-- What a cell that is found is: the registry and the table are right, the address is a cell's, and the cell holds a sound read.
-- Assumes nothing.
use mathlib.Core.Path.{◌≡◌, ap, sym, ◌∙◌}
use mathlib.Core.Bool.{true, false, not, ◌&&◌}
use Prim.Native.Nat.{ℕ, ◌+◌, ◌<◌, ◌≤◌}
use native.Mathlib.Omega.{arith}
use lib.Dec.{ltb}
use lib.ListN.{length}
use borrow.Author.Tests.{ltb-true, ltb-false, not-true}
use Rattle.calendar.specs.Day.{last_day, date_of}
use Rattle.calendar.specs.Intervals.{intervals_of}
use Rattle.calendar.specs.Answer.{intervals_of_day}
use Rattle.calendar.proofs.Laws.{intervals_of_is}
use Rattle.text.specs.Byte.{Bytes}
use Rattle.text.proofs.Truth.{and_left, and_right}
use Rattle.report.specs.Outcome.{Outcome, passed, require}
use Rattle.report.proofs.Passing.{bind_passed, then_passed, require-passed}
use Rattle.registry.specs.Registry.{is_registry, window_is}
use Rattle.registry.specs.declared.entry.Window.{Window}
use Rattle.cell.specs.Layout.{Words, max_intervals}
use Rattle.reads.specs.Load.{cell_at, holds_none}
use Rattle.reads.specs.Sound.{is_sound}
use Rattle.report.specs.Refusal.{bad_registry, short_table, no_cell, empty_cell, unsound_cell}
use Rattle.cells.specs.Number.{channels}
use Rattle.cells.specs.Address.{meter_count, day_count, cells_of, table_size, is_address, cell_of, Among}
use Rattle.cells.specs.Sound.{for_table, cell_for, held_cell, day_intervals, sound_cell}
use Rattle.cells.proofs.Stages.{sound_stages}
use Rattle.cells.proofs.Found.{day-few}

pub record FoundCell (reg : Bytes) (table : Words) (m c d : ℕ) (w : Words) : Type 0 where
  pub rules : is_registry reg ≡ true
  pub long : table_size reg ≤ length table
  pub address : Among (meter_count reg) (day_count reg) m c d
  pub words : cell_at table (cell_of reg m c d) ≡ w
  pub filled : holds_none w ≡ false
  pub few : day_intervals reg d ≤ max_intervals
  pub sound : is_sound (day_intervals reg d) w ≡ true

pub address-among : (reg : Bytes) (m c d : ℕ) → is_address reg m c d ≡ true → Among (meter_count reg) (day_count reg) m c d
unfolding is_address
address-among reg m c d h =
    let meter = ltb m (meter_count reg) in
    let channel = ltb c channels in
    let day = ltb d (day_count reg) in
    let both = and_left (meter && channel) day h in
    record {
      meter = ltb-true m (meter_count reg) (and_left meter channel both);
      channel = ltb-true c channels (and_right meter channel both);
      day = ltb-true d (day_count reg) (and_right (meter && channel) day h);
    }

pub found-cell : (reg : Bytes) (table : Words) (m c d : ℕ) (w : Words) → sound_cell reg table m c d ≡ passed w → FoundCell reg table m c d w
unfolding held_cell cell_for for_table intervals_of
found-cell reg table m c d w e =
    let u : Words = cell_at table (cell_of reg m c d) in
    let n = day_intervals reg d in
    let held = bind_passed (held_cell reg table m c d) w _ (sym (sound_stages reg table m c d) ∙ e) in
    let sound = then_passed (require (is_sound n held.0) unsound_cell) w _ held.2 in
    let found = bind_passed (cell_for reg table m c d) held.0 _ held.1 in
    let filled = then_passed (require (not (holds_none found.0)) empty_cell) held.0 _ found.2 in
    let tests = then_passed (for_table (is_registry reg) (cells_of reg) (length table)) found.0 _ found.1 in
    let address = then_passed (require (is_address reg m c d) no_cell) found.0 _ tests.2 in
    let rules = then_passed (require (is_registry reg) bad_registry) tests.0 _ tests.1 in
    let a : ◌≡◌ {A = Outcome Words} (passed held.0) (passed w) = sound.2 in
    let b : ◌≡◌ {A = Outcome Words} (passed found.0) (passed held.0) = filled.2 in
    let c' : ◌≡◌ {A = Outcome Words} (passed u) (passed found.0) = address.2 in
    let one : held.0 ≡ w = cc in
    let two : found.0 ≡ w = cc in
    let is : u ≡ w = cc in
    record {
      rules = require-passed (is_registry reg) bad_registry rules.0 rules.1;
      long =
          ltb-false (length table) (table_size reg)
          (not-true (ltb (length table) (table_size reg)) (require-passed (not (ltb (length table) (table_size reg))) short_table tests.0 rules.2));
      address = address-among reg m c d (require-passed (is_address reg m c d) no_cell address.0 address.1);
      words = is;
      filled = rw (← two) (not-true (holds_none found.0) (require-passed (not (holds_none found.0)) empty_cell filled.0 filled.1));
      few = day-few (date_of ((window_is reg).first + d));
      sound = rw (← one) (require-passed (is_sound n held.0) unsound_cell sound.0 sound.1);
    }

-- the day of a cell that is found is one of the window
pub found-day : (reg : Bytes) (table : Words) (m c d : ℕ) (w : Words) → held_cell reg table m c d ≡ passed w → d < day_count reg
unfolding held_cell cell_for
found-day reg table m c d w e =
    let found = bind_passed (cell_for reg table m c d) w _ e in
    let tests = then_passed (for_table (is_registry reg) (cells_of reg) (length table)) found.0 _ found.1 in
    let address = then_passed (require (is_address reg m c d) no_cell) found.0 _ tests.2 in
    (address-among reg m c d (require-passed (is_address reg m c d) no_cell address.0 address.1)).day

-- and its intervals are those that the calendar counts
pub day-known : (reg : Bytes) (table : Words) (m c d : ℕ) (w : Words) → held_cell reg table m c d ≡ passed w → (window : Window) → window ≡ window_is reg
    → window.first + window.days ≤ last_day + 1 → (n : ℕ) → n ≡ intervals_of_day (window.first + d) → n ≡ day_intervals reg d
day-known reg table m c d w e window is ends n en =
    let day : d < window.days = rw is (found-day reg table m c d w e) in
    en ∙ intervals_of_is (window.first + d) (omega arith) ∙ ap (λ v. intervals_of (v.first + d)) is
