-- The cell at an address, stage by stage: what an index tells of its registry, and where a cell's words are.
-- Assumes nothing.
use mathlib.Core.Path.{◌≡◌, sym}
use mathlib.Core.Bool.{Bool, true, false, cond, not, ◌&&◌}
use mathlib.Core.Logic.{⊎_elim}
use Prim.Native.Nat.{ℕ, suc, ◌+◌, ◌*◌, ◌<◌, ◌≤◌}
use native.Mathlib.Nat.{mul-le-mul_right, suc-mul}
use native.Mathlib.Omega.{arith}
use lib.Dec.{leb, ltb}
use lib.ListN.{length}
use borrow.Author.Tests.{ltb-false, not-true}
use Rattle.calendar.specs.Day.{last_day, date_of}
use Rattle.calendar.specs.Intervals.{intervals_on, intervals_of}
use Rattle.calendar.specs.Answer.{intervals_of_day}
use Rattle.calendar.proofs.Laws.{intervals-three}
use Rattle.text.specs.Byte.{Bytes}
use Rattle.text.proofs.Truth.{fits-tested}
use Rattle.report.specs.Outcome.{passed, require, ◌>>◌}
use Rattle.report.specs.Refusal.{bad_registry, short_table}
use Rattle.report.proofs.Passing.{then_passed, require-passed}
use Rattle.registry.specs.Registry.{is_registry, meters_of, window_is}
use Rattle.registry.proofs.Laws.{meters-most, window-most, window-last}
use Rattle.registry.specs.declared.entry.Window.{Window}
use Rattle.cell.specs.Layout.{width, max_intervals}
use Rattle.cells.specs.Number.{channels, cell_count}
use Rattle.cells.specs.Address.{cells_of, is_address, Sizes}
use Rattle.cells.specs.Sound.{for_table}

-- ---- WHAT AN INDEX TELLS of its registry

module _ (reg : Bytes) (meters : ℕ) (w : Window) (em : meters ≡ length (meters_of reg)) (ew : w ≡ window_is reg) where
  pub index-sizes : Sizes meters w.days
  index-sizes = record { few = rw em (meters-most reg); short = rw ew (window-most reg) }

  pub window-ends : w.first + w.days ≤ last_day + 1
  window-ends = rw ew (window-last reg)

  -- 3, as the code tests it
  pub table-tested : (cells size : ℕ) → cells ≡ cell_count meters w.days
      → for_table (is_registry reg) (cells_of reg) size ≡ (require (is_registry reg) bad_registry >> require (leb (cells * width) size) short_table)
  unfolding for_table
  table-tested cells size e = rw (e, em, ew, fits-tested (cells_of reg * width) size)

  -- 6, as the code tests it
  pub address-tested : (m c d : ℕ) → is_address reg m c d ≡ (ltb m meters && ltb c channels && ltb d w.days)
  unfolding is_address
  address-tested m c d = rw (em, ew)

-- the table has room for the cells
pub table-room : (reg : Bytes) (size : ℕ) → passed tt ≡ for_table (is_registry reg) (cells_of reg) size → cells_of reg * width ≤ size
unfolding for_table
table-room reg size e =
    let o = then_passed (require (is_registry reg) bad_registry) tt _ (sym e) in
    ltb-false size (cells_of reg * width)
    (not-true (ltb size (cells_of reg * width)) (require-passed (not (ltb size (cells_of reg * width))) short_table tt o.2))

-- the words of a cell, which are all in the table
pub cell-within : (k cells length : ℕ) → k < cells → cells * width ≤ length → k * width + width ≤ length
cell-within k cells length h room =
    let a : suc k * width ≤ cells * width = mul-le-mul_right width h in
    let b : suc k * width ≡ k * width + width = suc-mul k width in
    omega arith

module _ (reg : Bytes) (meters : ℕ) (w : Window) (em : meters ≡ length (meters_of reg)) (ew : w ≡ window_is reg) (size : ℕ)
    (table : passed tt ≡ for_table (is_registry reg) (cells_of reg) size) (k : ℕ) (below : k < cell_count meters w.days) where
  pub words-within : k * width + width ≤ size
  words-within = cell-within k (cells_of reg) size (rw (em, ew) at below) (table-room reg size table)

pub day-few : (date : ℕ) → intervals_on date ≤ max_intervals
day-few date = ⊎_elim (λ x. omega arith) (λ y. ⊎_elim (λ x. omega arith) (λ x. omega arith) y) (intervals-three date)

pub intervals-few : (r n : ℕ) → r ≡ intervals_of_day n → r ≤ max_intervals
unfolding intervals_of_day intervals_of
intervals-few r n e = rw e (few (leb n last_day) (intervals_of n) (day-few (date_of n)))
  where
    few : (t : Bool) (m : ℕ) → m ≤ max_intervals → cond t m 0 ≤ max_intervals
    few true m h = h
    few false m h = omega arith
