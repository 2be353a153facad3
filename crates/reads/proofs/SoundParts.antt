-- What a sound cell is, part by part.
-- Assumes nothing.
use mathlib.Core.Path.{◌≡◌}
use mathlib.Core.Bool.{true, ◌&&◌}
use Prim.Native.Nat.{ℕ}
use lib.Dec.{eqb}
use lib.ListN.{drop, get_or}
use borrow.Author.Tests.{eqb-true}
use Rattle.text.specs.Byte.{every}
use Rattle.text.proofs.Truth.{and_left, and_right}
use Rattle.cell.specs.Layout.{Words, count_at, mark_bits}
use Rattle.cell.specs.Marks.{statuses}
use Rattle.cell.specs.Read.{stamp_in}
use Rattle.reads.specs.Sound.{is_real_stamp, is_value, is_zero, no_mark, values_of, is_sound}

pub record SoundParts (n : ℕ) (w : Words) : Type 0 where
  pub counted : get_or w count_at 0 ≡ n
  pub stamped : is_real_stamp (stamp_in w) ≡ true
  pub values : every is_value (values_of w) ≡ true
  pub zeros : every is_zero (drop n (values_of w)) ≡ true
  pub unmarked : no_mark (drop n (statuses mark_bits w)) ≡ true

pub sound-parts : (n : ℕ) (w : Words) → is_sound n w ≡ true → SoundParts n w
unfolding is_sound
sound-parts n w h =
    let count = eqb (get_or w count_at 0) n in
    let real = is_real_stamp (stamp_in w) in
    let values = every is_value (values_of w) in
    let zeros = every is_zero (drop n (values_of w)) in
    let unmarked = no_mark (drop n (statuses mark_bits w)) in
    let four = and_left (count && real && values && zeros) unmarked h in
    let three = and_left (count && real && values) zeros four in
    let two = and_left (count && real) values three in
    record {
      counted = eqb-true (get_or w count_at 0) n (and_left count real two);
      stamped = and_right count real two;
      values = and_right (count && real) values three;
      zeros = and_right (count && real && values) zeros four;
      unmarked = and_right (count && real && values && zeros) unmarked h;
    }
