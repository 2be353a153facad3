-- A read as the words of its cell: count, stamp, marks, watt hours; unused is zero. Document 01, "Registry and cells".
-- Assumes nothing.
use Rattle.std.specs.Prelude.{◌≡◌, List, [], ◌∷◌, Bool, true, false, ℕ, suc, ◌+◌, ◌<◌, length, get_or, set, replicate}
use Rattle.headers.specs.declared.time.Stamp.{Stamp}
use Rattle.details.specs.declared.detail.Interval.{Interval}
use Rattle.cell.specs.Layout.{Words, width, count_at, date_at, clock_at, values_at, max_intervals, mark_bits}
use Rattle.cell.specs.Marks.{is_estimated, with_mark}

-- a cell that holds no read
unfoldable pub cleared : Words
cleared = replicate width 0

-- row one gives the day, which has so many intervals
unfoldable pub begun : ℕ → Words
begun count = set cleared count_at count

-- row four gives the stamp
unfoldable pub with_stamp : Words → Stamp → Words
with_stamp w s = set (set w date_at s.date) clock_at s.clock

abbrev pub marked_if : Bool → Words → ℕ → Words
marked_if true w i = with_mark w i
marked_if false w i = w

-- a detail row gives interval i
unfoldable pub with_interval : Words → ℕ → Interval → Words
with_interval w i v = set (marked_if v.estimated w i) (values_at + i) v.wh

-- intervals i upward
unfoldable pub with_intervals : Words → ℕ → List Interval → Words
with_intervals w i [] = w
with_intervals w i (v ∷ vs) = with_intervals (with_interval w i v) (suc i) vs

-- a whole read
unfoldable pub read_words : ℕ → Stamp → List Interval → Words
read_words count s intervals = with_intervals (with_stamp (begun count) s) 0 intervals

abbrev pub stamp_in : Words → Stamp
stamp_in w = record { date = get_or w date_at 0; clock = get_or w clock_at 0 }

-- interval i of a read
unfoldable pub interval_in : Words → ℕ → Interval
interval_in w i = record { wh = get_or w (values_at + i) 0; estimated = is_estimated w i }

abbrev pub no_interval : Interval
no_interval = record { wh = 0; estimated = false }

-- what a cell that holds a read says, word by word and mark by mark
pub record Holds (w : Words) (count : ℕ) (s : Stamp) (intervals : List Interval) : Type 0 where
  pub wide : length w ≡ width
  pub counted : get_or w count_at 0 ≡ count
  pub stamped : stamp_in w ≡ s
  pub values : (i : ℕ) → i < max_intervals → get_or w (values_at + i) 0 ≡ (get_or intervals i no_interval).wh
  pub marks : (i : ℕ) → i < mark_bits → is_estimated w i ≡ (get_or intervals i no_interval).estimated
