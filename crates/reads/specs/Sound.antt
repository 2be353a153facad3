-- A sound cell. Document 01, "Calls": count right for its day, stamp real, values up to 999,999,999, unused zero.
-- Assumes nothing.
use Rattle.std.specs.Prelude.{List, [], ◌∷◌, Bool, true, not, ◌&&◌, ℕ, eqb, leb, drop, get_or}
use Rattle.calendar.specs.Date.{is_date}
use Rattle.calendar.specs.Clock.{is_clock}
use Rattle.text.specs.Byte.{every}
use Rattle.headers.specs.declared.time.Stamp.{Stamp}
use Rattle.cell.specs.Layout.{Words, count_at, values_at, mark_bits}
use Rattle.cell.specs.Marks.{statuses}
use Rattle.cell.specs.Read.{stamp_in}

unfoldable pub is_real_stamp : Stamp → Bool
is_real_stamp s = is_date s.date && is_clock s.clock

abbrev pub max_value : ℕ
max_value = 999999999

abbrev pub is_value : ℕ → Bool
is_value v = leb v max_value

abbrev pub is_zero : ℕ → Bool
is_zero v = eqb v 0

-- no interval is estimated
unfoldable pub no_mark : List Bool → Bool
no_mark [] = true
no_mark (e ∷ es) = not e && no_mark es

abbrev pub values_of : Words → Words
values_of w = drop values_at w

-- for a day of n intervals: values and marks past the n-th are unused
unfoldable pub is_sound : ℕ → Words → Bool
is_sound n w =
    eqb (get_or w count_at 0) n && is_real_stamp (stamp_in w) && every is_value (values_of w)
    && every is_zero (drop n (values_of w)) && no_mark (drop n (statuses mark_bits w))
