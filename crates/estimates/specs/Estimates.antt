-- The call Estimates. Document 01, "Calls": it counts the marked bits of one sound cell.
-- Assumes nothing.
use Rattle.std.specs.Prelude.{ℕ, get_or}
use Rattle.text.specs.Byte.{Bytes}
use Rattle.report.specs.Outcome.{Outcome, passed, ◌>>=◌}
use Rattle.cell.specs.Layout.{Words, count_at}
use Rattle.cell.specs.Marks.{estimated}
use Rattle.cells.specs.Sound.{sound_cell}

-- the number of estimated intervals, of as many as the cell counts
unfoldable pub estimates_of : Bytes → Words → ℕ → ℕ → ℕ → Outcome ℕ
estimates_of reg table m c d = do
  w ← sound_cell reg table m c d
  passed (estimated (get_or w count_at 0) w)
