-- Times of day: a number HHMMSS, hour to 23, minute and second to 59. Document 01, "Rows".
-- Assumes nothing.
use Rattle.std.specs.Prelude.{Bool, ◌&&◌, ℕ, ◌/◌, ◌%◌, leb}

unfoldable pub is_clock : ℕ → Bool
is_clock clock = leb (clock / 10000) 23 && leb (clock / 100 % 100) 59 && leb (clock % 100) 59
