-- Cell numbers. Document 01, "Registry and cells": meter m from 0, channel c (load 0, generation 1:
-- headers/specs/One `channel_number`), window day d from 0, D days: cell number (m × 2 + c) × D + d.
-- Assumes nothing.
use Rattle.std.specs.Prelude.{ℕ, ◌+◌, ◌*◌}

abbrev pub channels : ℕ
channels = 2

-- of so many meters and days
unfoldable pub cell_count : ℕ → ℕ → ℕ
cell_count meters days = meters * channels * days

unfoldable pub cell_number : ℕ → ℕ → ℕ → ℕ → ℕ → ℕ
cell_number meters days m c d = (m * channels + c) * days + d
