-- The layout of a cell. Document 01, "Registry and cells".
-- Assumes nothing.
use Rattle.std.specs.Prelude.{List, ℕ, ◌-◌, ◌*◌}

abbrev pub Words : Type 0
Words = List ℕ

-- a cell's width, and the place of each part: interval count; timestamp as YYYYMMDD and HHMMSS; estimate marks; watt hours
abbrev pub width : ℕ
width = 107

abbrev pub count_at : ℕ
count_at = 0

abbrev pub date_at : ℕ
date_at = 1

abbrev pub clock_at : ℕ
clock_at = 2

abbrev pub marks_at : ℕ
marks_at = 3

abbrev pub values_at : ℕ
values_at = 7

-- how many intervals a cell has room for
abbrev pub max_intervals : ℕ
max_intervals = width - values_at

-- bits of a word, and of all marks
abbrev pub word_bits : ℕ
word_bits = 32

abbrev pub mark_bits : ℕ
mark_bits = (values_at - marks_at) * word_bits
