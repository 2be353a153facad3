-- How many digits of a value stand before its point.
-- Assumes nothing.
use Rattle.std.specs.Prelude.{ℕ, ◌*◌}
use Rattle.details.specs.Value.{per_kwh}

-- the first number with more digits than a value has before its point, and the first watt hours that a value can't say
abbrev pub whole_end : ℕ
whole_end = 1000000

abbrev pub value_end : ℕ
value_end = whole_end * per_kwh
