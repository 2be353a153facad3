-- Values: kWh with at most three decimals, kept in watt hours. Document 01, "Rows".
-- Assumes nothing.
use Rattle.std.specs.Prelude.{[], ◌∷◌, Bool, false, cond, ◌&&◌, ℕ, ◌+◌, ◌-◌, ◌*◌, ◌^◌, eqb, leb, length}
use Prim.Native.Char.{code}
use Rattle.text.specs.Byte.{Bytes, is_digit, every}
use Rattle.text.specs.Number.{number, leading, behind}
use Rattle.report.specs.Outcome.{Outcome, passed, refused}
use Rattle.report.specs.Verdict.{negative, too_fine, no_value}

abbrev pub point : ℕ
point = code "."

-- at most 6 digits before the point and 3 behind it
abbrev pub whole_digits : ℕ
whole_digits = 6

abbrev pub part_digits : ℕ
part_digits = 3

unfoldable pub is_negative : Bytes → Bool
is_negative [] = false
is_negative (b ∷ s) = eqb b (code "-")

-- a value is kept in watt hours: kWh times 1,000
abbrev pub per_kwh : ℕ
per_kwh = 1000

-- `whole` before the point, `part` behind it
unfoldable pub watt_hours : Bytes → Bytes → ℕ
watt_hours whole part = number whole * per_kwh + number part * 10 ^ (part_digits - length part)

-- only digits and one point: 20 if 4 or more digits stand after it
unfoldable pub with_point : Bytes → Bytes → Outcome ℕ
with_point whole part =
    cond (leb (part_digits + 1) (length part)) (refused too_fine)
    (cond (leb 1 (length part) && leb (length whole) whole_digits) (passed (watt_hours whole part)) (refused no_value))

-- the field's leading digits, and what stands behind them
unfoldable pub value_parts : Bytes → Bytes → Outcome ℕ
value_parts whole [] =
    cond (leb 1 (length whole) && leb (length whole) whole_digits) (passed (watt_hours whole [])) (refused no_value)
value_parts whole (b ∷ part) = cond (eqb b point && every is_digit part) (with_point whole part) (refused no_value)

-- a value, in watt hours: 0 to 6 digits, optionally followed by a point and 1 to 3 digits, with at least one digit in all
unfoldable pub value_of : Bytes → Outcome ℕ
value_of f = cond (is_negative f) (refused negative) (value_parts (leading f) (behind f))
