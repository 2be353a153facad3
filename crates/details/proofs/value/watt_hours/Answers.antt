-- `details::value::watt_hours` meets its contract.
-- Assumes nothing.
use native.Mathlib.Omega.{arith}
use borrow.Author.Rules.{rules}
use Rattle.text.proofs.Decimal.{number-below}
use Rattle.details.specs.Value.{whole_digits, part_digits}
use Rattle.details.proofs.Worth.{hours_three, hours_two, hours_one, hours_none}
use Rattle.details.proofs.value.watt_hours.Goals as goal

pub overflow_mul-k : goal.overflow_mul-k
overflow_mul-k c = omega (arith, number-below whole_digits _ _ c.requires.digits c.number_of-k.ensures)

pub overflow_add-result : goal.overflow_add-result
overflow_add-result c = omega (arith, number-below whole_digits _ _ c.requires.digits c.number_of-k.ensures, number-below part_digits _ _ c.requires.digits_2 c.number_of-n.ensures)

pub returns-in-3 : goal.returns-in-3
returns-in-3 c = search (hours_three, rules)

pub overflow_mul-result : goal.overflow_mul-result
overflow_mul-result c = omega (arith, number-below part_digits _ _ c.requires.digits_2 c.number_of-n.ensures)

pub overflow_add-result-in-2 : goal.overflow_add-result-in-2
overflow_add-result-in-2 c = omega (arith, number-below whole_digits _ _ c.requires.digits c.number_of-k.ensures, number-below part_digits _ _ c.requires.digits_2 c.number_of-n.ensures)

pub returns-in-2 : goal.returns-in-2
returns-in-2 c = search (hours_two, rules)

pub overflow_mul-result-in-1 : goal.overflow_mul-result-in-1
overflow_mul-result-in-1 c = omega (arith, number-below part_digits _ _ c.requires.digits_2 c.number_of-n.ensures)

pub overflow_add-result-in-1 : goal.overflow_add-result-in-1
overflow_add-result-in-1 c = omega (arith, number-below whole_digits _ _ c.requires.digits c.number_of-k.ensures, number-below part_digits _ _ c.requires.digits_2 c.number_of-n.ensures)

pub returns-in-1 : goal.returns-in-1
returns-in-1 c = search (hours_one, rules)

pub returns-in_default : goal.returns-in_default
returns-in_default c = search (hours_none, rules)
