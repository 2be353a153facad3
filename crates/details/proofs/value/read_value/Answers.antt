-- `details::value::read_value` meets its contract.
-- Assumes nothing.
use mathlib.Core.Path.{refl, ◌∙◌}
use native.Mathlib.Omega.{arith}
use borrow.Author.Rules.{rules}
use Rattle.text.specs.Byte.{every}
use Rattle.text.proofs.Left.{left-whole}
use Rattle.report.proofs.Passing.{says-exit}
use Rattle.details.proofs.Worth.{value-signed, whole-digits, value-whole, value-pointed, value-odd}
use Rattle.details.proofs.value.read_value.Goals as goal

pub returns-in_err-require : goal.returns-in_err-require
returns-in_err-require c = says-exit _ _ c.from_residual.ensures.1 ∙ rw (value-signed _ _ c.begins.ensures, ← c.in_err-require.ensures)

pub returns-in_err-require-in-empty : goal.returns-in_err-require-in-empty
returns-in_err-require-in-empty c = says-exit _ _ c.from_residual-in_err-require-in-empty.ensures.1 ∙ rw (value-signed _ _ c.begins.ensures, ← c.in_ok-require.ensures, value-whole _ _ _ _ c.digits-w.ensures c.front-whole.ensures c.behind.ensures c.in-empty.len_below, ← c.in_err-require-in-empty.ensures)

pub watt_hours-requires-clause-digits : goal.watt_hours-requires-clause-digits
watt_hours-requires-clause-digits c = whole-digits _ _ c.behind.result.now _ c.digits-w.ensures c.front-whole.ensures _ c.in_ok-require-in-empty.ensures

pub watt_hours-requires-clause-digits_2 : goal.watt_hours-requires-clause-digits_2
unfolding every
watt_hours-requires-clause-digits_2 c = record { short = omega arith; clean = refl }

pub returns-in_ok-require-in-empty : goal.returns-in_ok-require-in-empty
returns-in_ok-require-in-empty c = rw (value-signed _ _ c.begins.ensures, ← c.in_ok-require.ensures, value-whole _ _ _ _ c.digits-w.ensures c.front-whole.ensures c.behind.ensures c.in-empty.len_below, ← c.in_ok-require-in-empty.ensures, c.watt_hours.ensures)

pub returns-in_err-require-in-46 : goal.returns-in_err-require-in-46
returns-in_err-require-in-46 c = says-exit _ _ c.from_residual-in_err-require-in-46.ensures.1 ∙ rw (value-signed _ _ c.begins.ensures, ← c.in_ok-require.ensures, value-pointed _ _ _ _ c.digits-w.ensures c.front-whole.ensures c.behind.ensures c.in-46.len_at_least (search rules) _ _ c.all_digits.ensures (left-whole _ 1), ← c.in_err-require-in-46.ensures)

pub returns-in_err-require-in-46-2 : goal.returns-in_err-require-in-46-2
returns-in_err-require-in-46-2 c = says-exit _ _ c.from_residual-in_err-require-in-46-2.ensures.1 ∙ rw (value-signed _ _ c.begins.ensures, ← c.in_ok-require.ensures, value-pointed _ _ _ _ c.digits-w.ensures c.front-whole.ensures c.behind.ensures c.in-46.len_at_least (search rules) _ _ c.all_digits.ensures (left-whole _ 1), ← c.in_ok-require-in-46.ensures, ← c.in_err-require-in-46-2.ensures)

pub returns-in_err-require-in-46-3 : goal.returns-in_err-require-in-46-3
returns-in_err-require-in-46-3 c = says-exit _ _ c.from_residual-in_err-require-in-46-3.ensures.1 ∙ rw (value-signed _ _ c.begins.ensures, ← c.in_ok-require.ensures, value-pointed _ _ _ _ c.digits-w.ensures c.front-whole.ensures c.behind.ensures c.in-46.len_at_least (search rules) _ _ c.all_digits.ensures (left-whole _ 1), ← c.in_ok-require-in-46.ensures, ← c.in_ok-require-in-46-2.ensures, ← c.is_empty.ensures, ← c.in_err-require-in-46-3.ensures)

pub watt_hours-requires-in-46-clause-digits : goal.watt_hours-requires-in-46-clause-digits
watt_hours-requires-in-46-clause-digits c = whole-digits _ _ c.behind.result.now _ c.digits-w.ensures c.front-whole.ensures _ c.in_ok-require-in-46-3.ensures

pub returns-in_ok-require-in-46-3 : goal.returns-in_ok-require-in-46-3
returns-in_ok-require-in-46-3 c = rw (value-signed _ _ c.begins.ensures, ← c.in_ok-require.ensures, value-pointed _ _ _ _ c.digits-w.ensures c.front-whole.ensures c.behind.ensures c.in-46.len_at_least (search rules) _ _ c.all_digits.ensures (left-whole _ 1), ← c.in_ok-require-in-46.ensures, ← c.in_ok-require-in-46-2.ensures, ← c.is_empty.ensures, ← c.in_ok-require-in-46-3.ensures, c.watt_hours-in-46.ensures)

pub returns-in_default : goal.returns-in_default
returns-in_default c = rw (value-signed _ _ c.begins.ensures, ← c.in_ok-require.ensures, value-odd _ _ _ _ c.digits-w.ensures c.front-whole.ensures c.behind.ensures c.in_default.len_at_least (search rules))
