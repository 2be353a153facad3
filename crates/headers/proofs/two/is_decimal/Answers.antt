-- `headers::two::is_decimal` meets its contract.
-- Assumes nothing.
use mathlib.Core.Path.{refl}
use borrow.Author.Rules.{rules}
use Rattle.headers.proofs.Forms.{decimal-whole, decimal-point, decimal-odd}
use Rattle.headers.proofs.two.is_decimal.Goals as goal

pub returns-in-empty : goal.returns-in-empty
returns-in-empty c = decimal-whole _ _ c.digits-w.ensures _ c.behind.ensures c.in-empty.len_below

pub returns-in-46 : goal.returns-in-46
returns-in-46 c = decimal-point _ _ c.digits-w.ensures _ c.behind.ensures c.in-46.len_at_least (search rules) _ _ c.up_to_digits.ensures refl

pub returns-in_default : goal.returns-in_default
returns-in_default c = decimal-odd _ _ c.digits-w.ensures _ c.behind.ensures c.in_default.len_at_least (search rules)
