-- `headers::two::is_unit_code` meets its contract.
-- Assumes nothing.
use native.Mathlib.Omega.{arith}
use borrow.Author.Rules.{rules}
use Rattle.headers.proofs.Forms.{digits_no, digits-few, unit-right}
use Rattle.headers.proofs.two.is_unit_code.Goals as goal

pub returns-then-not-up_to_digits : goal.returns-then-not-up_to_digits
returns-then-not-up_to_digits c = search (digits_no, rules)

pub number_of-requires : goal.number_of-requires
number_of-requires c = digits-few _ _ _ c.up_to_digits.ensures c.if-not-up_to_digits.false (omega arith)

pub returns : goal.returns
returns c = search (unit-right, rules)
