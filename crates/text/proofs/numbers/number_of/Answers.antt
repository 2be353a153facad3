-- `text::numbers::number_of` meets its contract.
-- Assumes nothing.
use Rattle.std.proofs.Common.{rules, arith}
use Rattle.text.proofs.Decimal.{number_again, number-last, power_step, power_more}
use Rattle.text.proofs.Class.{digit_at}
use Rattle.text.proofs.numbers.number_of.Goals as goal

pub overflow_mul-n : goal.overflow_mul-n
overflow_mul-n c = omega (arith, power_more _ _ 8 c.loop-b.invariant.below (omega arith))

pub digit-requires : goal.digit-requires
digit-requires c = search (digit_at, rules)

pub overflow_add-n : goal.overflow_add-n
overflow_add-n c = omega (arith, power_more _ _ 8 c.loop-b.invariant.below (omega arith))

pub loop-b-preserved : goal.loop-b-preserved
loop-b-preserved c = record { below = search (power_step, rules); read = search (number_again, rules) }

pub returns : goal.returns
returns c = search (number-last, rules)
