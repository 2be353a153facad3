-- `direct::word::number` meets its contract.
-- Assumes nothing.
use Rattle.std.proofs.Common.{◌+◌, ◌*◌, ◌/◌, refl, arith, rules}
use lib.Bits.{and_le_r}
use Rattle.direct.proofs.Numeral.{mask, ten_fits, number_of_lem}
use Rattle.direct.proofs.word.number.Goals as goal

pub overflow_mul-p : goal.overflow_mul-p
overflow_mul-p c = omega (arith, ten_fits c.args.a (search rules) c.requires)

pub overflow_add-p : goal.overflow_add-p
overflow_add-p c = omega (arith, ten_fits c.args.a (search rules) c.requires)

pub overflow_mul-q : goal.overflow_mul-q
overflow_mul-q c = omega (arith, and_le_r (c.args.a * 10 + c.args.a / 256) (mask 4))

pub overflow_add-q : goal.overflow_add-q
overflow_add-q c = omega (arith, and_le_r (c.args.a * 10 + c.args.a / 256) (mask 4))

pub returns : goal.returns
returns c = number_of_lem c.args.a (search rules) c.requires _ refl
