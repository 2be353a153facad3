-- `digits::decimal_size` meets its contract.
-- Assumes nothing.
use Rattle.digits.proofs.Decimal.{size_is}
use Rattle.digits.proofs.decimal_size.Goals as goal

pub returns : goal.returns
returns c =
    rw c.unwrap_or.ensures
    (size_is c.args.n c.checked_ilog10.result c.checked_ilog10.ensures.none c.checked_ilog10.ensures.power_le c.checked_ilog10.ensures.next_power_gt c.checked_ilog10.ensures.bound)
