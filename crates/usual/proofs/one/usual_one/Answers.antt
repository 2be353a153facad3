-- `usual::one::usual_one` meets its contract.
-- Assumes nothing.
use mathlib.Core.Path.{◌∙◌}
use Rattle.report.proofs.Passing.{value-taken}
use Rattle.usual.proofs.UsualOne.{day_digits, stop_digits, one_usual}
use Rattle.usual.proofs.one.usual_one.Goals as goal

pub number_of-day-requires : goal.number_of-day-requires
number_of-day-requires c =
    day_digits c.args.line.now c.if-n-lt-USUAL_LEAST.false c.begins.result c.all_alnum.result c.all_digits.result c.same.result c.same-2.result c.all_digits-2.result c.same-3.result c.if-not-shaped.false c.all_digits.ensures c.all_digits-2.ensures

pub number_of-requires : goal.number_of-requires
number_of-requires c =
    stop_digits c.args.line.now c.if-n-lt-USUAL_LEAST.false c.begins.result c.all_alnum.result c.all_digits.result c.same.result c.same-2.result c.all_digits-2.result c.same-3.result c.if-not-shaped.false c.all_digits.ensures c.all_digits-2.ensures

pub returns : goal.returns
returns c cr =
    one_usual _ c.if-n-lt-USUAL_LEAST.false _ _ _ _ _ _ _ c.if-not-shaped.false c.all_digits.ensures c.all_digits-2.ensures c.if-n-gt-USUAL_MOST.false c.begins.ensures c.all_alnum.ensures c.same.ensures c.same-2.ensures c.same-3.ensures _ c.number_of-day.ensures _ c.is_date.ensures c.if-not-is_date.false _ c.number_of.ensures _ c.stops_day.ensures c.if-not-stops_day.false _ (value-taken _ _ c.in_ok-channel.ensures.value ∙ c.read_channel.ensures) cr
