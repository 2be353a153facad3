-- `registry::entry::read_window` meets its contract.
-- Assumes nothing.
use Rattle.std.proofs.Common.{◌∙◌, arith}
use Rattle.registry.proofs.Opening.{window_letters, date_digits, days-digits, window_no_date, sum_low, window_read}
use Rattle.registry.proofs.entry.read_window.Goals as goal

pub returns-then-not-all_digits : goal.returns-then-not-all_digits
returns-then-not-all_digits c = window_letters _ c.told-body _ c.all_digits.ensures c.if-not-all_digits.true

pub number_of-date-requires : goal.number_of-date-requires
number_of-date-requires c = date_digits _ c.told-body _ c.all_digits.ensures c.if-not-all_digits.false

pub number_of-days-requires : goal.number_of-days-requires
number_of-days-requires c = days-digits _ c.told-body _ c.all_digits.ensures c.if-not-all_digits.false

pub returns-in_err-first : goal.returns-in_err-first
returns-in_err-first c = c.from_residual.ensures ∙ window_no_date _ c.told-body _ c.all_digits.ensures c.if-not-all_digits.false _ _ c.number_of-date.ensures c.number_of-days.ensures _ c.day_number.ensures c.in_err-first.was

pub overflow_add-fits : goal.overflow_add-fits
overflow_add-fits c = omega (arith, sum_low _ c.told-body _ c.all_digits.ensures c.if-not-all_digits.false _ _ c.number_of-date.ensures c.number_of-days.ensures _ c.day_number.ensures _ c.in_ok-first.was)

pub returns : goal.returns
returns c = c.then_some.ensures ∙ window_read _ c.told-body _ c.all_digits.ensures c.if-not-all_digits.false _ _ c.number_of-date.ensures c.number_of-days.ensures _ c.day_number.ensures _ c.in_ok-first.was
