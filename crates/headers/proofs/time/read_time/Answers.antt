-- `headers::time::read_time` meets its contract.
-- Assumes nothing.
use mathlib.Core.Path.{◌∙◌}
use Rattle.report.proofs.Passing.{says-exit, test-passed, test-refused}
use Rattle.headers.specs.Time.{is_time, time_of}
use Rattle.headers.proofs.Moment.{date_digits, clock_digits, time-is}
use Rattle.headers.proofs.time.read_time.Goals as goal

pub returns-in_err-require : goal.returns-in_err-require
unfolding time_of is_time
returns-in_err-require c = says-exit _ _ c.from_residual.ensures.1 ∙ (let p = test-refused _ _ _ c.in_err-require.ensures in rw (p.0, p.1))

pub returns-in_err-require-2 : goal.returns-in_err-require-2
unfolding time_of is_time
returns-in_err-require-2 c =
    let p = test-refused _ _ _ c.in_err-require-2.ensures in
    says-exit _ _ c.from_residual-in_err-require-2.ensures.1 ∙ rw (test-passed _ _ c.in_ok-require.ensures, ← c.all_digits.ensures, p.0, p.1)

pub number_of-date-requires : goal.number_of-date-requires
number_of-date-requires c = date_digits _ _ _ c.in_ok-require.ensures _ c.all_digits.ensures c.in_ok-require-2.ensures _ c.front.ensures

pub number_of-clock-requires : goal.number_of-clock-requires
number_of-clock-requires c = clock_digits _ _ _ c.in_ok-require.ensures _ c.all_digits.ensures c.in_ok-require-2.ensures _ c.behind.ensures

pub returns-in_err-require-3 : goal.returns-in_err-require-3
returns-in_err-require-3 c =
    says-exit _ _ c.from_residual-in_err-require-3.ensures.1
    ∙ rw (time-is _ _ _ c.in_ok-require.ensures _ c.all_digits.ensures c.in_ok-require-2.ensures _ _ _ _ _ _ c.front.ensures c.behind.ensures c.number_of-date.ensures c.number_of-clock.ensures c.is_date.ensures c.is_clock.ensures, ← c.in_err-require-3.ensures)

pub returns : goal.returns
returns c =
    rw (time-is _ _ _ c.in_ok-require.ensures _ c.all_digits.ensures c.in_ok-require-2.ensures _ _ _ _ _ _ c.front.ensures c.behind.ensures c.number_of-date.ensures c.number_of-clock.ensures c.is_date.ensures c.is_clock.ensures, ← c.in_ok-require-3.ensures)
