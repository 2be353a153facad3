-- `details::detail::read_interval` meets its contract.
-- Assumes nothing.
use mathlib.Core.Path.{◌∙◌}
use Rattle.report.proofs.Passing.{says-exit}
use Rattle.details.specs.Detail.{interval_of, with_empty}
use Rattle.details.proofs.detail.read_interval.Goals as goal

pub returns-in_err-wh-clause-says : goal.returns-in_err-wh-clause-says
unfolding interval_of
returns-in_err-wh-clause-says c =
    says-exit _ _ c.from_residual.ensures.1
    ∙ rw (c.next-value.ensures.taken, c.next-status.ensures.taken, c.next-empty.ensures.taken, ← c.in_err-wh.ensures)

pub returns-in_err-estimated-clause-says : goal.returns-in_err-estimated-clause-says
unfolding interval_of
returns-in_err-estimated-clause-says c =
    says-exit _ _ c.from_residual-in_err-estimated.ensures.1
    ∙ rw (c.next-value.ensures.taken, c.next-status.ensures.taken, c.next-empty.ensures.taken, ← c.in_ok-wh.ensures, ← c.in_err-estimated.ensures)

pub returns-in_err-require-clause-says : goal.returns-in_err-require-clause-says
unfolding interval_of with_empty
returns-in_err-require-clause-says c =
    says-exit _ _ c.from_residual-in_err-require.ensures.1
    ∙ rw (c.next-value.ensures.taken, c.next-status.ensures.taken, c.next-empty.ensures.taken, ← c.in_ok-wh.ensures, ← c.in_ok-estimated.ensures, ← c.is_empty.ensures, ← c.in_err-require.ensures)

pub returns-clause-says : goal.returns-clause-says
unfolding interval_of with_empty
returns-clause-says c =
    rw (c.next-value.ensures.taken, c.next-status.ensures.taken, c.next-empty.ensures.taken, ← c.in_ok-wh.ensures, ← c.in_ok-estimated.ensures, ← c.is_empty.ensures, ← c.in_ok-require.ensures)
