-- `headers::one::read_one` meets its contract.
-- Assumes nothing.
use mathlib.Core.Path.{◌∙◌}
use Rattle.report.proofs.Passing.{bind-exit}
use Rattle.headers.specs.One.{one_of, row_one}
use Rattle.headers.proofs.one.read_one.Goals as goal

pub returns-in_err-fields : goal.returns-in_err-fields
unfolding row_one
returns-in_err-fields c = bind-exit _ _ _ c.from_residual.ensures.1 ∙ rw (← c.in_err-fields.ensures)

pub returns-in_err-require : goal.returns-in_err-require
unfolding one_of row_one
returns-in_err-require c =
    bind-exit _ _ _ c.from_residual-in_err-require.ensures.1
    ∙ rw (← c.in_ok-fields.ensures, c.next.ensures.taken, c.next-id.ensures.taken, c.next-third.ensures.taken, c.next-start.ensures.taken, c.next-stop.ensures.taken, c.next-yes.ensures.taken, c.next-no.ensures.taken, ← c.is_esi_id.ensures, ← c.in_err-require.ensures)

pub returns-in_err-channel : goal.returns-in_err-channel
unfolding one_of row_one
returns-in_err-channel c =
    bind-exit _ _ _ c.from_residual-in_err-channel.ensures.1
    ∙ rw (← c.in_ok-fields.ensures, c.next.ensures.taken, c.next-id.ensures.taken, c.next-third.ensures.taken, c.next-start.ensures.taken, c.next-stop.ensures.taken, c.next-yes.ensures.taken, c.next-no.ensures.taken, ← c.is_esi_id.ensures, ← c.in_ok-require.ensures, ← c.in_err-channel.ensures)

pub returns-in_err-day : goal.returns-in_err-day
unfolding one_of row_one
returns-in_err-day c =
    bind-exit _ _ _ c.from_residual-in_err-day.ensures.1
    ∙ rw (← c.in_ok-fields.ensures, c.next.ensures.taken, c.next-id.ensures.taken, c.next-third.ensures.taken, c.next-start.ensures.taken, c.next-stop.ensures.taken, c.next-yes.ensures.taken, c.next-no.ensures.taken, ← c.is_esi_id.ensures, ← c.in_ok-require.ensures, ← c.in_ok-channel.ensures, ← c.in_err-day.ensures)

pub returns : goal.returns
unfolding one_of row_one
returns c =
    rw (← c.in_ok-fields.ensures, c.next.ensures.taken, c.next-id.ensures.taken, c.next-third.ensures.taken, c.next-start.ensures.taken, c.next-stop.ensures.taken, c.next-yes.ensures.taken, c.next-no.ensures.taken, ← c.is_esi_id.ensures, ← c.in_ok-require.ensures, ← c.in_ok-channel.ensures, ← c.in_ok-day.ensures)
