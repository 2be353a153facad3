-- `headers::four::read_four` meets its contract.
-- Assumes nothing.
use mathlib.Core.Path.{◌∙◌}
use Rattle.report.proofs.Passing.{says-exit}
use Rattle.headers.specs.Time.{stamp_of}
use Rattle.headers.specs.Four.{four_of, row_four}
use Rattle.headers.proofs.four.read_four.Goals as goal

pub returns-in_err-fields : goal.returns-in_err-fields
unfolding row_four
returns-in_err-fields c = says-exit _ _ c.from_residual.ensures.1 ∙ rw (← c.in_err-fields.ensures)

pub returns-in_err-time : goal.returns-in_err-time
unfolding stamp_of four_of row_four
returns-in_err-time c = says-exit _ _ c.from_residual-in_err-time.ensures.1 ∙ rw (← c.in_ok-fields.ensures, c.next.ensures.taken, c.next-stamp.ensures.taken, c.next-origin.ensures.taken, ← c.in_err-time.ensures)

pub returns-in_err-require : goal.returns-in_err-require
unfolding stamp_of four_of row_four
returns-in_err-require c =
    says-exit _ _ c.from_residual-in_err-require.ensures.1
    ∙ rw (← c.in_ok-fields.ensures, c.next.ensures.taken, c.next-stamp.ensures.taken, c.next-origin.ensures.taken, ← c.in_ok-time.ensures, ← c.same.ensures, ← c.in_err-require.ensures)

pub returns : goal.returns
unfolding stamp_of four_of row_four
returns c = rw (c.from.ensures, ← c.in_ok-fields.ensures, c.next.ensures.taken, c.next-stamp.ensures.taken, c.next-origin.ensures.taken, ← c.in_ok-time.ensures, ← c.same.ensures, ← c.in_ok-require.ensures)
