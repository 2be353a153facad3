-- `headers::thirty::read_thirty` meets its contract.
-- Assumes nothing.
use mathlib.Core.Path.{◌∙◌}
use Rattle.report.specs.Outcome.{passed}
use Rattle.report.proofs.Passing.{bind-exit}
use Rattle.headers.specs.Thirty.{behind_name, has_duns, sender_name, is_thirty, thirty_of, row_thirty}
use Rattle.headers.proofs.Pairs.{parted, number-said}
use Rattle.headers.proofs.thirty.read_thirty.Goals as goal

pub returns-in_err-fields : goal.returns-in_err-fields
unfolding row_thirty
returns-in_err-fields c = bind-exit _ _ _ c.from_residual.ensures.1 ∙ rw (← c.in_err-fields.ensures)

pub returns-in_err-require : goal.returns-in_err-require
unfolding thirty_of is_thirty row_thirty
returns-in_err-require c =
    bind-exit _ _ _ c.from_residual-in_err-require.ensures.1
    ∙ rw (← c.in_ok-fields.ensures, c.next.ensures.taken, c.next-pairs.ensures.taken, c.next-mre.ensures.taken, c.next-sender.ensures.taken, c.next-receiver.ensures.taken, c.next-rep.ensures.taken, ← c.same.ensures, ← c.has_duns.ensures, ← c.ends_row.ensures, parted c.same.result c.has_duns.result (has_duns sender_name c.next-sender.result.now) c.ends_row.result (passed (behind_name sender_name c.next-sender.result.now)), ← c.in_err-require.ensures)

pub returns : goal.returns
unfolding thirty_of is_thirty row_thirty
returns c =
    rw (c.ok_or.ensures.value, ← c.in_ok-fields.ensures, c.next.ensures.taken, c.next-pairs.ensures.taken, c.next-mre.ensures.taken, c.next-sender.ensures.taken, c.next-receiver.ensures.taken, c.next-rep.ensures.taken, ← c.same.ensures, ← c.has_duns.ensures, ← c.ends_row.ensures, parted c.same.result c.has_duns.result (has_duns sender_name c.next-sender.result.now) c.ends_row.result (passed (behind_name sender_name c.next-sender.result.now)), ← c.in_ok-require.ensures)
    (number-said _ _ _ c.duns_of.ensures)
