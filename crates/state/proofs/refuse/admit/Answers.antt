-- `state::refuse::admit` meets its contract.
-- Assumes nothing.
use Rattle.report.proofs.Passing.{answers-exit}
use Rattle.state.proofs.Refusals.{tested-taken, number-tested}
use Rattle.state.proofs.refuse.admit.Goals as goal

pub returns-in_err-require-clause-number : goal.returns-in_err-require-clause-number
returns-in_err-require-clause-number c =
    rw (answers-exit _ _ c.from_residual.ensures.1, number-tested _ _ _ _ _, ← c.is_overfull.ensures.overfull, ← c.in_err-require.ensures)

pub returns-in_err-for_table-clause-number : goal.returns-in_err-for_table-clause-number
returns-in_err-for_table-clause-number c = rw (answers-exit _ _ c.from_residual-in_err-for_table.ensures.1, number-tested _ _ _ _ _, ← c.is_overfull.ensures.overfull, ← c.in_ok-require.ensures, ← c.in_err-for_table.ensures)

pub returns-in_err-require-2-clause-number : goal.returns-in_err-require-2-clause-number
returns-in_err-require-2-clause-number c = rw (answers-exit _ _ c.from_residual-in_err-require-2.ensures.1, number-tested _ _ _ _ _, ← c.is_overfull.ensures.overfull, ← c.in_ok-require.ensures, ← c.in_ok-for_table.ensures, ← c.in_err-require-2.ensures)

pub overflow_sub-state : goal.overflow_sub-state
overflow_sub-state c = tested-taken _ _ c.is_overfull.ensures.overfull c.in_ok-require.ensures

pub returns-clause-number : goal.returns-clause-number
returns-clause-number c = rw (number-tested _ _ _ _ _, ← c.is_overfull.ensures.overfull, ← c.in_ok-require.ensures, ← c.in_ok-for_table.ensures, ← c.in_ok-require-2.ensures, ← c.require-3.ensures)
