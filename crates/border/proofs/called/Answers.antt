-- `border::called` meets its contract.
-- Assumes nothing.
use mathlib.Core.Path.{ap}
use lib.ListN.{length}
use Rattle.std.proofs.Common.{rules}
use Rattle.report.proofs.Passing.{is-error}
use Rattle.border.proofs.Small.{count_small}
use Rattle.border.proofs.Crossing.{crosses}
use Rattle.border.proofs.called.Goals as goal

pub returns-in_err-count-clause-call : goal.returns-in_err-count-clause-call
returns-in_err-count-clause-call g c =
    let lent = rw c.in_ok-words.ensures.ok_part at c.as_mut_array.ensures.cases in
    rw (is-error _ _ c.from_residual-in_err-count.ensures.1)
    (crosses _ _ _ _ _ _ _ _ _ _ _ _ (rw (c.state_in-given.ensures, lent.same) at c.in_err-count.ensures) lent.long tt tt
    lent.same (ap length lent.same))

pub returns-clause-few : goal.returns-clause-few
returns-clause-few g c = count_small _ _ _ _ _ _ _ _ _ _ _ c.in_ok-count.ensures

pub returns-clause-call : goal.returns-clause-call
returns-clause-call g c =
    let lent = rw c.in_ok-words.ensures.ok_part at c.as_mut_array.ensures.cases in
    crosses _ _ _ _ _ _ _ _ _ _ _ _ (rw (c.state_in-given.ensures, lent.same) at c.in_ok-count.ensures) lent.long
    c.put_state.ensures.words c.put_state.ensures.back tt (search rules)
