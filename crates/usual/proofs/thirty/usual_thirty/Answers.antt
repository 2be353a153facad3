-- `usual::thirty::usual_thirty` meets its contract.
-- Assumes nothing.
use mathlib.Core.Path.{refl}
use Rattle.usual.proofs.Usual.{thirty_usual}
use Rattle.usual.proofs.thirty.usual_thirty.Goals as goal

pub returns : goal.returns
returns c = rw c.then_some.ensures
    (thirty_usual _ c.if-line-lt-REP_AT.false _ _ _ _ _ _ _ c.begins.ensures c.all_digits.ensures c.same.ensures c.all_digits-2.ensures c.same-2.ensures c.is_empty.ensures c.is_duns.ensures _ refl)
