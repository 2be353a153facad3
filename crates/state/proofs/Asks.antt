-- Fresh asks nothing of its caller.
-- Assumes nothing.
use mathlib.Core.Path.{refl}
use base.Logic.{emp, id⊢}
use Rattle.calls.specs.RealCall.{AsksNothing}
use Rattle.state.specs.Contract.{fresh_contract}
use Rattle.state.specs.contracts.fresh

pub fresh_asks : AsksNothing fresh.ended fresh_contract
fresh_asks = record { outlives = refl; requires = λ κs a w. (tt, id⊢ w.𝓤 (emp w.𝓤)) }
