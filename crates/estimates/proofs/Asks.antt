-- Estimates asks nothing of its caller.
-- Assumes nothing.
use mathlib.Core.Path.{refl}
use base.Logic.{emp, id⊢}
use Rattle.calls.specs.RealCall.{AsksNothing}
use Rattle.estimates.specs.Contract.{estimates_contract}
use Rattle.estimates.specs.contracts.estimates

pub estimates_asks : AsksNothing estimates.ended estimates_contract
estimates_asks = record { outlives = refl; requires = λ κs a w. (tt, id⊢ w.𝓤 (emp w.𝓤)) }
