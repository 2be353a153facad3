-- Write asks nothing of its caller.
-- Assumes nothing.
use mathlib.Core.Path.{refl}
use base.Logic.{emp, id⊢}
use Rattle.calls.specs.RealCall.{AsksNothing}
use Rattle.writer.specs.Contract.{write_contract}
use Rattle.writer.specs.contracts.write

pub write_asks : AsksNothing write.ended write_contract
write_asks = record { outlives = refl; requires = λ κs a w. (tt, id⊢ w.𝓤 (emp w.𝓤)) }
