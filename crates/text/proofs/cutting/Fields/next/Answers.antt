-- `text::cutting::Fields::next` meets its contract.
-- Assumes nothing.
use mathlib.Core.Path.{sym, ap}
use native.Mathlib.Omega.{arith}
use lib.ListN.{length}
use Rattle.text.proofs.Comma.{taken_last, taken_first}
use Rattle.text.proofs.cutting.Fields.next.Goals as goal

pub returns-then-first-rest : goal.returns-then-first-rest
returns-then-first-rest c =
    let taken = taken_last _ _ c.args.self.now (sym (rw c.unwrap-rest.ensures at c.self.view_is)) c.field-first.ensures c.if-first-rest.true in
    record { taken = taken; count = ap length taken }

pub returns : goal.returns
returns c =
    let taken = taken_first _ _ c.args.self.now (sym (rw c.unwrap-rest.ensures at c.self.view_is)) c.field-first.ensures c.if-first-rest.false _ c.after.ensures in
    record { taken = taken; count = omega (arith, ap length taken) }
