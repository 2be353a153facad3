-- `loader::slot::EntrySlot::put` meets its contract.
-- Assumes nothing.
use native.Mathlib.Omega.{arith}
use Rattle.report.proofs.Entries.{entries-count}
use Rattle.loader.proofs.Reports.{none-pasted, one-pasted, pasted-left}
use Rattle.loader.proofs.slot.EntrySlot.put.Goals as goal

pub loop-i-init : goal.loop-i-init
loop-i-init c = none-pasted _ _ _

pub loop-i-preserved : goal.loop-i-preserved
loop-i-preserved c = rw (c.loop-i.invariant, c.entry_at.ensures) (one-pasted _ _ _ _ (omega (arith, c.requires)))

pub returns-clause-behind : goal.returns-clause-behind
returns-clause-behind c = λ n h. rw c.loop-i.invariant (pasted-left _ _ _ n (omega (arith, c.requires)) (omega (arith, h, c.loop-i-test.false, entries-count c.loop-i.i c.words-words.result.now)))
