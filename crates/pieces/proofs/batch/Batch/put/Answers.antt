-- `pieces::batch::Batch::put` meets its contract.
-- Assumes nothing.
use native.Mathlib.Omega.{arith}
use Rattle.report.proofs.Entries.{entries-count}
use Rattle.pieces.proofs.Batches.{put-entered, put-held}
use Rattle.pieces.proofs.batch.Batch.put.Goals as goal

pub slice_bounds-put_entry-end : goal.slice_bounds-put_entry-end
slice_bounds-put_entry-end c = omega (arith, rw (← c.self.view_is) at c.requires, entries-count c.self.inside.count c.self.inside.words, c.self.told)

pub invariant_of-self : goal.invariant_of-self
invariant_of-self c =
    let few = rw (← c.self.view_is, entries-count) at c.requires in
    (omega (arith, few), put-held c.self.inside.count c.self.inside.words c.put_entry.new.out _ few c.self.told c.put_entry.ensures c.self.invariant.1)

pub returns-in-Some : goal.returns-in-Some
returns-in-Some c =
    let few = rw (← c.self.view_is, entries-count) at c.requires in
    rw (← c.self.view_is, c.in-Some.is) (put-entered c.self.inside.count c.self.inside.words c.put_entry.new.out _ few c.self.told c.put_entry.ensures)
