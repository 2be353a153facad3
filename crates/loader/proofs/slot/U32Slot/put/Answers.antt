-- `loader::slot::U32Slot::put` meets its contract.
-- Assumes nothing.
use native.Mathlib.Omega.{arith}
use Rattle.report.proofs.Entries.{entries-count}
use Rattle.report.specs.Words.{places_in}
use Rattle.loader.proofs.Reports.{copied-entries, copied-behind}
use Rattle.loader.proofs.slot.U32Slot.put.Goals as goal

pub overflow_mul-at : goal.overflow_mul-at
overflow_mul-at c = omega (arith, c.requires, entries-count (places_in c.args.report.now) c.args.report.now)

pub overflow_add-at : goal.overflow_add-at
overflow_add-at c = omega (arith, c.requires, c.words-words.ensures.1, entries-count (places_in c.args.report.now) c.args.report.now)

pub offset_bounds-report-at : goal.offset_bounds-report-at
offset_bounds-report-at c = omega (arith, c.requires, c.words-words.ensures.1, entries-count (places_in c.args.report.now) c.args.report.now)

pub slice_bounds-copy-end : goal.slice_bounds-copy-end
slice_bounds-copy-end c = omega (arith, c.requires, c.words-words.ensures.1, entries-count (places_in c.args.report.now) c.args.report.now)

pub returns-clause-entered : goal.returns-clause-entered
returns-clause-entered c =
    rw c.copy.ensures
    (copied-entries _ c.words-words.result.now _ c.args.from _ c.requires c.words-words.ensures.0 c.words-words.ensures.1 (omega arith))

pub returns-clause-behind : goal.returns-clause-behind
returns-clause-behind c =
    rw c.copy.ensures
    (copied-behind _ c.words-words.result.now _ c.args.from _ c.requires c.words-words.ensures.0 c.words-words.ensures.1 (omega arith))
