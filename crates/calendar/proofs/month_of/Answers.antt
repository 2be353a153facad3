-- `calendar::month_of` meets its contract: the table is in order, so the months before the point, and no others, begin on the day or before.
-- Assumes nothing.
use lib.Dec.{leb}
use borrow.Author.Rules.{rules}
use Rattle.std.proofs.lemmas.List.Sorted.{IsPartitionPoint-from_clause}
use Rattle.calendar.specs.declared.months.TheConstants.{FIRST_DAYS}
use Rattle.calendar.proofs.Table.{parted, Begun, some_begun, last_begun}
use Rattle.calendar.proofs.month_of.Goals as goal

begun : (c : goal.After-partition_point) → Begun c.args.day c.partition_point.result
begun c =
    IsPartitionPoint-from_clause (λ first. leb first c.args.day) FIRST_DAYS _ c.partition_point.ensures.partitioned (parted c.args.day) (λ a r f k. search rules)

pub overflow_sub-result : goal.overflow_sub-result
overflow_sub-result c = some_begun _ _ c.requires c.partition_point.ensures.bound (begun c)

pub returns : goal.returns
returns c = last_begun _ _ c.requires c.partition_point.ensures.bound (begun c)
