-- What the loop of `padded::order::compare` keeps: the words to come decide.
use Rattle.std.proofs.Common.{◌≡◌}
use Rattle.padded.specs.Order.{order}
use Rattle.padded.proofs.Words.{by_words}
use Rattle.padded.proofs.order.compare.Given as goal

abbrev pub invariant-loop-a : goal.invariant-loop-a
invariant-loop-a l = by_words l.a-iterator.a.rest.now l.a-iterator.b.rest.now ≡ order l.s l.t
