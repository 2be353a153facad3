-- What the loop of `rowtext::detail::put_detail` keeps: the row is put as far as its intervals before the next.
use Rattle.std.proofs.Common.{◌≡◌, ◌++◌, take}
use Rattle.rowtext.proofs.Texts.{detail_front}
use Rattle.rowtext.proofs.detail.put_detail.Given as goal

abbrev pub invariant-loop-interval : goal.invariant-loop-interval
invariant-loop-interval g l = l.text ≡ l.fn.text ++ detail_front l.k (take l.interval-index l.intervals)
