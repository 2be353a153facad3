-- `direct::read_direct` meets its contract.
-- Assumes nothing.
use Rattle.direct.specs.Guess.{span_size}
use Rattle.direct.proofs.Row.{span-said}
use Rattle.direct.proofs.read_direct.Goals as goal

pub returns : goal.returns
returns c = span-said c.args.piece.now _ _ c.args.at span_size _ _ c.in_ok-get.ensures.lookup.0.2 c.in_ok-span.ensures.cases.same c.read_line.ensures
