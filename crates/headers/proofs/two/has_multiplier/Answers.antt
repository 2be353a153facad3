-- `headers::two::has_multiplier` meets its contract.
-- Assumes nothing.
use Rattle.headers.proofs.two.has_multiplier.Goals as goal

pub returns : goal.returns
returns c = rw (← c.of-fields.ensures, c.next.ensures.taken, c.next-start.ensures.taken, c.next-stop.ensures.taken, c.next-multiplier.ensures.taken, ← c.is_empty.ensures, ← c.is_empty-2.ensures, ← c.is_empty-3.ensures)
