-- `lines::end::line_of` meets its contract.
-- Assumes nothing.
use borrow.Author.Tests.{eq-eqb, ne_eqb}
use Rattle.lines.proofs.end.line_of.Goals as goal

pub returns-then-held-eq0 : goal.returns-then-held-eq0
returns-then-held-eq0 c = rw (eq-eqb c.args.held 0 c.if-held-eq0.true)

pub returns : goal.returns
returns c = rw (ne_eqb c.args.held 0 c.if-held-eq0.false)
