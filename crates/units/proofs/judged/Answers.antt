-- `units::judged` meets its contract.
-- Assumes nothing.
use Rattle.units.proofs.Kept.{quiet-reads, kept-reads, says-complete}
use Rattle.units.proofs.judged.Goals as goal

pub returns-then-not-all : goal.returns-then-not-all
returns-then-not-all c = rw (c.if-not-all.true, c.quiet.ensures) (quiet-reads _)

pub returns-in_default : goal.returns-in_default
returns-in_default c = rw (c.if-not-all.false, c.quiet-in_default.ensures) (kept-reads _ _ _ _ c.in_default.not-Takes)

pub returns : goal.returns
returns c = rw (c.if-not-all.false, c.in-Takes.is, ← c.check.ensures, ← says-complete c.check.result c.map-row.result c.map-row.ensures.cases _ _) (c.settle.ensures _)
