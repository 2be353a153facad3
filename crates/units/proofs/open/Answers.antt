-- `units::open` meets its contract.
-- Assumes nothing.
use Rattle.units.proofs.Kept.{says-begun}
use Rattle.units.proofs.open.Goals as goal

pub returns : goal.returns
returns c = rw (← c.row_one.ensures, ← says-begun c.row_one.result c.map.result c.map_err-row.result c.map.ensures.cases c.map_err-row.ensures.cases _ _) (c.settle.ensures _)
