-- `registry::comes_after` meets its contract.
-- Assumes nothing.
use Rattle.registry.proofs.Entries.{first-meter}
use Rattle.registry.proofs.comes_after.Goals as goal

pub returns-in_default : goal.returns-in_default
returns-in_default c = first-meter _ _ c.requires.whole _ c.in_default.is
