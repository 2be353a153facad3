-- `runs::skip::is_skipped` meets its contract.
-- Assumes nothing.
use mathlib.Core.Path.{◌∙◌}
use Rattle.runs.proofs.Skipping.{not-opener}
use Rattle.runs.proofs.skip.is_skipped.Goals as goal

pub returns : goal.returns
returns c = rw (← c.without_cr.ensures, ← c.kind_of.ensures) (c.ne.ensures ∙ not-opener _)
