-- `headers::three::read_three` meets its contract.
-- Assumes nothing.
use mathlib.Core.Path.{◌∙◌}
use Rattle.report.proofs.Passing.{says-exit}
use Rattle.headers.specs.Three.{row_three}
use Rattle.headers.proofs.three.read_three.Goals as goal

pub returns-in_err-fields : goal.returns-in_err-fields
unfolding row_three
returns-in_err-fields c = says-exit _ _ c.from_residual.ensures.1 ∙ rw (← c.in_err-fields.ensures)

pub returns : goal.returns
unfolding row_three
returns c = rw (← c.in_ok-fields.ensures, c.next.ensures.taken, c.next-2.ensures.taken, ← c.is_descriptor.ensures) c.require.ensures
