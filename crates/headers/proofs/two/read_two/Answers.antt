-- `headers::two::read_two` meets its contract.
-- Assumes nothing.
use mathlib.Core.Path.{◌∙◌}
use Rattle.report.proofs.Passing.{says-exit}
use Rattle.lines.proofs.Begin.{fields_cut, fields_counted}
use Rattle.headers.specs.Two.{two_of, row_two}
use Rattle.headers.proofs.two.read_two.Goals as goal

pub returns-in_err-fields : goal.returns-in_err-fields
unfolding row_two
returns-in_err-fields c = says-exit _ _ c.from_residual.ensures.1 ∙ rw (← c.in_err-fields.ensures)

pub has_multiplier-requires : goal.has_multiplier-requires
has_multiplier-requires c = rw (fields_cut _ _ _ _ c.in_ok-fields.ensures) (fields_counted _ _ _ _ c.in_ok-fields.ensures)

pub returns : goal.returns
unfolding row_two two_of
returns c =
    rw (← c.in_ok-fields.ensures, ← c.fit_all.ensures, ← fields_cut _ _ _ _ c.in_ok-fields.ensures, ← c.has_multiplier.ensures) c.require.ensures
