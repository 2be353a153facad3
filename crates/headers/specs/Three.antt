-- Row three: the descriptor. Document 01, "Rows".
-- Assumes nothing.
use Rattle.text.specs.Byte.{ascii}
use Rattle.text.specs.Identifier.{is_descriptor}
use Rattle.lines.specs.Line.{Line}
use Rattle.report.specs.Outcome.{Outcome, require, ◌>>=◌}
use Rattle.lines.specs.Row.{fields_of, ◌!◌}
use Rattle.report.specs.Verdict.{misfit}

unfoldable pub row_three : Line → Outcome (Unit {0})
row_three line = do
  fields ← fields_of (ascii "00000003") 2 line
  require (is_descriptor (fields ! 2)) misfit
