-- Row four: the read's timestamp and its origin, `M`. Document 01, "Rows".
-- Assumes nothing.
use Rattle.std.specs.Prelude.{List}
use Rattle.text.specs.Byte.{Bytes, ascii, equals}
use Rattle.lines.specs.Line.{Line}
use Rattle.report.specs.Outcome.{Outcome, passed, require, ◌>>=◌, ◌>>◌}
use Rattle.lines.specs.Row.{fields_of, ◌!◌}
use Rattle.report.specs.Verdict.{misfit}
use Rattle.headers.specs.Time.{stamp_of}
use Rattle.headers.specs.declared.time.Stamp.{Stamp}

unfoldable pub four_of : List Bytes → Outcome Stamp
four_of fields = do
  stamp ← stamp_of (fields ! 2)
  require (equals (fields ! 3) (ascii "M")) misfit
  passed stamp

unfoldable pub row_four : Line → Outcome Stamp
row_four line = do
  fields ← fields_of (ascii "00000004") 3 line
  four_of fields
