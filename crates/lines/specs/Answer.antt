-- A line as the readers take it.
-- Assumes nothing.
use Rattle.std.specs.Prelude.{Bool}
use Rattle.text.specs.Byte.{Bytes}
use Rattle.lines.specs.Line.{Line}
use Rattle.lines.specs.declared.line.Line.{Line as ReadLine}

-- the line that a reader takes
abbrev pub line_of : ReadLine → Line
line_of l = record { body = l.body.now; cr = l.cr }

-- a line by its bytes without the CR, and by whether it had one
abbrev pub line_with : Bytes → Bool → Line
line_with body cr = record { body = body; cr = cr }
