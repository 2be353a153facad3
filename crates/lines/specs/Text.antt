-- Lines put into a text, each with an LF behind it.
-- Assumes nothing.
use Rattle.std.specs.Prelude.{List, [], ◌∷◌, ◌++◌}
use Rattle.text.specs.Byte.{Bytes}
use Rattle.lines.specs.Line.{LF}

-- a line with its LF, and lines each with its own
abbrev pub row : Bytes → Bytes
row line = line ++ LF ∷ []

unfoldable pub rows : List Bytes → Bytes
rows [] = []
rows (line ∷ lines) = row line ++ rows lines
