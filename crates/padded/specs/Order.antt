-- The order of texts by bytes. Document 01, "Registry and cells".
-- Assumes nothing.
use Rattle.std.specs.Prelude.{Bool}
use Rattle.std.specs.declared.cmp.Ordering.{Ordering}
use Rattle.std.specs.Ordering.{nat_cmp, is_lt}
use Rattle.std.specs.Cmp.Lexicographic.{slice_cmp}
use Rattle.text.specs.Byte.{Bytes}

-- how s stands to t: the first bytes that differ decide, and a text stands behind its own beginnings
unfoldable pub order : Bytes → Bytes → Ordering
order s t = slice_cmp nat_cmp s t

-- s stands before t
abbrev pub below : Bytes → Bytes → Bool
below s t = is_lt (order s t)
