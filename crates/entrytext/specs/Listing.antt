-- Entries as lines of text: five numbers in decimal, a space between two of them, an LF behind the last.
-- Assumes nothing.
use Rattle.std.specs.Prelude.{List, [], ◌∷◌, ◌++◌, ℕ, zero, suc, ◌+◌, ◌*◌, ◌<◌, ◌≤◌, length}
use Prim.Native.Char.{code}
use Rattle.text.specs.Byte.{Bytes}
use Rattle.lines.specs.Line.{LF}
use Rattle.digits.specs.Put.{Put}
use Rattle.digits.specs.Decimal.{decimal, most_digits}
use Rattle.report.specs.declared.Entry.{Entry}
use Rattle.report.specs.Words.{per_entry, entry_at}
use Rattle.entrytext.specs.declared.Listed.{Listed}

-- a number and the byte behind it, and how wide both are at most
abbrev pub number_then : ℕ → ℕ → Bytes
number_then n b = decimal n ++ (b ∷ [])

abbrev pub widest : ℕ
widest = most_digits + 1

abbrev pub space : ℕ
space = code " "

unfoldable pub line_of : Entry → Bytes
line_of e =
    number_then e.first space ++ number_then e.verdict space ++ number_then e.at space ++ number_then e.meter space
    ++ number_then e.day LF

-- no line is longer
abbrev pub longest : ℕ
longest = per_entry * widest

-- the lines of so many entries of a report's words, from one of them on
unfoldable pub lines_from : List ℕ → ℕ → ℕ → Bytes
lines_from w from zero = []
lines_from w from (suc n) = lines_from w from n ++ line_of (entry_at w (from + n))

-- lines of the entries from one on, up to `count`, put at the front of lent bytes: at least one, if there is one
pub record Lists (w : List ℕ) (from count : ℕ) (before after : Bytes) (r : Listed) : Type 0 where
  pub put : Put before 0 (lines_from w from r.entries) after r.end
  pub within : from + r.entries ≤ count
  pub some : from < count → 0 < r.entries
  pub fits : r.end ≤ length after
