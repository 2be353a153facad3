-- A report of entries, and one of words, five an entry: what it has behind so many, and entries put into it.
-- Assumes nothing.
use Rattle.std.specs.Prelude.{List, ◌++◌, ℕ, ◌+◌, ◌*◌, length, take, drop}
use Rattle.report.specs.Words.{per_entry}
use Rattle.report.specs.declared.Entry.{Entry}
use Rattle.cell.specs.Layout.{Words}

-- of entries
abbrev pub left : ℕ → List Entry → List Entry
left n report = drop n report

-- of words
abbrev pub words_left : ℕ → Words → Words
words_left n w = drop (n * per_entry) w

-- entries put into a report from a place on
unfoldable pub pasted : List Entry → ℕ → List Entry → List Entry
pasted report at es = take at report ++ es ++ drop (at + length es) report
