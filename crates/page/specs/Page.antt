-- The activity page: a report laid out on pages of 60 lines. Document 02, S-2. 12 and then 11 refuse it, tested in this order; a refusal changes no byte.
-- Assumes nothing.
use Rattle.std.specs.Prelude.{List, [], ◌∷◌, ◌++◌, ℕ, zero, suc, ◌+◌, ◌-◌, ◌*◌, ◌/◌, leb, length, drop}
use Rattle.text.specs.Byte.{Bytes}
use Rattle.lines.specs.Text.{rows}
use Rattle.report.specs.Outcome.{Outcome, passed, require, ◌>>=◌, ◌>>◌}
use Rattle.report.specs.Refusal.{short_pages, too_many_pages}
use Rattle.report.specs.declared.Entry.{Entry}
use Rattle.pagetext.specs.Line.{line_size, entry_line, heading, blank}

-- a page has a heading, a line of spaces, and so many places for entries
abbrev pub per_page : ℕ
per_page = 58

abbrev pub lines_per_page : ℕ
lines_per_page = 2 + per_page

abbrev pub page_size : ℕ
page_size = lines_per_page * line_size

-- in a place stands the line of the first of these entries, or spaces where there is none
abbrev pub place_of : List Entry → Bytes
place_of [] = blank
place_of (e ∷ es) = entry_line e

-- so many places, one for each entry, in order
unfoldable pub places : ℕ → List Entry → List Bytes
places zero es = []
places (suc n) es = places n es ++ place_of (drop n es) ∷ []

-- the page of a number, for these entries from the first on
unfoldable pub page_of : ℕ → List Entry → List Bytes
page_of number es = heading number ∷ blank ∷ places per_page es

-- the first n pages of a report
unfoldable pub first_pages : ℕ → List Entry → List Bytes
first_pages zero es = []
first_pages (suc n) es = first_pages n es ++ page_of (suc n) (drop (n * per_page) es)

-- how many pages so many entries take; no entry takes none
abbrev pub pages_for : ℕ → ℕ
pages_for n = (n + (per_page - 1)) / per_page

abbrev pub most_pages : ℕ
most_pages = 99999

-- the pages of a report, an LF behind each line
unfoldable pub pages_text : List Entry → Bytes
pages_text es = rows (first_pages (pages_for (length es)) es)

-- what the call answers: how many pages it wrote, or why it is refused, by the output's length
unfoldable pub pages_in : List Entry → ℕ → Outcome ℕ
pages_in es room = do
  require (leb (pages_for (length es)) most_pages) too_many_pages
  require (leb (length (pages_text es)) room) short_pages
  passed (pages_for (length es))

-- what it puts out
unfoldable pub paged : List Entry → ℕ → Outcome Bytes
paged es room = do
  pages ← pages_in es room
  passed (pages_text es)
