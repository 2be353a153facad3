-- Where everything stands on the pages of a report: each entry on exactly one page, in report order. Document 02, S-2.
-- Assumes nothing.
use Rattle.std.specs.Prelude.{◌≡◌, List, ℕ, ◌+◌, ◌*◌, ◌<◌, ◌≤◌, length, take, drop, get_or}
use Rattle.text.specs.Byte.{Bytes}
use Rattle.lines.specs.Line.{LF}
use Rattle.report.specs.declared.Entry.{Entry}
use Rattle.pagetext.specs.Line.{line_width, line_size, heading, blank}
use Rattle.page.specs.Page.{per_page, lines_per_page, page_size, place_of}

-- line n of the output, from 0, without its LF
abbrev pub line_at : ℕ → Bytes → Bytes
line_at n output = take line_width (drop (n * line_size) output)

-- Page p, from 0, has its heading, a line of spaces, and then places. Place i of page p has the line of entry p × 58 + i, or spaces where the report has none.
pub record Laid (es : List Entry) (pages : ℕ) (before after : Bytes) : Type 0 where
  pub heads : (p : ℕ) → p < pages → line_at (p * lines_per_page) after ≡ heading (p + 1)
  pub below : (p : ℕ) → p < pages → line_at (p * lines_per_page + 1) after ≡ blank
  pub places : (p i : ℕ) → p < pages → i < per_page → line_at (p * lines_per_page + 2 + i) after ≡ place_of (drop (p * per_page + i) es)
  pub ends : (n : ℕ) → n < pages * lines_per_page → get_or after (n * line_size + line_width) 0 ≡ LF
  -- every entry has a place, and no page is without one
  pub enough : length es ≤ pages * per_page
  pub fewest : pages * per_page < length es + per_page
  pub rest : drop (pages * page_size) after ≡ drop (pages * page_size) before
