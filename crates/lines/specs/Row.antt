-- What every row tests first: 11, 13, 14. Document 01, "What a call returns".
-- Assumes nothing.
use Rattle.std.specs.Prelude.{List, [], not, ℕ, ◌-◌, eqb, length, get_or}
use Rattle.text.specs.Byte.{Bytes, equals}
use Rattle.text.specs.Field.{cut}
use Rattle.lines.specs.Line.{Line, is_long}
use Rattle.report.specs.Outcome.{Outcome, passed, require, ◌>>◌}
use Rattle.report.specs.Verdict.{long, wrong_code, wrong_count}

-- field n of a row, counted from 1 as document 01 does
infixl 30 ◌!◌
abbrev pub ◌!◌ : List Bytes → ℕ → Bytes
fields ! n = get_or fields (n - 1) []

-- the fields of a row whose code is due and which has n of them
unfoldable pub fields_of : Bytes → ℕ → Line → Outcome (List Bytes)
fields_of code n line = do
  require (not (is_long line)) long
  require (equals (cut line.body ! 1) code) wrong_code
  require (eqb (length (cut line.body)) n) wrong_count
  passed (cut line.body)
