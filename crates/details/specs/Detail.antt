-- The detail row: code, then four times value, status, empty; the last field is empty. Document 01, "Rows".
-- Assumes nothing.
use Rattle.std.specs.Prelude.{List, [], ◌∷◌, ◌++◌, Bool, true, false, cond, ℕ}
use Rattle.text.specs.Byte.{Bytes, ascii, equals, is_empty}
use Rattle.text.specs.Number.{digits_of}
use Rattle.lines.specs.Line.{Line, detail_bytes}
use Rattle.report.specs.Outcome.{Outcome, passed, refused, require, ◌>>=◌, ◌>>◌}
use Rattle.lines.specs.Row.{fields_of, ◌!◌}
use Rattle.report.specs.Verdict.{misfit, wrong_status}
use Rattle.details.specs.Value.{value_of}
use Rattle.details.specs.declared.detail.Interval.{Interval}

-- the intervals of a detail row
abbrev pub per_row : ℕ
per_row = 4

-- `10000000` upward: row k, from 0
abbrev pub detail_code : ℕ → Bytes
detail_code k = detail_bytes ++ digits_of 2 k

-- whether estimated: `A` is not, `E` is
unfoldable pub status_of : Bytes → Outcome Bool
status_of f = cond (equals f (ascii "A")) (passed false) (cond (equals f (ascii "E")) (passed true) (refused wrong_status))

-- an interval whose value and status are read; the field behind them must be empty
unfoldable pub with_empty : ℕ → Bool → Bytes → Outcome Interval
with_empty n estimated empty = do
  require (is_empty empty) misfit
  passed (record { wh = n; estimated = estimated })

-- value, status, empty
unfoldable pub interval_of : Bytes → Bytes → Bytes → Outcome Interval
interval_of value status empty = do
  n ← value_of value
  estimated ← status_of status
  with_empty n estimated empty

-- four intervals, from left to right, and the last field
unfoldable pub four_of : Outcome Interval → Outcome Interval → Outcome Interval → Outcome Interval → Bool → Outcome (List Interval)
four_of first second third fourth empty = do
  a ← first
  b ← second
  c ← third
  d ← fourth
  require empty misfit
  passed (a ∷ b ∷ c ∷ d ∷ [])

unfoldable pub detail_of : List Bytes → Outcome (List Interval)
detail_of fields =
    four_of (interval_of (fields ! 2) (fields ! 3) (fields ! 4)) (interval_of (fields ! 5) (fields ! 6) (fields ! 7))
    (interval_of (fields ! 8) (fields ! 9) (fields ! 10)) (interval_of (fields ! 11) (fields ! 12) (fields ! 13))
    (is_empty (fields ! 14))

-- detail row k, from 0
unfoldable pub row_detail : ℕ → Line → Outcome (List Interval)
row_detail k line = do
  fields ← fields_of (detail_code k) 14 line
  detail_of fields
