-- The lines of the activity page, of 80 bytes each. Document 02, S-2.
-- Assumes nothing.
use Rattle.std.specs.Prelude.{◌++◌, cond, ℕ, ◌+◌, ◌-◌, ltb, length, replicate}
use Prim.Native.Char.{code}
use Rattle.text.specs.Byte.{Bytes, ascii}
use Rattle.text.specs.Number.{digits_of}
use Rattle.digits.specs.Decimal.{decimal}
use Rattle.padded.specs.Padding.{space, pad}
use Rattle.report.specs.declared.Entry.{Entry}
use Rattle.pagetext.specs.Texts.{text_of}

-- the columns of an entry's line
abbrev pub first_width : ℕ
first_width = 10

abbrev pub verdict_width : ℕ
verdict_width = 4

abbrev pub at_width : ℕ
at_width = 10

abbrev pub meter_width : ℕ
meter_width = 6

abbrev pub day_width : ℕ
day_width = 10

abbrev pub text_width : ℕ
text_width = 40

abbrev pub line_width : ℕ
line_width = first_width + verdict_width + at_width + meter_width + day_width + text_width

-- a line and its LF
abbrev pub line_size : ℕ
line_size = line_width + 1

-- a number, right-aligned with spaces; one too wide for its column fills it with asterisks
unfoldable pub right : ℕ → ℕ → Bytes
right width n = cond (ltb width (length (decimal n))) (replicate width (code "*")) (replicate (width - length (decimal n)) space ++ decimal n)

-- an entry's columns; the verdict's text is left-aligned, and an unknown verdict has spaces
unfoldable pub entry_line : Entry → Bytes
entry_line e =
    right first_width e.first ++ right verdict_width e.verdict ++ right at_width e.at ++ right meter_width e.meter ++ right day_width e.day
    ++ pad text_width (text_of e.verdict)

-- `PAGE`, a space, the page number of 5 digits, then spaces
abbrev pub number_size : ℕ
number_size = 5

unfoldable pub heading : ℕ → Bytes
heading number = pad line_width (ascii "PAGE " ++ digits_of number_size number)

-- a line of spaces
abbrev pub blank : Bytes
blank = replicate line_width space
