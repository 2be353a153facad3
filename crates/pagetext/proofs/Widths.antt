-- Each line is of 80 bytes, and so of 81 with its LF.
-- Assumes nothing.
use mathlib.Core.Path.{◌≡◌, ◌∙◌}
use mathlib.Core.List.{[], ◌∷◌, ◌++◌}
use Prim.Native.Nat.{ℕ}
use native.Mathlib.Omega.{arith}
use lib.ListN.{length, length-append, length-replicate}
use Rattle.text.specs.Byte.{Bytes, ascii}
use Rattle.text.specs.Number.{digits_of}
use Rattle.text.proofs.DigitsOf.{digits-length}
use Rattle.padded.specs.Padding.{space}
use Rattle.lines.specs.Line.{LF}
use Rattle.lines.specs.Text.{row}
use Rattle.report.specs.declared.Entry.{Entry}
use Rattle.pagetext.specs.Line.{line_width, line_size, number_size, entry_line, heading, blank}
use Rattle.pagetext.proofs.Lines.{right_length, pad_length}
use Rattle.pagetext.proofs.Texts.{said_length}

pub entry_width : (e : Entry) → length (entry_line e) ≡ line_width
unfolding entry_line
entry_width e = simp (length-append, right_length, said_length) (omega arith)

pub heading_width : (n : ℕ) → length (heading n) ≡ line_width
unfolding heading
heading_width n =
    let l : length (ascii "PAGE " ++ digits_of number_size n) ≡ 10 = length-append (ascii "PAGE ") (digits_of number_size n) ∙ omega (arith, digits-length number_size n) in
    pad_length line_width (ascii "PAGE " ++ digits_of number_size n) (omega (arith, l))

pub blank_width : length blank ≡ line_width
blank_width = length-replicate line_width space

row_size : (line : Bytes) → length line ≡ line_width → length (row line) ≡ line_size
row_size line h = length-append line (LF ∷ []) ∙ omega (arith, h)

pub entry_size : (e : Entry) → length (row (entry_line e)) ≡ line_size
entry_size e = row_size (entry_line e) (entry_width e)

pub heading_size : (n : ℕ) → length (row (heading n)) ≡ line_size
heading_size n = row_size (heading n) (heading_width n)

pub blank_size : length (row blank) ≡ line_size
blank_size = row_size blank blank_width
