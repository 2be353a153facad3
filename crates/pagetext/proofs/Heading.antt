-- A page's heading, put over a line of spaces.
-- Assumes nothing.
use mathlib.Core.Path.{◌≡◌, refl, ◌∙◌}
use mathlib.Core.List.{◌++◌}
use Prim.Native.Nat.{ℕ}
use lib.ListN.{length, take, drop}
use borrow.Rule.Slice.PartMut.{put_mid}
use Rattle.text.specs.Byte.{Bytes, ascii}
use Rattle.text.specs.Number.{digits_of}
use Rattle.padded.specs.Padding.{pad}
use Rattle.lines.specs.Text.{row}
use Rattle.pagetext.specs.Line.{number_size, heading, blank}

pub heading_put : (n : ℕ) (word line digits : Bytes) → word ≡ ascii "PAGE " → line ≡ row blank
    → digits ≡ digits_of (length (take number_size (drop 5 (word ++ drop 5 line)))) n → put_mid 5 number_size (word ++ drop 5 line) digits ≡ row (heading n)
unfolding heading pad digits_of
heading_put n word line digits e f g =
    let put : digits ≡ digits_of number_size n = g ∙ rw (e, f) refl in
    rw (e, f, put) refl
