-- The widths of a line's columns.
-- Assumes nothing.
use mathlib.Core.Path.{◌≡◌, refl, ◌∙◌}
use mathlib.Core.List.{◌++◌}
use mathlib.Core.Bool.{Bool, true, false, cond}
use Prim.Native.Nat.{ℕ, ◌-◌, ◌≤◌}
use Prim.Native.Char.{code}
use native.Mathlib.Omega.{arith}
use lib.Dec.{ltb}
use lib.ListN.{length, length-append, length-replicate, replicate}
use borrow.Author.Tests.{ltb-false}
use Rattle.text.specs.Byte.{Bytes}
use Rattle.digits.specs.Decimal.{decimal}
use Rattle.padded.specs.Padding.{space, pad}
use Rattle.pagetext.specs.Line.{right}

pub right_length : (width n : ℕ) → length (right width n) ≡ width
unfolding right
right_length width n = by_test (ltb width (length (decimal n))) refl
  where
    by_test : (t : Bool) → ltb width (length (decimal n)) ≡ t
        → length (cond t (replicate width (code "*")) (replicate (width - length (decimal n)) space ++ decimal n)) ≡ width
    by_test true e = length-replicate width (code "*")
    by_test false e =
        length-append (replicate (width - length (decimal n)) space) (decimal n)
        ∙ omega (arith, length-replicate (width - length (decimal n)) space, ltb-false width (length (decimal n)) e)

pub pad_length : (width : ℕ) (s : Bytes) → length s ≤ width → length (pad width s) ≡ width
unfolding pad
pad_length width s h = length-append s (replicate (width - length s) space) ∙ omega (arith, length-replicate (width - length s) space)
