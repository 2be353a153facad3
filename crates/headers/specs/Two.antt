-- Row two: fourteen fields, each of a form. Document 01, "Rows".
-- Assumes nothing.
use Rattle.std.specs.Prelude.{List, [], ◌∷◌, Bool, true, false, not, ◌&&◌, ◌||◌, ℕ, eqb, leb, length}
use Prim.Native.Char.{code}
use Rattle.text.specs.Byte.{Bytes, ascii, is_digit, is_empty, every, equals}
use Rattle.text.specs.Number.{number, leading, behind}
use Rattle.lines.specs.Line.{Line}
use Rattle.report.specs.Outcome.{Outcome, require, ◌>>=◌}
use Rattle.lines.specs.Row.{fields_of, ◌!◌}
use Rattle.report.specs.Verdict.{misfit}
use Rattle.headers.specs.declared.two.Form.{Form}
use Rattle.headers.specs.declared.two.Form.TheVariants.{Code, Decimal, Empty, Seconds, Unit as UnitForm, UnitCode, ZoneCount, ZoneName}

-- a decimal: 1 to 15 digits, optionally a point and 1 to 4 digits
unfoldable pub decimal_parts : Bytes → Bytes → Bool
decimal_parts whole [] = leb 1 (length whole) && leb (length whole) 15
decimal_parts whole (b ∷ part) =
    leb 1 (length whole) && leb (length whole) 15 && eqb b (code ".") && every is_digit part && leb 1 (length part) && leb (length part) 4

unfoldable pub is_decimal : Bytes → Bool
is_decimal f = decimal_parts (leading f) (behind f)

-- 1 to n digits
unfoldable pub up_to_digits : ℕ → Bytes → Bool
up_to_digits n f = leb 1 (length f) && leb (length f) n && every is_digit f

-- 1 to 4 digits, not zero
abbrev pub is_unit_code : Bytes → Bool
is_unit_code f = up_to_digits 4 f && not (eqb (number f) 0)

-- 1 to 2 digits up to 47
abbrev pub is_zone_count : Bytes → Bool
is_zone_count f = up_to_digits 2 f && leb (number f) 47

-- `Code` is the row's code, which 13 has tested
unfoldable pub fits_form : Form → Bytes → Bool
fits_form Code f = true
fits_form Decimal f = is_empty f || is_decimal f
fits_form Empty f = is_empty f
fits_form Seconds f = equals f (ascii "900")
fits_form UnitForm f = equals f (ascii "01")
fits_form UnitCode f = is_empty f || is_unit_code f
fits_form ZoneCount f = is_empty f || equals f (ascii "-1") || is_zone_count f
fits_form ZoneName f = equals f (ascii "CST")

-- the forms of fields 1 to 14
abbrev pub row_two_forms : List Form
row_two_forms =
    Code ∷ Decimal ∷ Decimal ∷ Decimal ∷ Empty ∷ Decimal ∷ Empty ∷ Seconds ∷ UnitForm ∷ UnitCode ∷ ZoneCount ∷ Decimal ∷ Decimal ∷ ZoneName ∷ []

-- field for field
unfoldable pub fit_all : List Form → List Bytes → Bool
fit_all [] [] = true
fit_all [] (f ∷ fields) = false
fit_all (form ∷ forms) [] = false
fit_all (form ∷ forms) (f ∷ fields) = fits_form form f && fit_all forms fields

-- field 4 may not be empty if 2 and 3 are both filled
abbrev pub has_multiplier : List Bytes → Bool
has_multiplier fields = is_empty (fields ! 2) || is_empty (fields ! 3) || not (is_empty (fields ! 4))

unfoldable pub two_of : List Bytes → Outcome (Unit {0})
two_of fields = require (fit_all row_two_forms fields && has_multiplier fields) misfit

unfoldable pub row_two : Line → Outcome (Unit {0})
row_two line = do
  fields ← fields_of (ascii "00000002") 14 line
  two_of fields
