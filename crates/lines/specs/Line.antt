-- Lines: the CR that is dropped, long lines, openers and detail lines. Document 01, "Lines and data records".
-- Assumes nothing.
use Rattle.std.specs.Prelude.{◌≡◌, [], ◌∷◌, Bool, true, false, cond, not, ℕ, ◌+◌, eqb, ltb, length}
use Rattle.text.specs.Byte.{Bytes, ascii, every, starts_with}
use Rattle.lines.specs.declared.line.Kind.{Kind}
use Rattle.lines.specs.declared.line.Kind.TheVariants.{Empty, Opener, Detail, Other}

abbrev pub LF : ℕ
LF = 10

abbrev pub CR : ℕ
CR = 13

-- bytes among which no LF is
abbrev pub not_lf : ℕ → Bool
not_lf b = not (eqb b LF)

abbrev pub NoLf : Bytes → Type 0
NoLf s = every not_lf s ≡ true

-- A line without its LF, and without the one CR directly before it; `cr` says whether that CR was there.
pub record Line : Type 0 where
  pub body : Bytes
  pub cr : Bool

unfoldable pub ends_with_cr : Bytes → Bool
ends_with_cr [] = false
ends_with_cr (b ∷ []) = eqb b CR
ends_with_cr (b ∷ (c ∷ s)) = ends_with_cr (c ∷ s)

unfoldable pub drop_cr : Bytes → Bytes
drop_cr [] = []
drop_cr (b ∷ []) = cond (eqb b CR) [] (b ∷ [])
drop_cr (b ∷ (c ∷ s)) = b ∷ drop_cr (c ∷ s)

-- the line that an LF ends, from the bytes before that LF
unfoldable pub ended_line : Bytes → Line
ended_line s = record { body = drop_cr s; cr = ends_with_cr s }

-- the line that finish reads: there is no LF, so no CR is dropped
unfoldable pub last_line : Bytes → Line
last_line s = record { body = s; cr = false }

abbrev pub line_limit : ℕ
line_limit = 200

-- as many bytes of a line tell its kind, and that it is long
abbrev pub kept_limit : ℕ
kept_limit = line_limit + 1

abbrev pub cr_size : Bool → ℕ
cr_size true = 1
cr_size false = 0

-- document 01's "long": more than 200 bytes, CR included, LF not
unfoldable pub is_long : Line → Bool
is_long l = ltb line_limit (length l.body + cr_size l.cr)

-- document 01's "opener" begins with the eight bytes `00000001`, its "detail line" with the six bytes `100000`
abbrev pub opener_bytes : Bytes
opener_bytes = ascii "00000001"

abbrev pub detail_bytes : Bytes
detail_bytes = ascii "100000"

unfoldable pub kind_of : Bytes → Kind
kind_of [] = Empty
kind_of (b ∷ s) = cond (starts_with opener_bytes (b ∷ s)) Opener (cond (starts_with detail_bytes (b ∷ s)) Detail Other)
