-- Where a line of a piece ends.
-- Assumes nothing.
use Rattle.std.specs.Prelude.{◌≡◌, [], ℕ, ◌+◌, ◌-◌, ◌<◌, ◌≤◌, length, take, drop, get_or, Option, MatchOption}
use Rattle.text.specs.Byte.{Bytes}
use Rattle.lines.specs.Line.{LF, NoLf, drop_cr}

-- the bytes of a piece from one place to another
abbrev pub between : ℕ → ℕ → Bytes → Bytes
between at end piece = take (end - at) (drop at piece)

-- no LF from one place to another
pub record NoneTo (piece : Bytes) (at end : ℕ) : Type 0 where
  pub behind : at ≤ end
  pub within : end ≤ length piece
  pub clean : NoLf (between at end piece)

-- and there is one, or the piece ends
pub record LineEnd (piece : Bytes) (at end : ℕ) : Type 0 where
  pub none : NoneTo piece at end
  pub ends : end < length piece → get_or piece end 0 ≡ LF

-- the place of the first LF at or behind a place, or that there is none
abbrev pub EndIn : Bytes → ℕ → Option ℕ → Type 0
EndIn piece at r = MatchOption r (NoneTo piece at (length piece)) (λ end. (end < length piece) × LineEnd piece at end)

-- a line at a place, of so many bytes with its LF
pub record LineAt (piece : Bytes) (at size : ℕ) : Type 0 where
  pub some : 0 < size
  pub within : at + size ≤ length piece
  pub ends : get_or piece (at + (size - 1)) 0 ≡ LF
  pub clean : NoLf (between at (at + (size - 1)) piece)

-- an empty one: an LF, or a CR and an LF
pub record EmptyAt (piece : Bytes) (at size : ℕ) : Type 0 where
  pub line : LineAt piece at size
  pub empty : drop_cr (between at (at + (size - 1)) piece) ≡ []
