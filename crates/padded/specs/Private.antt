-- What this crate's private functions answer. No promise of a public one cites it.
-- Assumes nothing.
use Rattle.std.specs.Prelude.{[], ◌∷◌, Bool, true, not, ◌&&◌, ◌||◌, ℕ}
use Rattle.text.specs.Byte.{Bytes, is_alnum}
use Rattle.padded.specs.Padding.{is_space}

-- a byte of a padded ESI ID
abbrev pub is_padded : ℕ → Bool
is_padded b = is_alnum b || is_space b

-- no space stands before another byte
unfoldable pub spaces_last : Bytes → Bool
spaces_last [] = true
spaces_last (b ∷ []) = true
spaces_last (b ∷ c ∷ s) = (not (is_space b) || is_space c) && spaces_last (c ∷ s)
