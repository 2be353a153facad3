-- A text put into lent bytes at a place: no other byte changes.
-- Assumes nothing.
use Rattle.std.specs.Prelude.{◌≡◌, ◌++◌, ℕ, ◌+◌, ◌≤◌, length, take, drop}
use Rattle.text.specs.Byte.{Bytes}

unfoldable pub put_at : Bytes → ℕ → Bytes → Bytes
put_at bytes at text = take at bytes ++ text ++ drop (at + length text) bytes

-- there is room for a text
abbrev pub Room : Bytes → ℕ → Bytes → Type 0
Room bytes at text = at + length text ≤ length bytes

-- a text was put at a place, and `end` is the place behind it
pub record Put (before : Bytes) (at : ℕ) (text : Bytes) (after : Bytes) (end : ℕ) : Type 0 where
  pub behind : end ≡ at + length text
  pub bytes : after ≡ put_at before at text
