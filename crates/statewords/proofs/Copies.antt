-- Words as bytes and bytes as words, put one by one.
-- Assumes nothing.
use mathlib.Core.Path.{◌≡◌, refl, sym, ◌∙◌}
use mathlib.Core.List.{[], ◌∷◌}
use Prim.Native.Nat.{ℕ, suc, ◌+◌, ◌%◌, ◌<◌, ◌≤◌}
use native.Mathlib.Nat.{mod-eq_of_lt}
use native.Mathlib.Numerals.{add-one}
use native.Mathlib.Omega.{arith}
use lib.ListN.{length, get_or, set, take, length-map, length-set, get_or-map}
use lib.Seq.{take-suc, take-suc-set, take_all}
use Rattle.text.specs.Byte.{Bytes}
use Rattle.cell.specs.Layout.{Words}
use Rattle.statewords.specs.Layout.{byte_in, bytes_in}

bytes-length : (ws : Words) → length (bytes_in ws) ≡ length ws
unfolding bytes_in
bytes-length ws = length-map ws byte_in

byte_at : (ws : Words) (i : ℕ) → get_or ws i 0 % 256 ≡ get_or (bytes_in ws) i 0
unfolding bytes_in
byte_at ws i = sym (get_or-map byte_in ws i 0)

-- one of two runs of equal length, put into the other one by one
module _ (to from : Words) (i : ℕ) (inv : take i to ≡ take i from) (l : length to ≡ length from) where
  pub put_again : i < length to → take (i + 1) (set to i (get_or from i 0)) ≡ take (i + 1) from
  put_again h = rw (add-one, take-suc-set to i (get_or from i 0) h, inv) (sym (take-suc from i 0 (omega arith)))

  pub put_end : length to ≤ i → to ≡ from
  put_end h = sym (take_all i to h) ∙ inv ∙ take_all i from (omega arith)

-- words as bytes
module _ (to : Bytes) (from : Words) (i : ℕ) (inv : (take i to ≡ take i (bytes_in from)) × (length to ≡ length from)) where
  same-length : length to ≡ length (bytes_in from)
  same-length = inv.1 ∙ sym (bytes-length from)

  abbrev next : Bytes
  next = set to i (get_or from i 0 % 256)

  pub get_again : i < length from → (take (i + 1) next ≡ take (i + 1) (bytes_in from)) × (length next ≡ length from)
  get_again h =
      (rw (byte_at from i) (put_again to (bytes_in from) i inv.0 same-length (omega (arith, inv.1))), length-set to i (get_or from i 0 % 256) ∙ inv.1)

  pub get_end : length from ≤ i → to ≡ bytes_in from
  get_end h = put_end to (bytes_in from) i inv.0 same-length (omega (arith, inv.1))

-- bytes are what their words are
pub same : (bs : Bytes) → ((i : ℕ) → get_or bs i 0 < 256) → bytes_in bs ≡ bs
unfolding bytes_in
same [] small = refl
same (b ∷ bs) small = rw (mod-eq_of_lt (small 0), same bs (λ i. small (suc i)))
