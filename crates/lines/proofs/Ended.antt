-- The line that an LF ends, where the bytes before it have no CR, and where a CR is the last of them.
-- Assumes nothing.
use mathlib.Core.Path.{◌≡◌, refl, ap}
use mathlib.Core.List.{[], ◌∷◌, ◌++◌}
use mathlib.Core.Bool.{Bool, true, false, not}
use Prim.Native.Nat.{ℕ}
use lib.Dec.{eqb}
use borrow.Author.Tests.{not-true}
use Rattle.text.specs.Byte.{Bytes, every}
use Rattle.text.proofs.Truth.{and_left, and_right}
use Rattle.lines.specs.Line.{CR, ends_with_cr, drop_cr, ended_line}

abbrev pub not_cr : ℕ → Bool
not_cr b = not (eqb b CR)

ends-plain : (s : Bytes) → every not_cr s ≡ true → ends_with_cr s ≡ false
unfolding ends_with_cr every
ends-plain [] h = refl
ends-plain (b ∷ []) h = not-true (eqb b CR) (and_left (not_cr b) true h)
ends-plain (b ∷ (c ∷ s)) h = ends-plain (c ∷ s) (and_right (not_cr b) (every not_cr (c ∷ s)) h)

drop-plain : (s : Bytes) → every not_cr s ≡ true → drop_cr s ≡ s
unfolding drop_cr every
drop-plain [] h = refl
drop-plain (b ∷ []) h = rw (not-true (eqb b CR) (and_left (not_cr b) true h))
drop-plain (b ∷ (c ∷ s)) h = ap (λ r. b ∷ r) (drop-plain (c ∷ s) (and_right (not_cr b) (every not_cr (c ∷ s)) h))

pub ended-plain : (s : Bytes) → every not_cr s ≡ true → ended_line s ≡ record { body = s; cr = false }
unfolding ended_line
ended-plain s h = rw (drop-plain s h, ends-plain s h)

ends-cr : (s : Bytes) → ends_with_cr (s ++ CR ∷ []) ≡ true
unfolding ends_with_cr
ends-cr [] = refl
ends-cr (b ∷ []) = refl
ends-cr (b ∷ (c ∷ s)) = ends-cr (c ∷ s)

drop-cr : (s : Bytes) → drop_cr (s ++ CR ∷ []) ≡ s
unfolding drop_cr
drop-cr [] = refl
drop-cr (b ∷ []) = refl
drop-cr (b ∷ (c ∷ s)) = ap (λ r. b ∷ r) (drop-cr (c ∷ s))

pub ended-cr : (s : Bytes) → ended_line (s ++ CR ∷ []) ≡ record { body = s; cr = true }
unfolding ended_line
ended-cr s = rw (drop-cr s, ends-cr s)
