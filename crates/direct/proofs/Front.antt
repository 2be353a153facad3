-- Bytes compared one by one with those that are due: the code at the front of a line.
-- Assumes nothing.
use Rattle.std.proofs.Common.{◌≡◌, ℕ, ◌+◌, ◌≤◌, Bool, true, ◌&&◌, eqb, [], ◌∷◌, ◌++◌, length, get_or, take, drop, refl, arith, eqb-true}
use Rattle.text.specs.Byte.{Bytes}
use Rattle.text.specs.Field.{comma}
use Rattle.text.specs.Number.{digits_of}
use Rattle.text.proofs.Truth.{and_left, and_right}
use Rattle.text.proofs.Left.{left-cons}
use Rattle.details.specs.Detail.{detail_code}
use Rattle.direct.specs.Guess.{code_size}

-- the bytes from i on are those of p: one test each, joined from the left
abbrev tests : Bool → Bytes → ℕ → Bytes → Bool
tests joined t i [] = joined
tests joined t i (c ∷ p) = tests (joined && eqb (get_or t i 0) c) t (i + 1) p

tested : (joined : Bool) (t : Bytes) (i : ℕ) (p : Bytes) → i + length p ≤ length t → tests joined t i p ≡ true → (joined ≡ true) × (take (length p) (drop i t) ≡ p)
tested joined t i [] l h = (h, refl)
tested joined t i (c ∷ p) l h =
    let r = tested (joined && eqb (get_or t i 0) c) t (i + 1) p (omega (arith, l)) h in
    let e : get_or t i 0 ≡ c = eqb-true (get_or t i 0) c (and_right joined (eqb (get_or t i 0) c) r.0) in
    (and_left joined (eqb (get_or t i 0) c) r.0, rw (left-cons t i (omega (arith, l)), e, r.1))

pub begins : (t : Bytes) (k : ℕ) → code_size ≤ length t → tests true t 0 (detail_code k ++ comma ∷ []) ≡ true → take code_size t ≡ detail_code k ++ comma ∷ []
unfolding digits_of
begins t k l h = (tested true t 0 (detail_code k ++ comma ∷ []) l h).1
