-- Bools: what `&&` and `||` say of their parts.
-- Assumes nothing.
use mathlib.Core.Path.{◌≡◌, refl, sym}
use mathlib.Core.List.{List, [], ◌∷◌}
use mathlib.Core.Bool.{Bool, true, false, not, ◌&&◌, ◌||◌}
use Prim.Native.Nat.{ℕ, zero, suc}
use native.Mathlib.Omega.{arith}
use lib.Dec.{leb, ltb}
use lib.ListN.{get_or}
use borrow.Author.Tests.{lt-ltb, le-ltb, leb-true, leb-false}

pub apart : ◌≡◌ {A = Bool} false true → ⊥
apart e = let z : ◌≡◌ {A = ℕ} 0 1 = cc in omega arith

pub and_left : (a b : Bool) → (a && b) ≡ true → a ≡ true
and_left true b h = refl
and_left false b h = h

pub and_right : (a b : Bool) → (a && b) ≡ true → b ≡ true
and_right true b h = h
and_right false b h = absurd (apart h)

pub and_both : (a b : Bool) → a ≡ true → b ≡ true → (a && b) ≡ true
and_both a b h g = rw (h, g)

-- many joined, as `a && b && c`: each of them, counted from 0
abbrev pub joined_by : Bool → List Bool → Bool
joined_by a [] = a
joined_by a (b ∷ bs) = joined_by (a && b) bs

pub and_each : (a : Bool) (bs : List Bool) → joined_by a bs ≡ true → (k : ℕ) → get_or (a ∷ bs) k true ≡ true
and_each a [] h zero = h
and_each a [] h (suc k) = refl
and_each a (b ∷ bs) h zero = and_left a b (and_each (a && b) bs h zero)
and_each a (b ∷ bs) h (suc zero) = and_right a b (and_each (a && b) bs h zero)
and_each a (b ∷ bs) h (suc (suc k)) = and_each (a && b) bs h (suc k)

-- what fits, as the code tests it and as a definition does
pub fits-tested : (a b : ℕ) → leb a b ≡ not (ltb b a)
fits-tested a b = by_test (leb a b) refl
  where
    by_test : (t : Bool) → leb a b ≡ t → t ≡ not (ltb b a)
    by_test true e = rw (le-ltb b a (leb-true a b e))
    by_test false e = rw (lt-ltb b a (leb-false a b e))

pub or_right : (a b : Bool) → (a || b) ≡ true → a ≡ false → b ≡ true
or_right true b h e = absurd (apart (sym e))
or_right false b h e = h

pub or_no_left : (a b : Bool) → (a || b) ≡ false → a ≡ false
or_no_left true b h = absurd (apart (sym h))
or_no_left false b h = refl

pub or_no_right : (a b : Bool) → (a || b) ≡ false → b ≡ false
or_no_right true b h = absurd (apart (sym h))
or_no_right false b h = h
