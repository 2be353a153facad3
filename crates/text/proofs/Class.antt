-- Classes of bytes: the scan of a text for a byte outside a class, and the range of a digit.
-- Assumes nothing.
use mathlib.Core.Path.{◌≡◌, refl, sym, ◌∙◌}
use mathlib.Core.List.{List, [], ◌∷◌, ◌++◌}
use mathlib.Core.Bool.{Bool, true, ◌&&◌, and-true, and_assoc}
use Prim.Native.Nat.{ℕ, zero, suc, ◌+◌, ◌-◌, ◌<◌, ◌≤◌}
use native.Mathlib.Omega.{arith}
use native.Mathlib.Numerals.{add-one}
use native.Mathlib.Nat.{not-suc-le-zero, le_of_suc-le-suc}
use lib.Dec.{eqb, leb}
use lib.ListN.{length, take, drop, get_or, drop_of_length-le}
use lib.Seq.{drop-cons}
use borrow.Author.Tests.{ne_eqb, leb-true, le-leb}
use Rattle.text.specs.Byte.{Bytes, is_digit, is_empty, every}
use Rattle.text.proofs.Truth.{and_left, and_right, and_both}

pub digit_low : (b : ℕ) → is_digit b ≡ true → 48 ≤ b
digit_low b h = leb-true 48 b (and_left (leb 48 b) (leb b 57) h)

pub digit-high : (b : ℕ) → is_digit b ≡ true → b ≤ 57
digit-high b h = leb-true b 57 (and_right (leb 48 b) (leb b 57) h)

pub digit_value : (b : ℕ) → is_digit b ≡ true → b - 48 ≤ 9
digit_value b h = omega (arith, digit-high b h)

pub digit_of : (b w : ℕ) → b ≡ 48 + w → w ≤ 9 → is_digit b ≡ true
digit_of b w e h = and_both (leb 48 b) (leb b 57) (le-leb 48 b (omega arith)) (le-leb b 57 (omega arith))

pub empty_test : (f : Bytes) → eqb (length f) 0 ≡ is_empty f
unfolding is_empty
empty_test [] = refl
empty_test (b ∷ f) = ne_eqb (suc (length f)) 0 (λ e. omega (arith, e))

-- at each place
pub every-at : (class : ℕ → Bool) (s : Bytes) (i : ℕ) → every class s ≡ true → i < length s → class (get_or s i 0) ≡ true
unfolding every
every-at class [] i h l = absurd (not-suc-le-zero l)
every-at class (b ∷ s) zero h l = and_left (class b) (every class s) h
every-at class (b ∷ s) (suc i) h l = every-at class s i (and_right (class b) (every class s) h) (le_of_suc-le-suc l)

pub every_from : (class : ℕ → Bool) (s : Bytes) → ((i : ℕ) → i < length s → class (get_or s i 0) ≡ true) → every class s ≡ true
unfolding every
every_from class [] h = refl
every_from class (b ∷ s) h = and_both (class b) (every class s) (h 0 (omega arith)) (every_from class s (λ i l. h (suc i) (omega arith)))

pub digit_at : (s : Bytes) (i : ℕ) → every is_digit s ≡ true → i < length s → is_digit (get_or s i 0) ≡ true
digit_at s i h l = every-at is_digit s i h l

-- parts of a text
pub every_take : (class : ℕ → Bool) (n : ℕ) (s : Bytes) → every class s ≡ true → every class (take n s) ≡ true
unfolding every
every_take class zero s h = refl
every_take class (suc n) [] h = refl
every_take class (suc n) (b ∷ s) h =
    and_both (class b) (every class (take n s)) (and_left (class b) (every class s) h) (every_take class n s (and_right (class b) (every class s) h))

pub every_drop : (class : ℕ → Bool) (n : ℕ) (s : Bytes) → every class s ≡ true → every class (drop n s) ≡ true
unfolding every
every_drop class zero s h = h
every_drop class (suc n) [] h = h
every_drop class (suc n) (b ∷ s) h = every_drop class n s (and_right (class b) (every class s) h)

pub every_append : (class : ℕ → Bool) (a b : Bytes) → every class a ≡ true → every class b ≡ true → every class (a ++ b) ≡ true
unfolding every
every_append class [] b h g = g
every_append class (x ∷ a) b h g =
    and_both (class x) (every class (a ++ b)) (and_left (class x) (every class a) h) (every_append class a b (and_right (class x) (every class a) h) g)

-- one class within another
pub every-wider : (p q : ℕ → Bool) → ((b : ℕ) → p b ≡ true → q b ≡ true) → (s : Bytes) → every p s ≡ true → every q s ≡ true
unfolding every
every-wider p q w [] h = refl
every-wider p q w (b ∷ s) h =
    and_both (q b) (every q s) (w b (and_left (p b) (every p s) h)) (every-wider p q w s (and_right (p b) (every p s) h))

-- the scan: what it has found so far, and what is left
module _ {A : Type 0} (class : A → Bool) (items : List A) (i : ℕ) (all : Bool) where
  pub every_step : (r : Bool) (d : A) → every class items ≡ (all && every class (drop i items)) → i < length items → r ≡ class (get_or items i d)
      → every class items ≡ ((all && r) && every class (drop (i + 1) items))
  unfolding every
  every_step r d inv h e = inv ∙ rw (drop-cons items i d h, e, add-one) (sym (and_assoc all _ _))

  pub every_end : every class items ≡ (all && every class (drop i items)) → length items ≤ i → all ≡ every class items
  unfolding every
  every_end inv h = sym (inv ∙ rw (drop_of_length-le items h) (and-true all))
