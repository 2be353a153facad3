-- Parts of a text: what a scan from the left has still before it, and the whole as a part.
-- Assumes nothing.
use mathlib.Core.Path.{◌≡◌, sym, ◌∙◌}
use mathlib.Core.List.{[], ◌∷◌}
use Prim.Native.Nat.{ℕ, zero, suc, ◌+◌, ◌-◌, ◌<◌, ◌≤◌}
use native.Mathlib.Omega.{arith}
use native.Mathlib.Numerals.{add-one}
use lib.ListN.{length, take, drop, get_or, length-drop, drop_of_length-le}
use lib.Seq.{drop-cons, take_all, take-nil}
use Rattle.text.specs.Byte.{Bytes}

-- the byte at i, and what is left behind it
pub left-cons : (s : Bytes) (i : ℕ) → i < length s → drop i s ≡ get_or s i 0 ∷ drop (i + 1) s
left-cons s i h = rw (add-one, drop-cons s i 0)

pub left-none : (s : Bytes) (i : ℕ) → length s ≤ i → drop i s ≡ []
left-none s i h = drop_of_length-le s h

-- all that is left
pub left-whole : (s : Bytes) (i : ℕ) → take (length s - i) (drop i s) ≡ drop i s
left-whole s i = take_all (length s - i) (drop i s) (simp length-drop (omega arith))

pub front-whole : (s : Bytes) (n : ℕ) → length s ≤ n → take (length s - 0) s ≡ take n s
front-whole s n h = take_all (length s - 0) s (omega arith) ∙ sym (take_all n s h)

-- a part of a part
pub drop-take : (k n : ℕ) (s : Bytes) → drop k (take n s) ≡ take (n - k) (drop k s)
drop-take zero n s =
    let e : n - 0 ≡ n = omega arith in
    rw e
drop-take (suc k) zero s =
    let e : 0 - suc k ≡ 0 = omega arith in
    rw e
drop-take (suc k) (suc n) [] = sym (take-nil (suc n - suc k))
drop-take (suc k) (suc n) (b ∷ s) =
    let e : suc n - suc k ≡ n - k = omega arith in
    rw e (drop-take k n s)
