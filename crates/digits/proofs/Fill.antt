-- Bytes that a loop fills from the right with the digits of a number.
-- Assumes nothing.
use mathlib.Core.Path.{◌≡◌, sym, ◌∙◌}
use mathlib.Core.List.{◌∷◌, ◌++◌, append-nil}
use Prim.Native.Nat.{ℕ, suc, ◌+◌, ◌-◌, ◌/◌, ◌%◌, ◌<◌, ◌≤◌}
use native.Mathlib.Omega.{arith}
use lib.ListN.{length, set, drop, length-set}
use lib.Seq.{drop-cons, drop-length, drop-set-lt, get_or-set_same, append_snoc}
use Rattle.text.specs.Byte.{Bytes}
use Rattle.text.specs.Number.{digits_of}

-- i of them are to be put, those of `rest`, and the others stand behind. None is put, one more, all.
pub digits-none : (to : Bytes) (n : ℕ) → digits_of (length to) n ++ drop (length to) to ≡ digits_of (length to) n
digits-none to n = rw (drop-length to) (append-nil (digits_of (length to) n))

-- a byte set, and what stands behind it
set-drop : (s : Bytes) (i v : ℕ) → i < length s → drop i (set s i v) ≡ v ∷ drop (suc i) s
set-drop s i v h =
    rw (drop-cons (set s i v) i 0 (rw (length-set s i v) h), get_or-set_same s i v 0 h, drop-set-lt (suc i) s i v (omega arith))

module _ (to : Bytes) (w n i rest : ℕ) (inv : digits_of i rest ++ drop i to ≡ digits_of w n) where
  pub digits_again : 0 < i → i ≤ w → length to ≡ w → digits_of (i - 1) (rest / 10) ++ drop (i - 1) (set to (i - 1) (48 + rest % 10)) ≡ digits_of w n
  unfolding digits_of
  digits_again z h l = go (i - 1) (omega arith) (omega arith)
    where
      go : (j : ℕ) → suc j ≡ i → j < length to → digits_of j (rest / 10) ++ drop j (set to j (48 + rest % 10)) ≡ digits_of w n
      go j e g =
          rw (set-drop to j (48 + rest % 10) g)
          (sym (append_snoc (digits_of j (rest / 10)) (48 + rest % 10) (drop (suc j) to)) ∙ rw (← e) at inv)

  pub digits-end : i ≤ 0 → to ≡ digits_of w n
  unfolding digits_of
  digits-end h =
      let e : i ≡ 0 = omega arith in
      rw e at inv
