-- The scan of neighbours, which does not stop early: what it has found so far, and what is left of the text.
-- Assumes nothing.
use mathlib.Core.Path.{◌≡◌, sym, ◌∙◌}
use mathlib.Core.List.{◌∷◌}
use mathlib.Core.Bool.{Bool, not, ◌&&◌, ◌||◌, and-true, and_assoc}
use Prim.Native.Nat.{ℕ, ◌+◌, ◌-◌, ◌≤◌, ◌<◌}
use native.Mathlib.Omega.{arith}
use lib.ListN.{length, get_or, drop}
use Rattle.text.specs.Byte.{Bytes}
use Rattle.text.proofs.Left.{left-cons, left-none}
use Rattle.padded.specs.Padding.{is_space}
use Rattle.padded.specs.Private.{spaces_last}

-- i is the second of two neighbours
module _ (s : Bytes) (i : ℕ) (ok : Bool) (some : 1 ≤ i) (inv : spaces_last s ≡ (ok && spaces_last (drop (i - 1) s))) where
  pub last_step : i < length s
      → spaces_last s ≡ ((ok && (not (is_space (get_or s (i - 1) 0)) || is_space (get_or s i 0))) && spaces_last (drop (i + 1 - 1) s))
  unfolding spaces_last
  last_step h =
      let l : i - 1 < length s = omega arith in
      let next : i - 1 + 1 ≡ i = omega arith in
      let after : i + 1 - 1 ≡ i = omega arith in
      inv ∙ rw (left-cons s (i - 1) l, next, after, left-cons s i h)
      (sym (and_assoc ok (not (is_space (get_or s (i - 1) 0)) || is_space (get_or s i 0)) (spaces_last (get_or s i 0 ∷ drop (i + 1) s))))

  pub last_end : i ≡ length s → ok ≡ spaces_last s
  unfolding spaces_last
  last_end e =
      let l : i - 1 < length s = omega arith in
      let n : length s ≤ i - 1 + 1 = omega arith in
      sym (inv ∙ rw (left-cons s (i - 1) l, left-none s (i - 1 + 1) n) (and-true ok))
