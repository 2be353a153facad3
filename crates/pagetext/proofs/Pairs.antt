-- The digits of 0 to 99, two each, stand in the table: one computed walk along it.
-- Assumes nothing.
use mathlib.Core.Path.{◌≡◌, refl, sym, ap, ◌∙◌}
use mathlib.Core.List.{[], ◌∷◌}
use mathlib.Core.Bool.{Bool, true, false, ◌&&◌}
use Prim.Native.Nat.{ℕ, zero, suc, ◌+◌, ◌*◌, ◌<◌, ◌≤◌}
use native.Mathlib.Nat.{add-zero, add-suc, suc-add, zero-add}
use native.Mathlib.Omega.{arith}
use lib.ListN.{length, get_or, set}
use Rattle.text.specs.Byte.{Bytes, equals}
use Rattle.text.specs.Number.{digits_of}
use Rattle.text.proofs.Truth.{apart, and_left, and_right}
use Rattle.text.proofs.Equal.{equals_path}
use Rattle.pagetext.specs.declared.TheConstants.{PAIRS}

-- from k on, each pair is the digits of its number
abbrev follows : ℕ → Bytes → Bool
follows k [] = true
follows k (a ∷ []) = false
follows k (a ∷ b ∷ s) = equals (a ∷ b ∷ []) (digits_of 2 k) && follows (suc k) s

walked : (s : Bytes) (k : ℕ) → follows k s ≡ true → (i d e : ℕ) → 2 * i + 2 ≤ length s
    → get_or s (2 * i) d ∷ get_or s (2 * i + 1) e ∷ [] ≡ digits_of 2 (k + i)
walked [] k t i d e h = absurd (omega (arith, h))
walked (a ∷ []) k t i d e h = absurd (apart t)
walked (a ∷ b ∷ s) k t zero d e h = equals_path (a ∷ b ∷ []) _ (and_left _ (follows (suc k) s) t) ∙ ap (λ (n : ℕ). digits_of 2 n) (sym (add-zero k))
walked (a ∷ b ∷ s) k t (suc i) d e h =
    let first : 2 * suc i ≡ suc (suc (2 * i)) = omega arith in
    let second : 2 * suc i + 1 ≡ suc (suc (2 * i + 1)) = omega arith in
    rw (second, first)
    (walked s (suc k) (and_right _ (follows (suc k) s) t) i d e (omega (arith, h)) ∙ ap (λ (n : ℕ). digits_of 2 n) (suc-add k i ∙ sym (add-suc k i)))

passes : follows 0 PAIRS ≡ true
unfolding equals digits_of
passes = refl

both_set : (to : Bytes) (x y : ℕ) → length to ≡ 2 → set (set to 0 x) 1 y ≡ x ∷ y ∷ []
both_set [] x y h = absurd (omega (arith, h))
both_set (a ∷ []) x y h = absurd (omega (arith, h))
both_set (a ∷ b ∷ []) x y h = refl
both_set (a ∷ b ∷ c ∷ s) x y h = absurd (omega (arith, h))

pub pair_put : (n d e : ℕ) (to : Bytes) → length to ≡ 2 → n < 100 → set (set to 0 (get_or PAIRS (2 * n) d)) 1 (get_or PAIRS (2 * n + 1) e) ≡ digits_of 2 n
pair_put n d e to l h = both_set to _ _ l ∙ walked PAIRS 0 passes n d e (omega (arith, h)) ∙ ap (λ (k : ℕ). digits_of 2 k) (zero-add n)
