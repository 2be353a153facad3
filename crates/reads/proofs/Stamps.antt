-- Which of two stamps is later: a strict order, in which what is not later than a stamp comes before all that is.
-- Assumes nothing.
use mathlib.Core.Path.{◌≡◌, refl}
use mathlib.Core.Bool.{Bool, true, false, ◌&&◌, ◌||◌}
use mathlib.Core.Logic.{◌⊎◌, inl, inr}
use Prim.Native.Nat.{ℕ, ◌<◌, ◌≤◌}
use native.Mathlib.Omega.{arith}
use lib.Dec.{eqb, ltb}
use borrow.Author.Tests.{ltb-true, ltb-false, eqb-true, eqb-false, lt-ltb, le-ltb, eq-eqb}
use Rattle.headers.specs.declared.time.Stamp.{Stamp}
use Rattle.reads.specs.Load.{is_later}

-- the test on two pairs of numbers
lex : ℕ → ℕ → ℕ → ℕ → Bool
lex a₁ a₂ b₁ b₂ = ltb a₁ b₁ || (eqb a₁ b₁ && ltb a₂ b₂)

abbrev Lt : ℕ → ℕ → ℕ → ℕ → Type 0
Lt a₁ a₂ b₁ b₂ = (a₁ < b₁) ⊎ ((a₁ ≡ b₁) × (a₂ < b₂))

lex_true : (a₁ a₂ b₁ b₂ : ℕ) → lex a₁ a₂ b₁ b₂ ≡ true → Lt a₁ a₂ b₁ b₂
unfolding lex
lex_true a₁ a₂ b₁ b₂ h = go (ltb a₁ b₁) refl (eqb a₁ b₁) refl (ltb a₂ b₂) refl
  where
    go : (p : Bool) → ltb a₁ b₁ ≡ p → (q : Bool) → eqb a₁ b₁ ≡ q → (r : Bool) → ltb a₂ b₂ ≡ r → Lt a₁ a₂ b₁ b₂
    go true ep q eq r er = inl (ltb-true a₁ b₁ ep)
    go false ep true eq true er = inr (eqb-true a₁ b₁ eq, ltb-true a₂ b₂ er)
    go false ep true eq false er = absurd (let z : false ≡ true = rw (ep, eq, er) at h in let y : ◌≡◌ {A = ℕ} 0 1 = cc in omega arith)
    go false ep false eq r er = absurd (let z : false ≡ true = rw (ep, eq) at h in let y : ◌≡◌ {A = ℕ} 0 1 = cc in omega arith)

true_lex : (a₁ a₂ b₁ b₂ : ℕ) → Lt a₁ a₂ b₁ b₂ → lex a₁ a₂ b₁ b₂ ≡ true
unfolding lex
true_lex a₁ a₂ b₁ b₂ (inl h) = rw (lt-ltb a₁ b₁ h)
true_lex a₁ a₂ b₁ b₂ (inr h) = rw (le-ltb a₁ b₁ (omega arith), eq-eqb a₁ b₁ h.0, lt-ltb a₂ b₂ h.1)

-- not later: the other way round, or alike
abbrev Ge : ℕ → ℕ → ℕ → ℕ → Type 0
Ge a₁ a₂ b₁ b₂ = (b₁ < a₁) ⊎ ((a₁ ≡ b₁) × (b₂ ≤ a₂))

lex_false : (a₁ a₂ b₁ b₂ : ℕ) → lex a₁ a₂ b₁ b₂ ≡ false → Ge a₁ a₂ b₁ b₂
unfolding lex
lex_false a₁ a₂ b₁ b₂ h = go (ltb a₁ b₁) refl (eqb a₁ b₁) refl (ltb a₂ b₂) refl
  where
    go : (p : Bool) → ltb a₁ b₁ ≡ p → (q : Bool) → eqb a₁ b₁ ≡ q → (r : Bool) → ltb a₂ b₂ ≡ r → Ge a₁ a₂ b₁ b₂
    go true ep q eq r er = absurd (let z : true ≡ false = rw ep at h in let y : ◌≡◌ {A = ℕ} 0 1 = cc in omega arith)
    go false ep true eq true er = absurd (let z : true ≡ false = rw (ep, eq, er) at h in let y : ◌≡◌ {A = ℕ} 0 1 = cc in omega arith)
    go false ep true eq false er = inr (eqb-true a₁ b₁ eq, ltb-false a₂ b₂ er)
    go false ep false eq r er = inl (let n : ¬ (a₁ ≡ b₁) = eqb-false a₁ b₁ eq in omega (arith, ltb-false a₁ b₁ ep))

lt_lt : (a₁ a₂ b₁ b₂ c₁ c₂ : ℕ) → Lt a₁ a₂ b₁ b₂ → Lt b₁ b₂ c₁ c₂ → Lt a₁ a₂ c₁ c₂
lt_lt a₁ a₂ b₁ b₂ c₁ c₂ (inl h) (inl g) = inl (omega arith)
lt_lt a₁ a₂ b₁ b₂ c₁ c₂ (inl h) (inr g) = inl (omega arith)
lt_lt a₁ a₂ b₁ b₂ c₁ c₂ (inr h) (inl g) = inl (omega arith)
lt_lt a₁ a₂ b₁ b₂ c₁ c₂ (inr h) (inr g) = inr (omega arith)

ge_lt : (a₁ a₂ b₁ b₂ c₁ c₂ : ℕ) → Ge b₁ b₂ a₁ a₂ → Lt b₁ b₂ c₁ c₂ → Lt a₁ a₂ c₁ c₂
ge_lt a₁ a₂ b₁ b₂ c₁ c₂ (inl h) (inl g) = inl (omega arith)
ge_lt a₁ a₂ b₁ b₂ c₁ c₂ (inl h) (inr g) = inl (omega arith)
ge_lt a₁ a₂ b₁ b₂ c₁ c₂ (inr h) (inl g) = inl (omega arith)
ge_lt a₁ a₂ b₁ b₂ c₁ c₂ (inr h) (inr g) = inr (omega arith)

pub later_trans : (x y z : Stamp) → is_later y x ≡ true → is_later z y ≡ true → is_later z x ≡ true
unfolding is_later lex
later_trans x y z p q =
    true_lex x.date x.clock z.date z.clock
    (lt_lt _ _ y.date y.clock _ _ (lex_true x.date x.clock y.date y.clock p) (lex_true y.date y.clock z.date z.clock q))

-- x is not later than y, and z is later than y
pub later_chain : (x y z : Stamp) → is_later x y ≡ false → is_later z y ≡ true → is_later z x ≡ true
unfolding is_later lex
later_chain x y z p q =
    true_lex x.date x.clock z.date z.clock
    (ge_lt _ _ y.date y.clock _ _ (lex_false y.date y.clock x.date x.clock p) (lex_true y.date y.clock z.date z.clock q))
