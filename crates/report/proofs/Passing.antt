-- Steps one after the other that passed: each of them passed. And what an exit by `?` answers.
-- Assumes nothing.
use mathlib.Core.Path.{◌≡◌, refl, sym, ◌∙◌}
use mathlib.Core.Bool.{Bool, true, false}
use Prim.Native.Nat.{ℕ}
use native.Mathlib.Omega.{arith}
use Rattle.std.specs.Prelude.{Option, None, Some, Result, Ok, Err, IsErrAnd}
use Rattle.std.specs.Option.{ok_or}
use Rattle.std.specs.Result.{result_ok}
use Rattle.report.specs.declared.verdict.Verdict.{Verdict}
use Rattle.report.specs.declared.refusal.Refusal.{Refusal}
use Rattle.report.specs.Verdict.{verdict_number}
use Rattle.report.specs.Refusal.{refusal_number}
use Rattle.report.specs.Outcome.{Outcome, passed, refused, require, numbered, says, answers, ◌>>=◌, ◌>>◌}
use Rattle.std.proofs.lemmas.Result.{err_from_is_err_and}

refused-apart : {A : Type 0} (v : ℕ) (a : A) → ◌≡◌ {A = Outcome A} (refused v) (passed a) → ⊥
refused-apart v a e = let z : ◌≡◌ {A = ℕ} 0 1 = cc in omega arith

module _ {A B : Type 0} (o : Outcome A) (b : B) where
  pub bind_passed : (next : A → Outcome B) → (o >>= next) ≡ passed b → (a : A) × (o ≡ passed a) × (next a ≡ passed b)
  bind_passed next e = go o refl e
    where
      go : (p : Outcome A) → o ≡ p → (p >>= next) ≡ passed b → (a : A) × (o ≡ passed a) × (next a ≡ passed b)
      go (passed a) q h = (a, q, h)
      go (refused v) q h = absurd (refused-apart v b h)

  pub then_passed : (next : Outcome B) → (o >> next) ≡ passed b → (a : A) × (o ≡ passed a) × (next ≡ passed b)
  then_passed next e = go o refl e
    where
      go : (p : Outcome A) → o ≡ p → (p >> next) ≡ passed b → (a : A) × (o ≡ passed a) × (next ≡ passed b)
      go (passed a) q h = (a, q, h)
      go (refused v) q h = absurd (refused-apart v b h)

pub require-passed : (t : Bool) (v : ℕ) (u : Unit {0}) → require t v ≡ passed u → t ≡ true
require-passed true v u e = refl
require-passed false v u e = absurd (refused-apart v u e)

-- what a test says of a `require` that is known to have let pass, or refused
pub test-passed : (t : Bool) (v : ℕ) → passed tt ≡ require t v → t ≡ true
test-passed true v e = refl
test-passed false v e = absurd (refused-apart v tt (sym e))

pub test-refused : (t : Bool) (v n : ℕ) → refused n ≡ require t v → (t ≡ false) × (n ≡ v)
test-refused true v n e = absurd (refused-apart {A = Unit {0}} n tt e)
test-refused false v n e = (refl, cc)

-- ---- THE EXIT OF A `?`: the error goes on as it is
pub is-error : {A E : Type 0} (r : Result A E) (e : E) → IsErrAnd r (λ x. x ≡ e) → r ≡ Err e
is-error r e h = let p = err_from_is_err_and r h in rw (p.1, p.2)

module _ {A E : Type 0} (number : E → ℕ) (r : Result A E) (e : E) (h : IsErrAnd r (λ x. x ≡ e)) where
  pub exit : numbered number r ≡ refused (number e)
  exit = rw (is-error r e h)

  -- where the value would be looked at
  pub next-exit : {B : Type 0} (next : A → Outcome B) → (numbered number r >>= next) ≡ refused (number e)
  next-exit next = rw exit

pub says-exit : {A : Type 0} (r : Result A Verdict) (v : Verdict) → IsErrAnd r (λ e. e ≡ v) → says r ≡ refused (verdict_number v)
says-exit r v h = exit verdict_number r v h

pub bind-exit : {A B : Type 0} (r : Result A Verdict) (v : Verdict) (next : A → Outcome B) → IsErrAnd r (λ e. e ≡ v) → (says r >>= next) ≡ refused (verdict_number v)
bind-exit r v next h = next-exit verdict_number r v h next

pub answers-exit : {A : Type 0} (r : Result A Refusal) (f : Refusal) → IsErrAnd r (λ e. e ≡ f) → answers r ≡ refused (refusal_number f)
answers-exit r f h = exit refusal_number r f h

-- ---- THE ERROR OF AN `ok_or`, where there is none, is the one that was given
pub none-given : {A E : Type 0} (o : Option A) (e f : E) → Err e ≡ ok_or o f → o ≡ None → e ≡ f
none-given {A} {E} o e f v n = let w : ◌≡◌ {A = Result A E} (Err e) (Err f) = v ∙ rw n in cc

-- ---- AN ANSWER OF WHICH ONLY THE VALUE IS TAKEN
pub value-taken : {A : Type 0} (r : Result A Verdict) (a : A) → Some a ≡ result_ok r → passed a ≡ says r
value-taken (Ok b) a e = cc
value-taken (Err v) a e = absurd cc
