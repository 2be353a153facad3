-- What a field, a row or a test gives: what it says, or the number that refuses it, a verdict or a refusal.
-- Assumes nothing.
use Rattle.std.specs.Prelude.{Bool, true, false, ℕ, Result, Ok, Err}
use Rattle.report.specs.Refusal.{done, refusal_number}
use Rattle.report.specs.Verdict.{verdict_number}
use Rattle.report.specs.declared.refusal.Refusal.{Refusal}
use Rattle.report.specs.declared.verdict.Verdict.{Verdict}
use Rattle.report.specs.declared.verdict.Fault.{Fault}

pub data Outcome (A : Type 0) : Type 0 where
  passed : A → Outcome A
  refused : ℕ → Outcome A

-- One after the other, from left to right: the first refusal is the verdict.
infixl 20 ◌>>=◌
abbrev pub ◌>>=◌ : {A B : Type 0} → Outcome A → (A → Outcome B) → Outcome B
passed a >>= next = next a
refused verdict >>= next = refused verdict

infixl 20 ◌>>◌
abbrev pub ◌>>◌ : {A B : Type 0} → Outcome A → Outcome B → Outcome B
passed a >> next = next
refused verdict >> next = refused verdict

-- refused unless the test holds
abbrev pub require : Bool → ℕ → Outcome (Unit {0})
require true verdict = passed tt
require false verdict = refused verdict

-- what a call returns: the refusal, or that it is done
abbrev pub number_of : {A : Type 0} → Outcome A → ℕ
number_of (passed a) = done
number_of (refused number) = number

-- what code answers: its value, or its error's number
abbrev pub numbered : {A E : Type 0} → (E → ℕ) → Result A E → Outcome A
numbered number (Ok a) = passed a
numbered number (Err e) = refused (number e)

-- what a reader says of its row
abbrev pub says : {A : Type 0} → Result A Verdict → Outcome A
says r = numbered verdict_number r

-- a verdict on a record whose meter is not known
abbrev pub fault_of : Verdict → Fault
fault_of v = record { verdict = v; meter = 0 }

-- what a call answers
abbrev pub answers : {A : Type 0} → Result A Refusal → Outcome A
answers r = numbered refusal_number r
