-- What a call's answer tells: done with a count, or refused by a number that is not 0.
-- Assumes nothing.
use mathlib.Core.Path.{◌≡◌, refl, ap, sym, ◌∙◌}
use mathlib.Core.List.{List}
use mathlib.Core.Bool.{true}
use Prim.Native.Nat.{ℕ, zero, suc}
use Rattle.std.specs.Prelude.{Result, Ok, Err, OnErr}
use Rattle.text.specs.Byte.{Bytes}
use Rattle.text.proofs.Truth.{apart}
use Rattle.report.specs.Outcome.{Outcome, passed, refused, answers, number_of}
use Rattle.report.specs.Refusal.{done}
use Rattle.report.specs.declared.refusal.Refusal.{Refusal}
use Rattle.plain.specs.Call.{finish}
use Rattle.plain.specs.Claim.{finish_done}
use Rattle.loader.specs.Keeps.{count_in}
use Rattle.report.proofs.Refusals.{some-number}
use Rattle.report.specs.Output.{output_with}
use Rattle.writer.specs.Write.{length_of}
use Rattle.report.specs.declared.Entry.{Entry}
use Rattle.page.specs.Page.{pages_in, paged}

pub finish-is_done : (n : ℕ) → finish_done finish n ≡ true → n ≡ done
finish-is_done zero d = refl
finish-is_done (suc n) d = absurd (apart d)

-- what holds of a refusal, of an answer that is one
pub of_refusal : {P : Type 0} (answer : Result ℕ Refusal) → ¬ (number_of (answers answer) ≡ done) → OnErr answer P → P
of_refusal (Ok n) r h = absurd (r refl)
of_refusal (Err e) r h = h

pub counted : (answer : Result ℕ Refusal) (x : Outcome ℕ) → answers answer ≡ x → number_of (answers answer) ≡ done → passed (count_in answer) ≡ x
counted (Ok n) x h d = h
counted (Err e) x h d = absurd (some-number e d)

pub output-left : (answer : Result ℕ Refusal) (output : Bytes) (x : Outcome Bytes) → answers answer ≡ length_of x → ¬ (number_of (answers answer) ≡ done)
    → output_with output x ≡ output
output-left answer output (passed text) h r = absurd (r (ap number_of h))
output-left answer output (refused number) h r = refl

-- of a call of page: the pages that it answers are those that it put out, and a refusal leaves the output
pub unpaged-left : (es : List Entry) (output : Bytes) (room : ℕ) → (x : Outcome ℕ) → x ≡ pages_in es room → ¬ (number_of x ≡ done) → output_with output (paged es room) ≡ output
unfolding paged
unpaged-left es output room (passed n) e r = absurd (r refl)
unpaged-left es output room (refused n) e r = rw (← e) refl

-- a report that stays behind the entries that an answer counts is, behind a refusal's none, as it was
pub same_report : {A : Type 0} (behind : ℕ → List A → List A) → ((ts : List A) → behind 0 ts ≡ ts) → (answer : Result ℕ Refusal) (written report : List A)
    → ¬ (number_of (answers answer) ≡ done) → behind (count_in answer) written ≡ behind (count_in answer) report → written ≡ report
same_report behind all (Ok n) written report r h = absurd (r refl)
same_report behind all (Err e) written report r h = sym (all written) ∙ h ∙ all report
