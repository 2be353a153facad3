-- The window day of a date, by what the code computes.
-- Assumes nothing.
use mathlib.Core.Path.{◌≡◌, refl, sym, ◌∙◌}
use mathlib.Core.Bool.{Bool, true, false, cond}
use Prim.Native.Nat.{ℕ, ◌+◌, ◌-◌, ◌≤◌}
use native.Mathlib.Numerals.{add-one}
use native.Mathlib.Omega.{arith}
use lib.Dec.{ltb}
use borrow.Author.Tests.{le-leb, lt-leb, lt-ltb, le-ltb, ltb-true, ltb-false}
use Rattle.calendar.specs.Date.{is_date}
use Rattle.calendar.specs.Day.{day_number}
use Rattle.calendar.specs.Answer.{day_is}
use Rattle.std.specs.Prelude.{Some, None, Result, Ok, Err, IsErrAnd}
use Rattle.std.specs.Result.{MatchResult}
use Rattle.report.specs.declared.verdict.Verdict.{Verdict}
use Rattle.report.specs.declared.verdict.Fault.{Fault}
use Rattle.report.specs.Outcome.{passed, refused, require, says, ◌>>◌}
use Rattle.report.specs.Verdict.{outside_window, verdict_number}
use Rattle.registry.specs.declared.entry.Window.{Window}
use Rattle.checks.specs.Check.{in_window, day_in, Passed, Refused, of_meter}

number-real : (t : Bool) (k n : ℕ) → Some n ≡ cond t (Some k) None → (t ≡ true) × (n ≡ k)
number-real true k n e = (refl, cc)
number-real false k n e = absurd cc

none_unreal : (t : Bool) (k : ℕ) → None ≡ cond t (Some k) None → t ≡ false
none_unreal true k e = absurd cc
none_unreal false k e = refl

module _ (w : Window) (date : ℕ) where
  pub day-none : None ≡ day_is date → refused outside_window ≡ day_in w date
  unfolding day_in in_window day_is
  day-none e = rw (none_unreal (is_date date) (day_number date) e)

  module _ (n : ℕ) (e : Some n ≡ day_is date) where
    real : (is_date date ≡ true) × (n ≡ day_number date)
    unfolding day_is
    real = number-real (is_date date) (day_number date) n e

    pub day-before : (w.first ≤ n → ⊥) → refused outside_window ≡ day_in w date
    unfolding day_in in_window
    day-before h = rw (real.0, ← real.1, lt-leb w.first n (omega (arith, h)))

    pub day-from : (d : ℕ) → w.first ≤ n → d ≡ n - w.first → day_in w date ≡ (require (ltb d w.days) outside_window >> passed d)
    unfolding day_in in_window
    day-from d l ed = rw (real.0, ← real.1, le-leb w.first n l, ed, same)
      where
        by-test : (t : Bool) → ltb (n - w.first) w.days ≡ t → ltb n (w.first + w.days) ≡ t
        by-test true h = lt-ltb n (w.first + w.days) (omega (arith, ltb-true (n - w.first) w.days h))
        by-test false h = le-ltb n (w.first + w.days) (omega (arith, ltb-false (n - w.first) w.days h))

        same : ltb n (w.first + w.days) ≡ ltb (n - w.first) w.days
        same = by-test (ltb (n - w.first) w.days) refl

-- ---- THE ANSWER FOR A KNOWN METER, of whose verdict `map_err` makes a fault
module _ (Makes : Verdict → Fault → Type 0) (m : ℕ) (s : Result ℕ Fault) where
  pub day_given : (r : Result ℕ Verdict) → MatchResult r (λ d. s ≡ Ok d) (λ v. IsErrAnd s (Makes v)) → (d : ℕ) → s ≡ Ok d → Passed m d ≡ of_meter m (says r)
  day_given (Ok x) made d e = let same : ◌≡◌ {A = Result ℕ Fault} (Ok d) (Ok x) = sym e ∙ made in cc
  day_given (Err v) made d e = absurd (rw e at made)

  pub fault_given : (r : Result ℕ Verdict) → MatchResult r (λ d. s ≡ Ok d) (λ v. IsErrAnd s (Makes v)) → (f : Fault) → s ≡ Err f
      → ((v : Verdict) → Makes v f → f ≡ record { verdict = v; meter = m + 1 }) → Refused (verdict_number f.verdict) f.meter ≡ of_meter m (says r)
  fault_given (Ok x) made f e tells = let apart : ◌≡◌ {A = Result ℕ Fault} (Ok x) (Err f) = sym made ∙ e in absurd cc
  fault_given (Err v) made f e tells = rw (tells v (rw e at made), add-one)
