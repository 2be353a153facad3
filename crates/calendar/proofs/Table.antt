-- The first days of the months: the table's rule, from one walk along the whole table, and the month of a day by it.
-- Assumes nothing.
use mathlib.Core.Path.{◌≡◌, refl, sym, ap, ◌∙◌}
use mathlib.Core.Bool.{Bool, true, false, ◌&&◌, and-eq-true_iff}
use mathlib.Core.List.{List, [], ◌∷◌}
use mathlib.Core.Logic.{⊎_elim}
use Prim.Native.Nat.{ℕ, zero, suc, ◌+◌, ◌-◌, ◌≤◌, ◌<◌}
use native.Mathlib.Nat.{add-zero, zero-add, add-suc, suc-add, eq-or-lt_of_le, lt_of_not-le}
use native.Mathlib.Numerals.{add-one}
use native.Mathlib.Omega.{arith}
use borrow.Author.Tests.{eqb-true, leb-true, leb-false}
use lib.Dec.{eqb, leb}
use lib.ListN.{get_or}
use Rattle.std.specs.List.Sorted.{IsNonDecreasing, IsPartitionedBy, IsPartitionPoint}
use Rattle.std.proofs.lemmas.List.Sorted.{IsNonDecreasingBy-from_default, IsPartitionedBy-leb}
use Rattle.calendar.specs.declared.months.TheConstants.{FIRST_DAYS}
use Rattle.calendar.specs.Date.{month_length}
use Rattle.calendar.specs.Day.{months, length_at, first_day, last_day, InMonth}

-- ---- the table

-- The walk along the table from month k, which begins on day `due`: each later month begins as many days after the one before as that one has,
-- and the table ends with the last month.
abbrev pub follows : ℕ → ℕ → List ℕ → Bool
follows k due [] = eqb k months
follows k due (x ∷ xs) = eqb x due && follows (suc k) (x + length_at k) xs

walked : (xs : List ℕ) (k : ℕ) → follows k (first_day k) xs ≡ true → (i : ℕ) → k + i < months → get_or xs i 0 ≡ first_day (k + i)
unfolding first_day
walked [] k t i h = absurd (omega (arith, eqb-true k months t))
walked (x ∷ xs) k t zero h =
    eqb-true x (first_day k) ((and-eq-true_iff (eqb x (first_day k)) (follows (suc k) (x + length_at k) xs)).0 t).0 ∙ ap first_day (sym (add-zero k))
walked (x ∷ xs) k t (suc i) h =
    let b = (and-eq-true_iff (eqb x (first_day k)) (follows (suc k) (x + length_at k) xs)).0 t in
    let e : x ≡ first_day k = eqb-true x (first_day k) b.0 in
    walked xs (suc k) (rw e at b.1) i (omega arith) ∙ ap first_day (suc-add k i ∙ sym (add-suc k i))

pub first-zero : first_day 0 ≡ 0
unfolding first_day
first-zero = refl

-- Where the walk passes a table, the entry of each month is its first day.
pub entry-right : (table : List ℕ) → follows 0 0 table ≡ true → (k : ℕ) → k < months → get_or table k 0 ≡ first_day k
unfolding first_day
entry-right table t k h = walked table 0 t k (omega arith) ∙ ap first_day (zero-add k)

-- It passes the table.
pub entry_right : (k : ℕ) → k < months → get_or FIRST_DAYS k 0 ≡ first_day k
unfolding first_day month_length
entry_right k h = entry-right FIRST_DAYS refl k h

-- December 2099, and the day after it
pub last_month : first_day 1115 ≡ 33937
unfolding first_day month_length
last_month = refl

pub months-end : first_day months ≡ 33968
unfolding first_day month_length
months-end = refl

-- ---- the months in order

pub first_next : (k : ℕ) → first_day (k + 1) ≡ first_day k + length_at k
unfolding first_day
first_next k = ap first_day (add-one k)

pub first-order : (j k : ℕ) → j ≤ k → first_day j ≤ first_day k
unfolding first_day
first-order j zero h = let e : j ≡ 0 = omega arith in rw e (omega arith)
first-order j (suc k) h =
    ⊎_elim
    (λ (q : j ≡ suc k). rw q (omega arith))
    (λ (q : j < suc k). omega (arith, first-order j k (omega arith)))
    (eq-or-lt_of_le h)

-- ---- the month of a day

in-order : IsNonDecreasing FIRST_DAYS
in-order = IsNonDecreasingBy-from_default (λ n. n) FIRST_DAYS 0 (λ i j h l. rw (entry_right i (omega arith), entry_right j l) (first-order i j h))

pub parted : (n : ℕ) → IsPartitionedBy (λ first. leb first n) FIRST_DAYS
parted n = IsPartitionedBy-leb (λ first. first) FIRST_DAYS n in-order

-- the first r months, and no others, begin on day n or before
abbrev pub Begun : ℕ → ℕ → Type 0
Begun n r = IsPartitionPoint (λ first. leb first n ≡ true) (λ first. leb first n ≡ false) FIRST_DAYS r

module _ (n r : ℕ) (low : n ≤ last_day) (bound : r ≤ months) (begun : Begun n r) where
  begins : (k : ℕ) → k < r → first_day k ≤ n
  begins k h = rw (← entry_right k (omega arith)) (leb-true _ _ (begun.0 k 0 (omega arith) h))

  ends : n < first_day r
  ends =
      ⊎_elim
      (λ (q : r ≡ months). rw q (omega (arith, months-end)))
      (λ (q : r < months). rw (← entry_right r q) (leb-false _ _ (begun.1 r 0 (omega arith) q)))
      (eq-or-lt_of_le bound)

  pub some_begun : 1 ≤ r
  some_begun = lt_of_not-le (λ h. let e : r ≡ 0 = omega arith in omega (arith, first-zero, rw e at ends))

  pub last_begun : InMonth n (r - 1)
  last_begun =
      let e : r - 1 + 1 ≡ r = omega (arith, some_begun) in
      record { within = omega (arith, some_begun); from = begins (r - 1) (omega (arith, some_begun)); before = rw e ends }
