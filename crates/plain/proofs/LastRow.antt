-- A record is complete with the last row that its day has, and not before.
-- Assumes nothing.
use mathlib.Core.Path.{◌≡◌, refl, ◌∙◌}
use mathlib.Core.Bool.{Bool, true, false, cond}
use Prim.Native.Nat.{ℕ, zero, suc, ◌+◌}
use native.Mathlib.Omega.{arith}
use lib.Dec.{eqb, ltb}
use borrow.Author.Tests.{eqb-true}
use Rattle.text.specs.Byte.{Bytes}
use Rattle.lines.specs.Line.{Line}
use Rattle.report.specs.Outcome.{Outcome, passed, refused}
use Rattle.report.specs.Verdict.{wrong_code}
use Rattle.headers.specs.Two.{row_two}
use Rattle.headers.specs.Three.{row_three}
use Rattle.headers.specs.Four.{row_four}
use Rattle.headers.specs.Thirty.{row_thirty}
use Rattle.details.specs.Detail.{row_detail}
use Rattle.checks.specs.Check.{Judgement, Passed, Refused, judge}
use Rattle.plain.specs.Rows.{Rows, Row, refused_with, goes_on, complete, header_rows, max_details, or_else, with_row}
use Rattle.plain.specs.Rows.{by_judgement, checked, after_detail, detail_row, due_row, next_row, rules_of}

-- one row more is in
abbrev OneMore : Rows → Rows → Type 0
OneMore so_far next = (next.behind_one ≡ suc so_far.behind_one) × (next.due ≡ so_far.due)

-- what a row behind row one answers, by the rows that are in
abbrev pub Counts : Rows → Row → Type 0
Counts so_far (refused_with verdict meter day) = Unit {0}
Counts so_far (goes_on next) = OneMore so_far next
Counts so_far (complete r) = suc so_far.behind_one ≡ header_rows + so_far.due

counts_or_else : {A : Type 0} (so_far : Rows) (day : ℕ) (o : Outcome A) (next : A → Row)
    → ((a : A) → Counts so_far (next a)) → Counts so_far (or_else day o next)
counts_or_else so_far day (passed a) next h = h a
counts_or_else so_far day (refused v) next h = tt

module _ (reg : Bytes) where
  detail_counts : (k : ℕ) (so_far : Rows) (l : Line) → so_far.behind_one ≡ header_rows + k → Counts so_far (detail_row reg k so_far l)
  unfolding detail_row after_detail with_row checked
  detail_counts k so_far l e =
      counts_or_else so_far so_far.day (row_detail k l) _ (λ vs. in_room (with_row so_far _ so_far.sender) (refl, refl) (ltb k max_details))
    where
      judged : (after : Rows) (j : Judgement) → suc k ≡ so_far.due → Counts so_far (by_judgement reg after j)
      judged after (Refused v m) h = tt
      judged after (Passed m d) h = omega arith

      last : (after : Rows) (t : Bool) → eqb (suc k) after.due ≡ t → OneMore so_far after
          → Counts so_far (cond t (checked reg after) (goes_on after))
      last after true q h = judged after (judge reg after.esi_id after.sender after.day) (eqb-true (suc k) after.due q ∙ h.1)
      last after false q h = h

      in_room : (after : Rows) → OneMore so_far after → (t : Bool)
          → Counts so_far (cond t (after_detail reg k after) (refused_with wrong_code 0 so_far.day))
      in_room after h true = last after (eqb (suc k) after.due) refl h
      in_room after h false = tt

  due_counts : (n : ℕ) (so_far : Rows) (l : Line) → so_far.behind_one ≡ n → Counts so_far (due_row reg n so_far l)
  unfolding due_row with_row
  due_counts zero so_far l e = counts_or_else so_far so_far.day (row_two l) _ (λ u. (refl, refl))
  due_counts (suc zero) so_far l e = counts_or_else so_far so_far.day (row_three l) _ (λ u. (refl, refl))
  due_counts (suc (suc zero)) so_far l e = counts_or_else so_far so_far.day (row_four l) _ (λ u. (refl, refl))
  due_counts (suc (suc (suc zero))) so_far l e = counts_or_else so_far so_far.day (row_thirty l) _ (λ u. (refl, refl))
  due_counts (suc (suc (suc (suc k)))) so_far l e = detail_counts k so_far l (omega arith)

  pub next_counts : (so_far : Rows) (l : Line) → Counts so_far ((rules_of reg).row_next so_far l)
  unfolding rules_of next_row
  next_counts so_far l = due_counts so_far.behind_one so_far l refl
