-- Whatever a state holds, a row that goes on leaves no more detail rows than there can be: so no scan leaves more.
-- Assumes nothing.
use mathlib.Core.Bool.{Bool, true, false, cond}
use mathlib.Core.Path.{◌≡◌, refl}
use Prim.Native.Nat.{ℕ, zero, suc, ◌+◌, ◌<◌, ◌≤◌}
use native.Mathlib.Omega.{arith}
use lib.Dec.{eqb, ltb}
use borrow.Author.Tests.{ltb-true}
use Rattle.text.specs.Byte.{Bytes}
use Rattle.lines.specs.Line.{Line}
use Rattle.report.specs.Outcome.{Outcome, passed, refused}
use Rattle.report.specs.Verdict.{wrong_code}
use Rattle.headers.specs.One.{row_one}
use Rattle.headers.specs.Two.{row_two}
use Rattle.headers.specs.Three.{row_three}
use Rattle.headers.specs.Four.{row_four}
use Rattle.headers.specs.Thirty.{row_thirty}
use Rattle.details.specs.Detail.{row_detail}
use Rattle.cell.specs.Layout.{Words}
use Rattle.checks.specs.Check.{Judgement, Passed, Refused, judge}
use Rattle.plain.specs.Rows.{Load, Rows, Row, refused_with, goes_on, header_rows, max_details, details_of, or_else, begins, first_row}
use Rattle.plain.specs.Rows.{with_row, by_judgement, checked, after_detail, detail_row, due_row, next_row, rules_of}
use Rattle.plain.specs.Loader.{OpenUnit, no_unit, takes_rows, waits, skips, Scan, scan_to}
use Rattle.plain.specs.Promise.{details_in}
use Rattle.plain.proofs.Invariant.{UnitOk, RowOk, scan_ok}

abbrev AnyLine : ℕ → Type 0
AnyLine n = Unit {0}

abbrev AnyLoad : Load → Type 0
AnyLoad l = Unit {0}

abbrev FewRows : Rows → Type 0
FewRows rows = details_of rows ≤ max_details

abbrev FewRow : Row → Type 0
FewRow row = RowOk AnyLine FewRows AnyLoad row

few_or_else : {A : Type 0} (day : ℕ) (o : Outcome A) (next : A → Row) → ((a : A) → FewRow (next a)) → FewRow (or_else day o next)
few_or_else day (passed a) next h = h a
few_or_else day (refused v) next h = tt

-- a further row is due
few_on : (n : ℕ) (rows : Rows) (w : Words) (sender : Bytes) → rows.behind_one ≡ n → suc n ≤ header_rows + max_details → FewRows (with_row rows w sender)
unfolding with_row
few_on n rows w sender e h = omega arith

module _ (reg : Bytes) where
  few-one : (l : Line) → FewRow (first_row l)
  unfolding first_row begins
  few-one l = few_or_else 0 (row_one l) _ (λ one. omega arith)

  few-checked : (rows : Rows) → FewRow (checked reg rows)
  unfolding checked
  few-checked rows = go (judge reg rows.esi_id rows.sender rows.day)
    where
      go : (j : Judgement) → FewRow (by_judgement reg rows j)
      go (Refused v m) = tt
      go (Passed m d) = tt

  few_detail : (k : ℕ) (rows : Rows) (l : Line) → rows.behind_one ≡ header_rows + k → FewRow (detail_row reg k rows l)
  unfolding detail_row after_detail
  few_detail k rows l e =
      few_or_else rows.day (row_detail k l) _ (λ vs. in_room (with_row rows _ rows.sender) (ltb k max_details) refl (λ r. few_on _ rows _ _ e (omega arith)))
    where
      last : (after : Rows) (t : Bool) → FewRows after → FewRow (cond t (checked reg after) (goes_on after))
      last after true h = few-checked after
      last after false h = h

      in_room : (after : Rows) (t : Bool) → ltb k max_details ≡ t → (k < max_details → FewRows after)
          → FewRow (cond t (after_detail reg k after) (refused_with wrong_code 0 rows.day))
      in_room after true q h = last after (eqb (suc k) after.due) (h (ltb-true k max_details q))
      in_room after false q h = tt

  few-due : (n : ℕ) (rows : Rows) (l : Line) → rows.behind_one ≡ n → FewRow (due_row reg n rows l)
  unfolding due_row
  few-due zero rows l e = few_or_else rows.day (row_two l) _ (λ u. few_on _ rows _ _ e (omega arith))
  few-due (suc zero) rows l e = few_or_else rows.day (row_three l) _ (λ u. few_on _ rows _ _ e (omega arith))
  few-due (suc (suc zero)) rows l e = few_or_else rows.day (row_four l) _ (λ s. few_on _ rows _ _ e (omega arith))
  few-due (suc (suc (suc zero))) rows l e = few_or_else rows.day (row_thirty l) _ (λ s. few_on _ rows _ _ e (omega arith))
  few-due (suc (suc (suc (suc k)))) rows l e = few_detail k rows l (omega arith)

  few-unit : (u : OpenUnit) → details_in u ≤ max_details → UnitOk AnyLine FewRows AnyLoad u
  few-unit no_unit h = tt
  few-unit (takes_rows first rows) h = (tt, h)
  few-unit (waits first last r) h = (tt, tt)
  few-unit skips h = tt

  unit-few : (u : OpenUnit) → UnitOk AnyLine FewRows AnyLoad u → details_in u ≤ max_details
  unit-few no_unit h = omega arith
  unit-few (takes_rows first rows) h = h.1
  unit-few (waits first last r) h = omega arith
  unit-few skips h = omega arith

  pub few-scan : (s : Scan) (x : Bytes) → details_in s.unit ≤ max_details → details_in (scan_to (rules_of reg) s x).unit ≤ max_details
  unfolding rules_of next_row
  few-scan s x h =
      unit-few (scan_to (rules_of reg) s x).unit
      (scan_ok AnyLine FewRows AnyLoad (rules_of reg) (λ l. few-one l) (λ rows l d. few-due rows.behind_one rows l refl) s x (λ n p q. tt)
      (few-unit s.unit h)).1
