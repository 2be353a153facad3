-- What each row makes of its record, at each answer of its reader.
-- Assumes nothing.
use mathlib.Core.Path.{◌≡◌, refl, sym, ap, ◌∙◌}
use mathlib.Core.List.{List, []}
use mathlib.Core.Bool.{Bool, true, false, ◌&&◌, ◌||◌}
use Prim.Native.Nat.{ℕ, suc, ◌+◌, ◌-◌, ◌*◌, ◌/◌, ◌<◌, ◌≤◌}
use native.Mathlib.Omega.{arith}
use lib.Dec.{eqb, leb}
use lib.ListN.{length, get_or, drop}
use Rattle.std.proofs.lemmas.List.{drop_more, drop_all}
use borrow.Author.Tests.{eqb-true, leb-true, eq-eqb, ne_eqb, lt-ltb, le-ltb}
use Rattle.calendar.specs.Date.{is_date}
use Rattle.calendar.specs.Answer.{intervals_on_date}
use Rattle.calendar.proofs.Laws.{intervals_on_is}
use Rattle.text.specs.Byte.{Bytes, is_digit, is_alnum, every}
use Rattle.text.specs.Identifier.{is_name, esi_id_size, is_esi_id, duns_size, is_duns}
use Rattle.text.proofs.Truth.{and_left, and_right, or_right}
use Rattle.lines.specs.Line.{Line}
use Rattle.report.specs.Outcome.{passed, refused}
use Rattle.report.specs.Verdict.{wrong_code}
use Rattle.headers.specs.One.{RowOne, row_one}
use Rattle.headers.specs.Thirty.{row_thirty}
use Rattle.headers.specs.declared.one.One.{One}
use Rattle.headers.proofs.Passed.{one-passed, thirty-passed as sender-duns}
use Rattle.details.specs.Detail.{per_row, row_detail}
use Rattle.details.specs.declared.detail.Interval.{Interval}
use Rattle.padded.specs.Padding.{pad}
use Rattle.registry.specs.Entry.{owner_size}
use Rattle.cell.specs.Layout.{Words}
use Rattle.cell.specs.Read.{begun, with_interval, with_intervals}
use Rattle.checks.specs.Check.{Judgement, Passed, Refused, judge}
use Rattle.plain.specs.Rows.{Rows, refused_with, goes_on, header_rows, max_details, begins, first_row, with_row}
use Rattle.plain.specs.Rows.{two_row, three_row, four_row, thirty_row, by_judgement, checked, after_detail, detail_row, due_row, next_row}
use Rattle.records.specs.Answer.{begun_by, rows_of, one_more}
use Rattle.records.specs.declared.Progress.{Progress}
use Rattle.records.specs.declared.Parts.{Parts}

-- ---- ROW ONE

-- a record that begins: both texts are padded to what the lent parts hold
pub begun-row : (one : One) (parts parts' : Parts) (empty : Bytes) (count : ℕ)
    → length parts.id ≡ esi_id_size → length parts.sender ≡ owner_size → is_date one.day ≡ true → count ≡ intervals_on_date one.day
    → parts'.id ≡ pad (length parts.id) one.id.now → empty ≡ [] → parts'.sender ≡ pad (length parts.sender) empty → parts'.words ≡ begun count
    → rows_of (record { read = 0; due = count / per_row; day = one.day; channel = one.channel }) parts' ≡ begins (begun_by one)
unfolding begins
begun-row one parts parts' empty count li ls real ec ei ee es ew = rw (ei, es, ew, ee, li, ls, ec, intervals_on_is one.day real)

module _ (l : Line) (one : RowOne) (e : row_one l ≡ passed one) where
  pub one-begun : (rows : Rows) → rows ≡ begins one → goes_on rows ≡ first_row l
  unfolding first_row
  one-begun rows b = rw (b, e)

  pub one-real : is_date one.day ≡ true
  one-real = (one-passed l _ e).1

  -- the ESI ID fits where it is put
  pub one-fits : length one.esi_id ≤ esi_id_size
  unfolding is_name
  one-fits =
      let is : is_esi_id one.esi_id ≡ true = (one-passed l _ e).0 in
      let some = leb 1 (length one.esi_id) in
      let few = leb (length one.esi_id) esi_id_size in
      leb-true (length one.esi_id) esi_id_size (and_right some few (and_left (some && few) (every is_alnum one.esi_id) is))

-- ---- ROWS TWO, THREE, FOUR AND THIRTY

-- the Sender's number fits where it is put
pub thirty-fits : (l : Line) (number : Bytes) → row_thirty l ≡ passed number → length number ≤ owner_size
unfolding is_duns
thirty-fits l number e =
    by_length (length number) (and_left (eqb (length number) 9 || eqb (length number) duns_size) (every is_digit number) (sender-duns l number e))
  where
    by_length : (n : ℕ) → (eqb n 9 || eqb n duns_size) ≡ true → n ≤ owner_size
    by_length n h = by-nine n h (eqb n 9) refl
      where
        by-nine : (n : ℕ) → (eqb n 9 || eqb n duns_size) ≡ true → (t : Bool) → eqb n 9 ≡ t → n ≤ owner_size
        by-nine n h true e = omega (arith, eqb-true n 9 e)
        by-nine n h false e = omega (arith, eqb-true n duns_size (or_right (eqb n 9) (eqb n duns_size) h e))

-- the row that is due, by how many were read behind row one
module _ (reg : Bytes) (rows : Rows) (l : Line) where
  pub due-two : rows.behind_one ≡ 0 → two_row rows l ≡ next_row reg rows l
  unfolding next_row due_row
  due-two e = sym (ap (λ n. due_row reg n rows l) e)

  pub due-three : rows.behind_one ≡ 1 → three_row rows l ≡ next_row reg rows l
  unfolding next_row due_row
  due-three e = sym (ap (λ n. due_row reg n rows l) e)

  pub due-four : rows.behind_one ≡ 2 → four_row rows l ≡ next_row reg rows l
  unfolding next_row due_row
  due-four e = sym (ap (λ n. due_row reg n rows l) e)

  pub due-thirty : rows.behind_one ≡ 3 → thirty_row rows l ≡ next_row reg rows l
  unfolding next_row due_row
  due-thirty e = sym (ap (λ n. due_row reg n rows l) e)

  pub due_detail : header_rows ≤ rows.behind_one → next_row reg rows l ≡ detail_row reg (rows.behind_one - header_rows) rows l
  unfolding next_row due_row
  due_detail h =
      let e : rows.behind_one ≡ suc (suc (suc (suc (rows.behind_one - header_rows)))) = omega arith in
      ap (λ n. due_row reg n rows l) e

-- ---- DETAIL ROWS

-- where the intervals of a row from i on are still to be put: one more is, and none is left
pub put-on : (w w' : Words) (at i : ℕ) (row : List Interval) (v : Interval) → i < length row → w' ≡ with_interval w (at + i) (get_or row i v)
    → with_intervals w' (at + (i + 1)) (drop (i + 1) row) ≡ with_intervals w (at + i) (drop i row)
unfolding with_intervals
put-on w w' at i row v more e =
    let next : at + (i + 1) ≡ suc (at + i) = omega arith in
    rw (drop_more row i v more, next, e)

pub put-done : (w : Words) (at i : ℕ) (row : List Interval) → length row ≤ i → with_intervals w at (drop i row) ≡ w
unfolding with_intervals
put-done w at i row all = rw (drop_all i row all)

-- the checks ask nothing of how many rows were read
pub same-checked : (reg : Bytes) (p : Progress) (parts : Parts) → checked reg (rows_of p parts) ≡ checked reg (rows_of (one_more p) parts)
unfolding checked
same-checked reg p parts = go (judge reg parts.id parts.sender p.day)
  where
    go : (j : Judgement) → by_judgement reg (rows_of p parts) j ≡ by_judgement reg (rows_of (one_more p) parts) j
    go (Refused v m) = refl
    go (Passed m d) = refl

module _ (reg : Bytes) (p : Progress) (k : ℕ) (parts : Parts) where
  pub detail_last : k + 1 ≡ p.due → checked reg (rows_of p parts) ≡ after_detail reg k (rows_of (one_more p) parts)
  unfolding after_detail
  detail_last h = same-checked reg p parts ∙ rw (eq-eqb (suc k) p.due (omega arith))

  pub detail_more : (q : Progress) → (k + 1 ≡ p.due → ⊥) → q ≡ one_more p → goes_on (rows_of q parts) ≡ after_detail reg k (rows_of (one_more p) parts)
  unfolding after_detail
  detail_more q h e = rw (e, ne_eqb (suc k) p.due (λ x. h (omega arith)))

-- the detail row that is due, by what its reader answers
module _ (reg : Bytes) (p : Progress) (parts : Parts) (l : Line) (few : header_rows ≤ p.read) where
  abbrev k : ℕ
  k = p.read - header_rows

  pub detail_refused : (v : ℕ) → row_detail k l ≡ refused v → refused_with v 0 p.day ≡ next_row reg (rows_of p parts) l
  unfolding detail_row
  detail_refused v e = rw (due_detail reg (rows_of p parts) l few, e)

  module _ (row : List Interval) (e : row_detail k l ≡ passed row) where
    pub detail_past : max_details ≤ k → refused_with wrong_code 0 p.day ≡ next_row reg (rows_of p parts) l
    unfolding detail_row
    detail_past m = rw (due_detail reg (rows_of p parts) l few, e, le-ltb k max_details m)

    pub detail_in : k < max_details → after_detail reg k (with_row (rows_of p parts) (with_intervals parts.words (k * per_row) row) parts.sender)
        ≡ next_row reg (rows_of p parts) l
    unfolding detail_row
    detail_in m = rw (due_detail reg (rows_of p parts) l few, e, lt-ltb k max_details m)
