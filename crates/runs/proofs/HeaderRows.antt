-- A header row that passes, as a step of the scan; the line at a place where a header row is due; and header rows, line after line.
-- Assumes nothing.
use mathlib.Core.Path.{◌≡◌, refl, sym, ap, ◌∙◌}
use mathlib.Core.List.{List, [], ◌++◌}
use mathlib.Core.Bool.{Bool, true, false, not}
use Prim.Native.Nat.{ℕ, zero, suc, ◌+◌, ◌-◌, ◌<◌}
use native.Mathlib.Numerals.{add-one}
use native.Mathlib.Omega.{arith}
use lib.ListN.{length, take, drop, take-append-drop}
use Rattle.std.proofs.Common.{Some, None}
use Rattle.std.specs.Prelude.{Result, Ok, Err, OnErr, is_ok}
use Rattle.text.specs.Byte.{Bytes, ascii, equals, starts_with}
use Rattle.text.specs.Field.{cut, first_field}
use Rattle.text.proofs.Truth.{apart}
use Rattle.text.proofs.Equal.{equals_path}
use Rattle.text.proofs.Comma.{field_take, cut-some, cut_at}
use Rattle.lines.specs.Line.{Line, is_long, ended_line, kind_of}
use Rattle.lines.specs.End.{between, LineEnd, EmptyAt}
use Rattle.report.specs.Outcome.{Outcome, passed, refused, require, ◌>>=◌}
use Rattle.lines.specs.Row.{fields_of, ◌!◌}
use Rattle.report.specs.Verdict.{long, wrong_code}
use Rattle.report.specs.declared.verdict.Verdict.{Verdict}
use Rattle.lines.specs.declared.line.Kind.TheVariants.{Other}
use Rattle.report.proofs.Passing.{bind_passed, then_passed, require-passed}
use Rattle.cell.specs.Layout.{Words}
use Rattle.headers.specs.Two.{row_two}
use Rattle.headers.specs.Three.{row_three}
use Rattle.headers.specs.Four.{row_four}
use Rattle.headers.specs.Thirty.{row_thirty}
use Rattle.plain.specs.Rows.{Rows, Row, goes_on, header_rows, or_else, with_row, next_row, rules_of}
use Rattle.plain.specs.Loader.{takes_rows, settle, step_kind, step_line}
use Rattle.records.specs.declared.Progress.{Progress}
use Rattle.records.specs.declared.Parts.{Parts}
use Rattle.records.specs.Answer.{rows_of, header_says, one_more}
use Rattle.records.proofs.Steps.{due-two, due-three, due-four, due-thirty}
use Rattle.runs.specs.declared.Passed.{Passed}
use Rattle.runs.specs.declared.rows.Taken.{Taken}
use Rattle.runs.specs.Run.{went_by, taken_rows, with_read, HeaderRead, HeaderTaken, RowsRan}
use Rattle.runs.proofs.LineMore.{line_at, empty-step, rows_more}

-- ---- THE KIND OF ITS LINE

-- the code that is due is the line's first field
code_first : (code : Bytes) (n : ℕ) (l : Line) (fields : List Bytes) → fields_of code n l ≡ passed fields → first_field l.body ≡ code
unfolding fields_of
code_first code n l fields e =
    let s = then_passed (require (not (is_long l)) long) fields _ e in
    let c = then_passed (require (equals (cut l.body ! 1) code) wrong_code) fields _ s.2 in
    sym (cut_at 0 l.body (cut-some l.body))
    ∙ equals_path (cut l.body ! 1) code (require-passed (equals (cut l.body ! 1) code) wrong_code c.0 c.1)

-- so that the line is neither empty nor an opener nor a detail line, if none that begins with the code is
module _ (code : Bytes) (other : (rest : Bytes) → kind_of (code ++ rest) ≡ Other) (n : ℕ) (l : Line) where
  code_other : (fields : List Bytes) → fields_of code n l ≡ passed fields → kind_of l.body ≡ Other
  code_other fields e =
      let front : take (length code) l.body ≡ code = rw (← code_first code n l fields e) (sym (field_take l.body)) in
      let whole : l.body ≡ code ++ drop (length code) l.body =
      sym (take-append-drop (length code) l.body) ∙ ap (λ s. s ++ drop (length code) l.body) front in
      ap kind_of whole ∙ other (drop (length code) l.body)

  row_other : {A : Type 0} (read : List Bytes → Outcome A) (a : A) → (fields_of code n l >>= read) ≡ passed a → kind_of l.body ≡ Other
  row_other read a e =
      let f = bind_passed (fields_of code n l) a read e in
      code_other f.0 f.1

-- ---- A ROW THAT PASSES

or_goes : {A : Type 0} (day : ℕ) (next : A → Row) (rows : Rows) (o : Outcome A) → or_else day o next ≡ goes_on rows
    → (a : A) × (o ≡ passed a) × (next a ≡ goes_on rows)
or_goes day next rows (passed a) e = (a, refl, e)
or_goes day next rows (refused v) e = absurd (let z : ◌≡◌ {A = ℕ} 0 1 = cc in omega arith)

with_row_lem : (rows rows' : Rows) (words : Words) (sender : Bytes) → goes_on (with_row rows words sender) ≡ goes_on rows'
    → rows' ≡ with_row rows rows'.words rows'.sender
unfolding with_row
with_row_lem rows rows' words sender e =
    let is : with_row rows words sender ≡ rows' = cc in
    rw (← is)

-- its line is neither empty nor an opener nor a detail line, and the record has one row more
module _ (reg : Bytes) (rows : Rows) (l : Line) (rows' : Rows) (e : next_row reg rows l ≡ goes_on rows') where
  abbrev Goes : Type 0
  Goes = (kind_of l.body ≡ Other) × (rows' ≡ with_row rows rows'.words rows'.sender)

  header_goes : rows.behind_one < header_rows → Goes
  unfolding row_two row_three row_four row_thirty kind_of starts_with
  header_goes h = go rows.behind_one refl h
    where
      go : (n : ℕ) → rows.behind_one ≡ n → n < header_rows → Goes
      go zero q h =
          let t = or_goes rows.day _ rows' (row_two l) (due-two reg rows l q ∙ e) in
          (row_other (ascii "00000002") (λ r. refl) 14 l _ t.0 t.1, with_row_lem rows rows' _ _ t.2)
      go (suc zero) q h =
          let t = or_goes rows.day _ rows' (row_three l) (due-three reg rows l q ∙ e) in
          (row_other (ascii "00000003") (λ r. refl) 2 l _ t.0 t.1, with_row_lem rows rows' _ _ t.2)
      go (suc (suc zero)) q h =
          let t = or_goes rows.day _ rows' (row_four l) (due-four reg rows l q ∙ e) in
          (row_other (ascii "00000004") (λ r. refl) 3 l _ t.0 t.1, with_row_lem rows rows' _ _ t.2)
      go (suc (suc (suc zero))) q h =
          let t = or_goes rows.day _ rows' (row_thirty l) (due-thirty reg rows l q ∙ e) in
          (row_other (ascii "00000030") (λ r. refl) 6 l _ t.0 t.1, with_row_lem rows rows' _ _ t.2)
      go (suc (suc (suc (suc n)))) q h = absurd (omega (arith, h))

-- the answer of its reader, as that of its line
module _ (p : Progress) (raw : Bytes) (l : Line) (before after : Parts) (few : p.read < header_rows) (is : l ≡ ended_line raw) where
  step-passed : (q : Progress) → ((reg : Bytes) → goes_on (rows_of q after) ≡ next_row reg (rows_of p before) l) → (reg : Bytes) (first n : ℕ)
      → step_line (rules_of reg) n (ended_line raw) (takes_rows first (rows_of p before))
      ≡ record { unit = takes_rows first (rows_of (one_more p) after); events = [] }
  unfolding step_line step_kind rules_of settle with_row
  step-passed q says reg first n =
      let goes : next_row reg (rows_of p before) l ≡ goes_on (rows_of q after) = sym (says reg) in
      let g = header_goes reg (rows_of p before) l (rows_of q after) goes few in
      let id : after.id ≡ before.id = ap (λ r. r.esi_id) g.1 in
      rw (← is, g.0, goes, g.1, id)

  pub header_read : (row : Result Progress Verdict) → ((reg : Bytes) → header_says row p.day after ≡ next_row reg (rows_of p before) l)
      → OnErr row (after ≡ before) → after.id ≡ before.id → HeaderRead p raw (is_ok row) before after
  header_read (Ok q) says kept id = record { id = id; step = λ t reg first n. step-passed q says reg first n; stays = λ f. absurd (apart (sym f)) }
  header_read (Err v) says kept id = record { id = id; step = λ t. absurd (apart t); stays = λ f. kept }

-- ---- THE LINE AT A PLACE

module _ (p : Progress) (piece : Bytes) (at : ℕ) (before : Parts) where
  pub header_gap : (size : ℕ) (t : Taken) → t ≡ taken_rows size 0 → EmptyAt piece at size → HeaderTaken p piece at before (Some t) before
  header_gap size t is h =
      let z : p.read + 0 ≡ p.read = omega arith in
      rw is (
        omega arith,
        record {
          id = refl;
          line = h.line;
          step = λ reg first n. empty-step (rules_of reg) piece at size h n (takes_rows first (rows_of p before)) ∙ rw z;
        },
      )

  pub header_took : (end : ℕ) → LineEnd piece at end → end < length piece → (passes : Bool) (after : Parts)
      → HeaderRead p (between at end piece) passes before after → passes ≡ true
      → HeaderTaken p piece at before (Some (record { size = end - at + 1; rows = 1 })) after
  header_took end E inside passes after h t =
      let e : at + (end - at + 1 - 1) ≡ end = omega (arith, E.none.behind) in (
        omega arith,
        record {
          id = h.id;
          line = line_at piece at end E inside;
          step = λ reg first n. rw (e, add-one p.read) (h.step t reg first n);
        },
      )

-- ---- HEADER ROWS

module _ (p : Progress) (lines : ℕ) (piece : Bytes) (at : ℕ) (before : Parts) (r : Passed Progress) (parts : Parts)
    (inv : RowsRan p lines piece at before (went_by r.unit r.lines r.at) parts) (after : Parts) where
  pub headers_stop : HeaderTaken r.unit piece r.at parts None after → RowsRan p lines piece at before (went_by r.unit r.lines r.at) after
  headers_stop h = rw h inv

  pub headers_again : (t : Taken) → HeaderTaken r.unit piece r.at parts (Some t) after → r.unit.read < header_rows
      → RowsRan p lines piece at before (went_by (with_read r.unit (r.unit.read + t.rows)) (r.lines + 1) (r.at + t.size)) after
  headers_again t h few = rows_more p lines piece at before r.unit r.lines r.at parts inv false t after (omega (arith, h.0)) h.1
