-- The rows of a record, one by one, say what the whole record says at once (specs/Record.antt).
-- Assumes nothing.
use mathlib.Core.Path.{◌≡◌, sym, ap, ◌∙◌}
use mathlib.Core.List.{List, [], ◌∷◌, ◌++◌}
use mathlib.Core.Bool.{Bool}
use Prim.Native.Nat.{ℕ, suc, ◌+◌, ◌*◌, ◌/◌, ◌<◌, ◌≤◌}
use native.Mathlib.Omega.{arith}
use lib.ListN.{length}
use borrow.Author.Tests.{lt-ltb, eq-eqb, ne_eqb}
use Rattle.calendar.specs.Intervals.{intervals_on}
use Rattle.text.specs.Byte.{Bytes}
use Rattle.text.specs.Identifier.{esi_id_size}
use Rattle.lines.specs.Line.{Line}
use Rattle.report.specs.Outcome.{Outcome, passed, require}
use Rattle.lines.specs.Row.{fields_of}
use Rattle.report.specs.Verdict.{misfit}
use Rattle.headers.specs.One.{row_one}
use Rattle.headers.specs.Two.{row_two}
use Rattle.headers.specs.Three.{row_three}
use Rattle.headers.specs.Four.{row_four}
use Rattle.headers.specs.Thirty.{row_thirty}
use Rattle.details.specs.Detail.{per_row, detail_code, four_of, detail_of, row_detail}
use Rattle.details.specs.declared.detail.Interval.{Interval}
use Rattle.padded.specs.Padding.{pad}
use Rattle.registry.specs.Entry.{owner_size}
use Rattle.cell.specs.Layout.{Words}
use Rattle.cell.specs.Read.{begun, with_stamp, with_intervals, read_words}
use Rattle.cell.proofs.Built.{put-append}
use Rattle.plain.specs.Rows.{Rows, goes_on, header_rows, max_details, begins, first_row, with_row}
use Rattle.plain.specs.Rows.{checked, after_detail, detail_row, due_row, next_row, rules_of}
use Rattle.plain.specs.Record.{RecordLines, RecordSays, detail_rows, record_says, read_of, said_rows, lines_behind, rows_from}
use Rattle.report.proofs.Passing.{bind_passed, then_passed}
use Rattle.plain.proofs.Rules.{intervals_bounds}

-- ---- A DETAIL ROW gives four intervals.

four-long : (o p q r : Outcome Interval) (empty : Bool) (vs : List Interval) → four_of o p q r empty ≡ passed vs → length vs ≡ per_row
unfolding four_of
four-long o p q r empty vs e =
    let a = bind_passed o vs _ e in
    let b = bind_passed p vs _ a.2 in
    let c = bind_passed q vs _ b.2 in
    let d = bind_passed r vs _ c.2 in
    let f = then_passed (require empty misfit) vs _ d.2 in
    let g : vs ≡ a.0 ∷ b.0 ∷ c.0 ∷ d.0 ∷ [] = cc in
    ap length g

detail_long : (k : ℕ) (l : Line) (vs : List Interval) → row_detail k l ≡ passed vs → length vs ≡ per_row
unfolding row_detail detail_of
detail_long k l vs e = four-long _ _ _ _ _ vs (bind_passed (fields_of (detail_code k) 14 l) vs detail_of e).2

-- ---- WHAT EACH ROW SAYS, where the record says s

record Said (r : RecordLines) (s : RecordSays) : Type 0 where
  one : row_one r.one ≡ passed s.one
  two : row_two r.two ≡ passed tt
  three : row_three r.three ≡ passed tt
  four : row_four r.four ≡ passed s.stamp
  thirty : row_thirty r.thirty ≡ passed s.sender
  details : detail_rows 0 r.details ≡ passed s.intervals

said : (r : RecordLines) (s : RecordSays) → record_says r ≡ passed s → Said r s
unfolding record_says
said r s e =
    let one = bind_passed (row_one r.one) s _ e in
    let two = then_passed (row_two r.two) s _ one.2 in
    let three = then_passed (row_three r.three) s _ two.2 in
    let four = bind_passed (row_four r.four) s _ three.2 in
    let thirty = bind_passed (row_thirty r.thirty) s _ four.2 in
    let details = bind_passed (detail_rows 0 r.details) s _ thirty.2 in
    let is : record { one = one.0; stamp = four.0; sender = thirty.0; intervals = details.0 } ≡ s = cc in
    rw (← is)
    (record { one = one.1; two = two.1; three = three.1; four = four.1; thirty = thirty.1; details = details.1 })

-- ---- THE ROWS, one by one

module _ (reg : Bytes) (s : RecordSays) where
  -- the detail rows of the day
  abbrev due : ℕ
  due = intervals_on s.one.day / per_row

  -- what the rows have said when n are in behind row one
  abbrev so_far : ℕ → Bytes → Words → Rows
  so_far n sender words =
      record {
        behind_one = n;
        due = due;
        day = s.one.day;
        channel = s.one.channel;
        esi_id = pad esi_id_size s.one.esi_id;
        sender = pad owner_size sender;
        words = words;
      }

  -- a row behind which another is due
  row_in : (l : Line) (ls : List Line) (rows next : Rows) → (rules_of reg).row_next rows l ≡ goes_on next
      → rows_from (rules_of reg) (l ∷ ls) (goes_on rows) ≡ rows_from (rules_of reg) ls (goes_on next)
  unfolding rows_from
  row_in l ls rows next e = ap (rows_from (rules_of reg) ls) e

  headers_in : (r : RecordLines) → Said r s
      → rows_from (rules_of reg) (lines_behind r) ((rules_of reg).row_one r.one)
      ≡ rows_from (rules_of reg) r.details (goes_on (so_far header_rows s.sender (with_stamp (begun (intervals_on s.one.day)) s.stamp)))
  unfolding lines_behind rules_of first_row begins next_row due_row with_row
  headers_in r h =
      let b : Words = begun (intervals_on s.one.day) in
      let stamped : Words = with_stamp b s.stamp in
      ap (rows_from (rules_of reg) (lines_behind r)) (rw h.one)
      ∙ row_in r.two _ (so_far 0 [] b) (so_far 1 [] b) (rw h.two)
      ∙ row_in r.three _ (so_far 1 [] b) (so_far 2 [] b) (rw h.three)
      ∙ row_in r.four _ (so_far 2 [] b) (so_far 3 [] stamped) (rw h.four)
      ∙ row_in r.thirty _ (so_far 3 [] stamped) (so_far header_rows s.sender stamped) (rw h.thirty)

  -- when k detail rows are in
  abbrev detailed : ℕ → Words → Rows
  detailed k words = so_far (header_rows + k) s.sender words

  -- detail row k, as long as there may be that many
  detail_in : (k : ℕ) (w : Words) (l : Line) (four : List Interval) → row_detail k l ≡ passed four → k < max_details
      → (rules_of reg).row_next (detailed k w) l ≡ after_detail reg k (detailed (suc k) (with_intervals w (k * per_row) four))
  unfolding rules_of next_row due_row detail_row with_row
  detail_in k w l four e room =
      let here : header_rows + k ≡ suc (suc (suc (suc k))) = omega arith in
      let next : header_rows + suc k ≡ suc (suc (suc (suc (suc k)))) = omega arith in
      rw (here, next, e, lt-ltb k max_details room)

  -- the last one ends the record, any other goes on
  after_in : (ls : List Line) (k : ℕ) (w : Words) (vs : List Interval) → detail_rows (suc k) ls ≡ passed vs → suc k + length ls ≡ due
      → (0 < length ls → rows_from (rules_of reg) ls (goes_on (detailed (suc k) w)) ≡ checked reg (detailed due (with_intervals w (suc k * per_row) vs)))
      → rows_from (rules_of reg) ls (after_detail reg k (detailed (suc k) w)) ≡ checked reg (detailed due (with_intervals w (suc k * per_row) vs))
  unfolding rows_from after_detail detail_rows with_intervals
  after_in [] k w vs e all others =
      let none : vs ≡ [] = cc in
      let last : suc k ≡ due = omega arith in
      rw (eq-eqb (suc k) due last, none) (ap (λ (n : ℕ). checked reg (detailed n w)) last)
  after_in (l ∷ ls) k w vs e all others = rw (ne_eqb (suc k) due (λ p. omega arith)) (others (omega arith))

  details_in_lem : (ls : List Line) (k : ℕ) (w : Words) (vs : List Interval) → detail_rows k ls ≡ passed vs → k + length ls ≡ due → 0 < length ls
      → due ≤ max_details
      → rows_from (rules_of reg) ls (goes_on (detailed k w)) ≡ checked reg (detailed due (with_intervals w (k * per_row) vs))
  unfolding rows_from detail_rows
  details_in_lem [] k w vs e all some room = absurd (omega arith)
  details_in_lem (l ∷ ls) k w vs e all some room =
      let four = bind_passed (row_detail k l) vs _ e in
      let more = bind_passed (detail_rows (suc k) ls) vs _ four.2 in
      let put : Words = with_intervals w (k * per_row) four.0 in
      let is : four.0 ++ more.0 ≡ vs = cc in
      let next : k * per_row + length four.0 ≡ suc k * per_row = omega (arith, detail_long k l four.0 four.1) in
      let whole : with_intervals w (k * per_row) vs ≡ with_intervals put (suc k * per_row) more.0 =
      ap (with_intervals w (k * per_row)) (sym is) ∙ put-append w (k * per_row) four.0 more.0 ∙ rw next in
      ap (rows_from (rules_of reg) ls) (detail_in k w l four.0 four.1 (omega arith))
      ∙ rw whole
      (after_in ls k put more.0 more.1 (omega arith) (λ h. details_in_lem ls (suc k) put more.0 more.1 (omega arith) h room))

-- a record that says s, with the detail rows of its day, is judged by what `said_rows s` says
pub whole-record : (reg : Bytes) (r : RecordLines) (s : RecordSays) → record_says r ≡ passed s
    → length r.details * per_row ≡ intervals_on s.one.day
    → rows_from (rules_of reg) (lines_behind r) ((rules_of reg).row_one r.one) ≡ checked reg (said_rows s (length r.details))
unfolding said_rows read_of read_words
whole-record reg r s e all =
    let h : Said r s = said r s e in
    let few = intervals_bounds s.one.day in
    let n : length r.details ≡ due reg s = omega arith in
    headers_in reg s r h ∙ rw n (details_in_lem reg s r.details 0 _ s.intervals h.details (omega arith) (omega arith) (omega arith))
