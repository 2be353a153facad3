-- A record's text: its rows one behind the other, each in its room, and how long it can be.
-- Assumes nothing.
use mathlib.Core.Path.{◌≡◌, refl, sym, ap, ◌∙◌}
use mathlib.Core.List.{List, [], ◌∷◌, ◌++◌, append_assoc, append-nil}
use mathlib.Core.Bool.{Bool, true, false}
use Prim.Native.Nat.{ℕ, zero, suc, ◌+◌, ◌*◌, ◌/◌, ◌<◌, ◌≤◌}
use native.Mathlib.Numerals.{add-one}
use native.Mathlib.Omega.{arith}
use lib.ListN.{length, get_or, length-append, length-drop}
use lib.Dec.{eqb}
use lib.Seq.{get_or-drop}
use borrow.Author.Tests.{leb-true, eqb-true, eqb-false}
use Rattle.text.specs.Byte.{Bytes, every}
use Rattle.text.specs.Identifier.{esi_id_size, duns_size, descriptor_size}
use Rattle.text.proofs.Class.{every-at}
use Rattle.lines.specs.Line.{LF}
use Rattle.details.specs.Detail.{per_row}
use Rattle.details.specs.declared.detail.Interval.{Interval}
use Rattle.cell.specs.Layout.{Words, width, count_at, values_at, max_intervals}
use Rattle.cell.specs.Read.{interval_in, stamp_in}
use Rattle.reads.specs.Sound.{max_value, is_value, values_of}
use Rattle.lines.specs.Text.{row, rows}
use Rattle.lines.proofs.Text.{rows_more}
use Rattle.rowtext.specs.Text.{line_one, line_two, line_three, line_four, line_thirty, line_detail}
use Rattle.rowtext.specs.Value.{value_end}
use Rattle.rowtext.proofs.Lengths.{one-length, three-length, four-length, thirty-length, detail_length}
use Rattle.writer.specs.Record.{row_of, detail_line, detail_lines, record_lines, record_text, record_limit}
use Rattle.std.specs.List.{All}

-- ---- DETAIL ROWS

details-next : (k : ℕ) (w : Words) → rows (detail_lines (k + 1) w) ≡ rows (detail_lines k w) ++ row (detail_line w k)
unfolding detail_lines
details-next k w =
    ap (λ (n : ℕ). rows (detail_lines n w)) (add-one k)
    ∙ rows_more (detail_lines k w) (detail_line w k)

pub details-size : (k : ℕ) (w : Words) → length (rows (detail_lines (k + 1) w)) ≡ length (rows (detail_lines k w)) + length (row (detail_line w k))
details-size k w = ap length (details-next k w) ∙ length-append (rows (detail_lines k w)) (row (detail_line w k))

-- a row more takes no less room
pub details_grow : (n k : ℕ) (w : Words) → k < n → length (rows (detail_lines (k + 1) w)) ≤ length (rows (detail_lines n w))
details_grow zero k w h = absurd (omega arith)
details_grow (suc n) k w h = go (eqb k n) refl (λ l. details_grow n k w l)
  where
    go : (t : Bool) → eqb k n ≡ t → (k < n → length (rows (detail_lines (k + 1) w)) ≤ length (rows (detail_lines n w)))
        → length (rows (detail_lines (k + 1) w)) ≤ length (rows (detail_lines (suc n) w))
    go true e ih = rw (eqb-true k n e, add-one n) (omega arith)
    go false e ih =
        let d : k ≡ n → ⊥ = eqb-false k n e in
        omega (arith, ih (omega arith), rw (add-one n) at (details-size n w))

module _ (w : Words) (wide : length w ≡ width) (values : every is_value (values_of w) ≡ true) where
  -- each value can be written
  pub value-small : (i : ℕ) → i < max_intervals → (interval_in w i).wh < value_end
  unfolding interval_in
  value-small i h =
      let v : is_value (get_or (values_of w) i 0) ≡ true = every-at is_value (values_of w) i values (omega (arith, length-drop values_at w)) in
      omega (arith, leb-true (get_or (values_of w) i 0) max_value v, get_or-drop values_at w i 0)

-- detail row k behind a text t and the rows before it: there is room for it, and it is the next
module _ (t u : Bytes) (k : ℕ) (w : Words) (found : List Interval) (e : found ≡ row_of w k) (so_far : u ≡ t ++ rows (detail_lines k w)) where
  pub row_room : {size : ℕ} (n : ℕ) → k < n → length t + length (rows (detail_lines n w)) ≤ size → length u + length (row (line_detail k found)) ≤ size
  row_room n l room =
      let before : length u ≡ length t + length (rows (detail_lines k w)) = ap length so_far ∙ length-append t (rows (detail_lines k w)) in
      rw e (omega (arith, before, details-size k w, details_grow n k w l, room))

  pub row_again : {v : Bytes} → v ≡ u ++ row (line_detail k found) → v ≡ t ++ rows (detail_lines (k + 1) w)
  row_again p = p ∙ rw (so_far, e, details-next k w) (append_assoc t (rows (detail_lines k w)) (row (detail_line w k)))

module _ (n k : ℕ) (w : Words) (l : k < n) (most : n * per_row ≤ max_intervals) (wide : length w ≡ width) (values : every is_value (values_of w) ≡ true) where
  row_fits : All (λ v. v.wh < value_end) (row_of w k)
  row_fits zero v h = value-small w wide values (k * per_row) (omega (arith, l, most))
  row_fits (suc zero) v h = value-small w wide values (k * per_row + 1) (omega (arith, l, most))
  row_fits (suc (suc zero)) v h = value-small w wide values (k * per_row + 2) (omega (arith, l, most))
  row_fits (suc (suc (suc zero))) v h = value-small w wide values (k * per_row + 3) (omega (arith, l, most))
  row_fits (suc (suc (suc (suc i)))) v h = absurd (omega arith)

  pub found_fits : (found : List Interval) → found ≡ row_of w k → All (λ v. v.wh < value_end) found
  found_fits found e = rw e row_fits

pub no_rows : (t : Bytes) (w : Words) → t ≡ t ++ rows (detail_lines 0 w)
unfolding detail_lines rows
no_rows t w = sym (append-nil t)

details-most : (n : ℕ) (w : Words) → length (rows (detail_lines n w)) ≤ n * 66
unfolding detail_lines rows
details-most zero w = omega arith
details-most (suc n) w =
    let size = rw (add-one n) at (details-size n w) in
    omega (arith, size, details-most n w, length-append (detail_line w n) (LF ∷ []), detail_length n (row_of w n) refl)

-- ---- THE WHOLE RECORD

module _ (id owner : Bytes) (c date : ℕ) (descriptor : Bytes) (w : Words) where
  pub record_is_lem :
      record_text id owner c date descriptor w
      ≡ row (line_one id c date) ++ row line_two ++ row (line_three descriptor) ++ row (line_four (stamp_in w)) ++ row (line_thirty owner)
      ++ rows (detail_lines (get_or w count_at 0 / per_row) w)
  unfolding record_text record_lines rows
  record_is_lem =
      let d : Bytes = rows (detail_lines (get_or w count_at 0 / per_row) w) in
      parts (row (line_one id c date)) (row line_two) (row (line_three descriptor)) (row (line_four (stamp_in w))) (row (line_thirty owner)) d
    where
      parts : (p q r s t d : Bytes) → p ++ (q ++ (r ++ (s ++ (t ++ d)))) ≡ p ++ q ++ r ++ s ++ t ++ d
      parts p q r s t d = simp append_assoc

  pub record-size :
      length (record_text id owner c date descriptor w)
      ≡ length (row (line_one id c date)) + length (row line_two) + length (row (line_three descriptor)) + length (row (line_four (stamp_in w))) + length (row (line_thirty owner))
      + length (rows (detail_lines (get_or w count_at 0 / per_row) w))
  record-size = rw record_is_lem (simp length-append)

  -- the longest record
  pub record-most : length id ≤ esi_id_size → length owner ≤ duns_size → length descriptor ≤ descriptor_size → get_or w count_at 0 ≤ max_intervals
      → length (record_text id owner c date descriptor w) ≤ record_limit
  record-most i o d n =
      rw record-size
      (omega (
        arith,
        length-append (line_one id c date) (LF ∷ []),
        one-length id c date,
        length-append (line_three descriptor) (LF ∷ []),
        three-length descriptor,
        length-append (line_four (stamp_in w)) (LF ∷ []),
        four-length (stamp_in w),
        length-append (line_thirty owner) (LF ∷ []),
        thirty-length owner,
        details-most (get_or w count_at 0 / per_row) w,
      ))

pub ruleset record_parts = (append_assoc, length-append, record_is_lem)
