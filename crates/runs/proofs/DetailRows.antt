-- A detail line that reads directly, as a step of the scan; the line at a place where a detail row is due; and detail rows, line after
-- line.
-- Assumes nothing.
use mathlib.Core.Path.{◌≡◌, refl, sym, ap, ◌∙◌}
use mathlib.Core.List.{List, [], ◌∷◌, ◌++◌}
use mathlib.Core.Logic.{◌⊎◌, inl, inr, ⊎_elim}
use mathlib.Core.Bool.{Bool, true, false, cond, ◌&&◌}
use Prim.Native.Nat.{ℕ, zero, suc, ◌+◌, ◌-◌, ◌*◌, ◌<◌, ◌≤◌}
use native.Mathlib.Numerals.{add-one}
use native.Mathlib.Omega.{arith}
use lib.Dec.{eqb, ltb}
use lib.ListN.{length, take, drop, length-drop}
use lib.Seq.{get_or-drop}
use borrow.Author.Tests.{eqb-true, ne_eqb, lt-ltb, le-ltb}
use Rattle.std.proofs.Common.{Some, None}
use Rattle.text.specs.Byte.{Bytes, starts_with}
use Rattle.lines.specs.Line.{ended_line, opener_bytes, detail_bytes, drop_cr, kind_of}
use Rattle.lines.specs.declared.line.Kind.TheVariants.{Opener, Detail, Other}
use Rattle.details.specs.Detail.{per_row}
use Rattle.details.specs.declared.detail.Interval.{Interval}
use Rattle.cell.specs.Read.{with_intervals}
use Rattle.plain.specs.Rows.{Rows, goes_on, header_rows, max_details, with_row, checked, after_detail, detail_row, next_row, rules_of}
use Rattle.plain.specs.Loader.{takes_rows, settle, step_kind, step_line}
use Rattle.plain.proofs.Seam.{starts_split}
use Rattle.direct.specs.Direct.{DetailLine}
use Rattle.records.specs.declared.Progress.{Progress}
use Rattle.records.specs.declared.Parts.{Parts}
use Rattle.records.specs.Answer.{rows_of, Few}
use Rattle.records.proofs.Steps.{due_detail}
use Rattle.units.specs.Answer.{judged_if}
use Rattle.runs.specs.declared.rows.Taken.{Taken}
use Rattle.runs.specs.Run.{with_read, Took, DetailTook, DetailTaken, FitsFrom, rows_to, RowsRan}
use Rattle.runs.proofs.LineMore.{empty-step, rows-begin, rows_more}

-- ---- ONE LINE

-- a detail line is one without its CR
detail_ended : (r : Bytes) → kind_of (ended_line (detail_bytes ++ r)).body ≡ Detail
unfolding kind_of ended_line drop_cr starts_with
detail_ended [] = refl
detail_ended (b ∷ r) = refl

detail_starts : (s : Bytes) → kind_of s ≡ Detail → starts_with detail_bytes s ≡ true
unfolding kind_of
detail_starts [] h = absurd (let z : ◌≡◌ {A = ℕ} 0 1 = cc in omega arith)
detail_starts (b ∷ s) h = go (starts_with opener_bytes (b ∷ s)) (starts_with detail_bytes (b ∷ s)) h
  where
    go : (o d : Bool) → cond o Opener (cond d Detail Other) ≡ Detail → d ≡ true
    go true d e = absurd (let z : ◌≡◌ {A = ℕ} 0 1 = cc in omega arith)
    go false true e = refl
    go false false e = absurd (let z : ◌≡◌ {A = ℕ} 0 1 = cc in omega arith)

detail_body : (s : Bytes) → kind_of s ≡ Detail → kind_of (ended_line s).body ≡ Detail
detail_body s h =
    let t : (r : Bytes) × (s ≡ detail_bytes ++ r) = starts_split detail_bytes s (detail_starts s h) in
    rw t.1 (detail_ended t.0)

-- within the piece
pub direct_within : (k : ℕ) (piece : Bytes) (at n : ℕ) (vs : List Interval) → DetailLine k (drop at piece) vs n → at + n < length piece
direct_within k piece at n vs d = omega (arith, d.within, length-drop at piece)

module _ (reg s : Bytes) (k n : ℕ) (vs : List Interval) (d : DetailLine k s vs n) (rows : Rows) (e : header_rows ≤ rows.behind_one)
    (at-k : rows.behind_one - header_rows ≡ k) (small : k < max_details) where
  -- what the row says
  direct_row : next_row reg rows (ended_line (take n s)) ≡ after_detail reg k (with_row rows (with_intervals rows.words (k * per_row) vs) rows.sender)
  unfolding detail_row
  direct_row = rw (due_detail reg rows (ended_line (take n s)) e, at-k, d.row, lt-ltb k max_details small)

  direct_step : (first m : ℕ)
      → step_line (rules_of reg) m (ended_line (take n s)) (takes_rows first rows)
      ≡ settle first m (after_detail reg k (with_row rows (with_intervals rows.words (k * per_row) vs) rows.sender))
  unfolding step_line step_kind rules_of
  direct_step first m = rw (detail_body (take n s) d.kind) (ap (settle first m) direct_row)

-- ---- THE LINE AT A PLACE

-- the checks follow the last row, and a further one is due behind any other
judged-row : (b : Bool) (reg : Bytes) (first n : ℕ) (rows : Rows) → settle first n (cond b (checked reg rows) (goes_on rows)) ≡ judged_if b reg n (takes_rows first rows)
unfolding settle
judged-row true reg first n rows = refl
judged-row false reg first n rows = refl

module _ (k : ℕ) (piece : Bytes) (at : ℕ) (before : Parts) (p : Progress) (small : k < max_details) (more : k < p.due) (is : p.read ≡ header_rows + k)
    (t : Taken) (after : Parts) (D : DetailTook k piece at before t after) where
  abbrev TakesIt : Type 0
  TakesIt = Took (eqb (k + t.rows) p.due) p piece at before t after

  took-gap : t.rows ≡ 0 → TakesIt
  took-gap z =
      let h = D.gap z in
      let n : p.read + 0 ≡ p.read = omega arith in
      let j : k + 0 ≡ k = omega arith in
      record {
        id = ap (λ r. r.id) h.1;
        line = h.0.line;
        step = λ reg first m.
            empty-step (rules_of reg) piece at t.size h.0 m (takes_rows first (rows_of p before))
            ∙ rw (z, n, j, h.1, ne_eqb k p.due (λ e. omega arith));
      }

  took-row : t.rows ≡ 1 → TakesIt
  took-row z =
      let h = D.row z in
      let size : ℕ = t.size - 1 in
      let c : at + size - at ≡ size = omega arith in
      let past : at + t.size ≤ length piece = omega (arith, direct_within k piece at size h.intervals h.line, h.some) in
      record {
        id = ap (λ r. r.id) h.put;
        line =
            record {
              some = h.some;
              within = past;
              ends = sym (get_or-drop at piece size 0) ∙ h.line.ends;
              clean = rw c h.line.clean;
            };
        step = λ reg first m.
            rw (c, z, add-one k, add-one p.read)
            (direct_step reg (drop at piece) k size h.intervals h.line (rows_of p before) (omega arith) (omega arith) small first m
            ∙ unfold with_row after_detail in rw h.put (judged-row (eqb (suc k) p.due) reg first m _));
      }

  detail_took : TakesIt
  detail_took = ⊎_elim took-gap took-row (zero_or_one t.rows D.few)
    where
      zero_or_one : (n : ℕ) → n ≤ 1 → (n ≡ 0) ⊎ (n ≡ 1)
      zero_or_one zero h = inl refl
      zero_or_one (suc zero) h = inr refl
      zero_or_one (suc (suc n)) h = absurd (omega (arith, h))

-- ---- DETAIL ROWS

-- behind rows from `from` to k the day's last is in
abbrev pub all_in : ℕ → ℕ → ℕ → Bool
all_in due from k = ltb from k && eqb k due

all_same : (from k due rows : ℕ) → from ≤ k → k < due → eqb (k + rows) due ≡ all_in due from (k + rows)
all_same from k due rows h more = go (eqb (k + rows) due) refl
  where
    and-false : (b : Bool) → false ≡ (b && false)
    and-false true = refl
    and-false false = refl

    go : (b : Bool) → eqb (k + rows) due ≡ b → eqb (k + rows) due ≡ all_in due from (k + rows)
    go true e = rw (e, lt-ltb from (k + rows) (omega (arith, eqb-true (k + rows) due e)))
    go false e = rw e (and-false (ltb from (k + rows)))

not_all : (from k due : ℕ) → k < due → all_in due from k ≡ false
not_all from k due more = rw (ne_eqb k due (λ e. omega arith)) (go (ltb from k))
  where
    go : (b : Bool) → (b && false) ≡ false
    go true = refl
    go false = refl

module _ (p : Progress) (lines : ℕ) (piece : Bytes) (at : ℕ) (before : Parts) (from : ℕ) where
  abbrev pub DetailsTo : Parts → ℕ → ℕ → ℕ → Type 0
  DetailsTo parts k n e = RowsRan p lines piece at before (rows_to p (header_rows + k) n e (all_in p.due from k)) parts

  pub details_begin : Few p → from ≡ p.read - header_rows → header_rows ≤ p.read → FitsFrom lines piece at
      → DetailsTo before from lines at
  details_begin few is some fits =
      let r : header_rows + from ≡ p.read = omega arith in
      rw (r, le-ltb from from (omega arith)) (rows-begin p lines piece at before few fits)

  module _ (parts : Parts) (k n e : ℕ) (inv : DetailsTo parts k n e) (more : k < p.due) (after : Parts) where
    inv_on : RowsRan p lines piece at before (rows_to p (header_rows + k) n e false) parts
    inv_on = rw (not_all from k p.due more) at inv

    -- one for the plain way
    pub details_stop : DetailTaken k piece e parts None after → RowsRan p lines piece at before (rows_to p (header_rows + k) n e false) after
    details_stop D = rw D inv_on

    module _ (t : Taken) (D : DetailTaken k piece e parts (Some t) after) (small : k < max_details) where
      took : Took (eqb (k + t.rows) p.due) (with_read p (header_rows + k)) piece e parts t after
      took = detail_took k piece e parts (with_read p (header_rows + k)) small more refl t after D

      pub details_again : from ≤ k → DetailsTo after (k + t.rows) (n + 1) (e + t.size)
      details_again h =
          let c : header_rows + (k + t.rows) ≡ header_rows + k + t.rows = omega arith in
          rw (c, ← all_same from k p.due t.rows h more)
          (rows_more p lines piece at before (with_read p (header_rows + k)) n e parts inv_on (eqb (k + t.rows) p.due) t after (omega (arith, D.few)) took)
