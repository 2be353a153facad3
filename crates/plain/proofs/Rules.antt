-- The rules of every registry are lawful: all that `Lawful` asks of them holds.
-- Assumes nothing.
use mathlib.Core.Path.{◌≡◌, refl, ◌∙◌}
use mathlib.Core.List.{List, [], ◌∷◌}
use mathlib.Core.Logic.{◌⊎◌, inl, inr}
use mathlib.Core.Bool.{Bool, true, false, cond}
use Prim.Native.Nat.{ℕ, zero, suc, ◌+◌, ◌*◌, ◌<◌, ◌≤◌}
use native.Mathlib.Omega.{arith}
use lib.Dec.{eqb, ltb}
use lib.ListN.{length, set, length-set}
use lib.Seq.{get_or-set_other}
use borrow.Author.Tests.{ltb-true, lt-ltb, ne_eqb}
use Rattle.calendar.specs.Intervals.{intervals_on}
use Rattle.calendar.proofs.Laws.{intervals-three}
use Rattle.text.specs.Byte.{Bytes}
use Rattle.text.proofs.Truth.{and_both}
use Rattle.lines.specs.Line.{Line, is_long}
use Rattle.report.specs.Outcome.{Outcome, passed, refused, ◌>>=◌}
use Rattle.lines.specs.Row.{fields_of}
use Rattle.report.specs.Verdict.{long, wrong_code}
use Rattle.headers.specs.One.{channel_number, row_one}
use Rattle.headers.specs.Two.{row_two}
use Rattle.headers.specs.Three.{row_three}
use Rattle.headers.specs.Four.{row_four}
use Rattle.headers.specs.Thirty.{row_thirty}
use Rattle.headers.specs.declared.one.Channel.{Channel}
use Rattle.headers.specs.declared.one.Channel.TheVariants.{Load, Generation}
use Rattle.headers.specs.declared.time.Stamp.{Stamp}
use Rattle.details.specs.Detail.{per_row, row_detail}
use Rattle.details.specs.declared.detail.Interval.{Interval}
use Rattle.cell.specs.Layout.{Words, width, count_at, date_at, clock_at, values_at, max_intervals}
use Rattle.reads.specs.Load.{holds_none}
use Rattle.cell.specs.Marks.{mark_word, with_mark}
use Rattle.cell.specs.Read.{cleared, begun, with_stamp, marked_if, with_interval, with_intervals}
use Rattle.checks.specs.Check.{Judgement, Passed, Refused, judge}
use Rattle.cells.specs.Number.{channels}
use Rattle.cells.specs.Address.{meter_count, day_count, cells_of, is_address, cell_of}
use Rattle.checks.proofs.Passed.{judged-within}
use Rattle.cells.proofs.Numbers.{number-below}
use Rattle.cells.proofs.Passed.{address-among}
use Rattle.plain.specs.Rows.{Rows, Row, refused_with, goes_on, header_rows, max_details, or_else, begins, first_row, with_row}
use Rattle.plain.specs.Rows.{by_judgement, checked, after_detail, detail_row, due_row, next_row, rules_of}
use Rattle.plain.proofs.Lawful.{GoodRows, GoodRow, Lawful}

-- ---- THE WORDS of a read that is being built are as many as a cell has, and word 0 is not 0: row one gives it, later rows leave it.

record Building (w : Words) : Type 0 where
  wide : length w ≡ width
  held : holds_none w ≡ false

-- every day has intervals, and no more than a cell has room for
pub intervals_bounds : (day : ℕ) → (0 < intervals_on day) × (intervals_on day ≤ max_intervals)
intervals_bounds day = go (intervals-three day)
  where
    go : (intervals_on day ≡ 92) ⊎ ((intervals_on day ≡ 96) ⊎ (intervals_on day ≡ 100)) → (0 < intervals_on day) × (intervals_on day ≤ max_intervals)
    go (inl h) = (omega arith, omega arith)
    go (inr (inl h)) = (omega arith, omega arith)
    go (inr (inr h)) = (omega arith, omega arith)

begun-day : (day : ℕ) → Building (begun (intervals_on day))
unfolding begun cleared holds_none
begun-day day = record { wide = refl; held = ne_eqb (intervals_on day) 0 (λ p. omega (arith, (intervals_bounds day).0)) }

-- any other word may be set
set-kept : (w : Words) (k x : ℕ) → (count_at ≡ k → ⊥) → Building w → Building (set w k x)
unfolding holds_none
set-kept w k x d h = record {
  wide = length-set w k x ∙ h.wide;
  held = rw (get_or-set_other w k count_at x 0 d) h.held;
}

stamp-kept : (w : Words) (s : Stamp) → Building w → Building (with_stamp w s)
unfolding with_stamp
stamp-kept w s h =
    set-kept (set w date_at s.date) clock_at s.clock (λ p. omega arith) (set-kept w date_at s.date (λ p. omega arith) h)

mark-kept : (e : Bool) (w : Words) (i : ℕ) → Building w → Building (marked_if e w i)
unfolding with_mark
mark-kept true w i h = set-kept w (mark_word i) _ (λ p. omega arith) h
mark-kept false w i h = h

intervals-kept : (vs : List Interval) (w : Words) (i : ℕ) → Building w → Building (with_intervals w i vs)
unfolding with_intervals with_interval
intervals-kept [] w i h = h
intervals-kept (v ∷ vs) w i h =
    intervals-kept vs (with_interval w i v) (suc i)
    (set-kept (marked_if v.estimated w i) (values_at + i) v.wh (λ p. omega arith) (mark-kept v.estimated w i h))

-- ---- A RECORD THAT PASSED THE CHECKS is for a cell of the registry.

pub channel-below : (c : Channel) → channel_number c < channels
unfolding channel_number
channel-below Load = omega arith
channel-below Generation = omega arith

judged-address : (reg id sender : Bytes) (date m d : ℕ) (c : Channel) → judge reg id sender date ≡ Passed m d → is_address reg m (channel_number c) d ≡ true
unfolding is_address
judged-address reg id sender date m d c e =
    let within = judged-within reg id sender date m d e in
    and_both _ _
    (and_both _ _ (lt-ltb m (meter_count reg) within.0) (lt-ltb (channel_number c) channels (channel-below c)))
    (lt-ltb d (day_count reg) within.1)

-- ---- A LONG LINE is refused before anything else is asked of it.

long-row : {A : Type 0} (code : Bytes) (n : ℕ) (l : Line) (read : List Bytes → Outcome A) → is_long l ≡ true
    → (fields_of code n l >>= read) ≡ refused long
unfolding fields_of
long-row code n l read h = rw h

-- ---- THE RULES

module _ (reg : Bytes) where
  good_or_else : {A : Type 0} (day : ℕ) (o : Outcome A) (next : A → Row) → ((a : A) → GoodRow (rules_of reg) (next a))
      → GoodRow (rules_of reg) (or_else day o next)
  good_or_else day (passed a) next h = h a
  good_or_else day (refused v) next h = tt

  -- what each row answers is good
  one-good : (l : Line) → GoodRow (rules_of reg) (first_row l)
  unfolding first_row begins
  one-good l =
      good_or_else 0 (row_one l) _
      (λ one. record { few = omega arith; wide = (begun-day one.day).wide; held = (begun-day one.day).held })

  checked-good : (rows : Rows) → Building rows.words → GoodRow (rules_of reg) (checked reg rows)
  unfolding checked rules_of
  checked-good rows h = go (judge reg rows.esi_id rows.sender rows.day) refl
    where
      go : (j : Judgement) → judge reg rows.esi_id rows.sender rows.day ≡ j → GoodRow (rules_of reg) (by_judgement reg rows j)
      go (Refused v m) e = tt
      go (Passed m d) e = record {
        wide = h.wide;
        held = h.held;
        has = judged-address reg rows.esi_id rows.sender rows.day m d rows.channel e;
      }

  -- a further row is due
  on_good : (n : ℕ) (rows : Rows) (w : Words) (sender : Bytes) → rows.behind_one ≡ n → suc n ≤ header_rows + max_details → Building w
      → GoodRows (rules_of reg) (with_row rows w sender)
  unfolding with_row
  on_good n rows w sender e few h = record { few = omega arith; wide = h.wide; held = h.held }

  detail_good : (k : ℕ) (rows : Rows) (l : Line) → rows.behind_one ≡ header_rows + k → Building rows.words
      → GoodRow (rules_of reg) (detail_row reg k rows l)
  unfolding detail_row after_detail
  detail_good k rows l e h =
      good_or_else rows.day (row_detail k l) _ (λ vs. in_room vs (ltb k max_details) refl)
    where
      after : List Interval → Rows
      after vs = with_row rows (with_intervals rows.words (k * per_row) vs) rows.sender

      put : (vs : List Interval) → Building (with_intervals rows.words (k * per_row) vs)
      put vs = intervals-kept vs rows.words (k * per_row) h

      last : (vs : List Interval) (t : Bool) → k < max_details → GoodRow (rules_of reg) (cond t (checked reg (after vs)) (goes_on (after vs)))
      last vs true room = checked-good (after vs) (unfold with_row in put vs)
      last vs false room = on_good (header_rows + k) rows _ rows.sender e (omega arith) (put vs)

      in_room : (vs : List Interval) (t : Bool) → ltb k max_details ≡ t
          → GoodRow (rules_of reg) (cond t (after_detail reg k (after vs)) (refused_with wrong_code 0 rows.day))
      in_room vs true q = last vs (eqb (suc k) (after vs).due) (ltb-true k max_details q)
      in_room vs false q = tt

  due-good : (n : ℕ) (rows : Rows) (l : Line) → rows.behind_one ≡ n → Building rows.words → GoodRow (rules_of reg) (due_row reg n rows l)
  unfolding due_row
  due-good zero rows l e h = good_or_else rows.day (row_two l) _ (λ u. on_good _ rows _ _ e (omega arith) h)
  due-good (suc zero) rows l e h = good_or_else rows.day (row_three l) _ (λ u. on_good _ rows _ _ e (omega arith) h)
  due-good (suc (suc zero)) rows l e h =
      good_or_else rows.day (row_four l) _ (λ s. on_good _ rows _ _ e (omega arith) (stamp-kept rows.words s h))
  due-good (suc (suc (suc zero))) rows l e h = good_or_else rows.day (row_thirty l) _ (λ s. on_good _ rows _ _ e (omega arith) h)
  due-good (suc (suc (suc (suc k)))) rows l e h = detail_good k rows l (omega arith) h

  long-due : (n : ℕ) (rows : Rows) (l : Line) → is_long l ≡ true → due_row reg n rows l ≡ refused_with long 0 rows.day
  unfolding due_row detail_row row_two row_three row_four row_thirty row_detail
  long-due zero rows l h = rw (long-row _ _ l _ h)
  long-due (suc zero) rows l h = rw (long-row _ _ l _ h)
  long-due (suc (suc zero)) rows l h = rw (long-row _ _ l _ h)
  long-due (suc (suc (suc zero))) rows l h = rw (long-row _ _ l _ h)
  long-due (suc (suc (suc (suc k)))) rows l h = rw (long-row _ _ l _ h)

  address_below : (m c d : ℕ) → is_address reg m c d ≡ true → cell_of reg m c d < cells_of reg
  address_below m c d h = number-below (meter_count reg) (day_count reg) m c d (address-among reg m c d h)

  pub lawful : Lawful (rules_of reg)
  unfolding rules_of next_row first_row row_one
  lawful = record {
    one = one-good;
    next = λ rows l g. due-good rows.behind_one rows l refl (record { wide = g.wide; held = g.held });
    long_one = λ l h. rw (long-row _ _ l _ h);
    long_next = λ rows l h. long-due rows.behind_one rows l h;
    within = λ l h. address_below l.meter (channel_number l.channel) l.window_day h;
  }
