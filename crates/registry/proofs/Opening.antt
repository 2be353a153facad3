-- What the registry begins with: the window by what the code tests, and what a window keeps to.
-- Assumes nothing.
use mathlib.Core.Path.{◌≡◌, refl, sym, ap, ◌∙◌}
use mathlib.Core.List.{[], ◌∷◌}
use mathlib.Core.Bool.{Bool, true, false, cond, ◌&&◌}
use Prim.Native.Nat.{ℕ, ◌+◌, ◌-◌, ◌^◌, ◌≤◌, ◌<◌}
use native.Mathlib.Omega.{arith}
use lib.Dec.{eqb, leb}
use lib.ListN.{length, take, drop, get_or, length-take, length-drop}
use lib.Seq.{take_all}
use borrow.Author.Tests.{ne_eqb, lt-leb, le-leb, leb-true, leb-false}
use Rattle.calendar.specs.Date.{is_date}
use Rattle.calendar.specs.Day.{day_number, last_day}
use Rattle.calendar.specs.Answer.{day_is}
use Rattle.std.specs.Prelude.{Option, Some, None}
use Rattle.std.specs.Bool.{then_some}
use Rattle.calendar.proofs.Laws.{day-low}
use Rattle.text.specs.Byte.{Bytes, is_digit, every}
use Rattle.text.specs.Number.{number, Digits}
use Rattle.text.proofs.Truth.{and_left, and_right}
use Rattle.text.proofs.Left.{left-cons}
use Rattle.text.proofs.Decimal.{number-below}
use Rattle.text.proofs.Class.{every_take, every_drop}
use Rattle.registry.specs.Entry.{window_size, max_days, first_text, days_text, is_window, window_of, start_of}
use Rattle.registry.specs.declared.entry.Window.{Window}
use Rattle.registry.proofs.Entries.{by_test, behind_it}

-- ---- the day of a date, or no date

date_number : (date n : ℕ) (t : Bool) → cond t (Some (day_number date)) None ≡ Some n → (t ≡ true) × (n ≡ day_number date)
date_number date n true e = (refl, cc)
date_number date n false e = absurd cc

date_none : (date : ℕ) (t : Bool) → cond t (Some (day_number date)) None ≡ None → t ≡ false
date_none date true e = absurd cc
date_none date false e = refl

module _ (date : ℕ) (answer : Option ℕ) (ea : answer ≡ day_is date) where
  is-day : (n : ℕ) → answer ≡ Some n → (is_date date ≡ true) × (n ≡ day_number date)
  unfolding day_is
  is-day n e = date_number date n (is_date date) (sym ea ∙ e)

  is_no_day : answer ≡ None → is_date date ≡ false
  unfolding day_is
  is_no_day e = date_none date (is_date date) (sym ea ∙ e)

  day-within : (n : ℕ) → answer ≡ Some n → n ≤ last_day
  day-within n e =
      let d = is-day n e in
      rw d.1 (day-low date d.0)

-- the code asks for the end of the window with no difference
end_by : (n : ℕ) (a b : Bool) → leb n (last_day + 1) ≡ a → leb (n - 1) last_day ≡ b → a ≡ b
end_by n true true e f = refl
end_by n true false e f = absurd (omega (arith, leb-true n (last_day + 1) e, leb-false (n - 1) last_day f))
end_by n false true e f = absurd (omega (arith, leb-false n (last_day + 1) e, leb-true (n - 1) last_day f))
end_by n false false e f = refl

-- ---- THE BODY OF A WINDOW, by what the code tests

module _ (body : Bytes) (n : length body ≡ window_size) (r : Bool) (er : r ≡ every is_digit body) where
  abbrev read_as : Option Window
  read_as = cond (is_window body) (Some (window_of body)) None

  pub window_letters : r ≡ false → None ≡ read_as
  unfolding is_window
  window_letters h = rw (← er, h)

  days-part : take 2 (drop 8 body) ≡ drop 8 body
  days-part = take_all 2 (drop 8 body) (omega (arith, n, length-drop 8 body))

  module _ (h : r ≡ true) where
    digits : every is_digit body ≡ true
    digits = sym er ∙ h

    pub date_digits : Digits 9 (take 8 body)
    date_digits = record { short = rw (length-take 8 body) (omega arith); clean = every_take is_digit 8 body digits }

    pub days-digits : Digits 9 (take 2 (drop 8 body))
    days-digits = rw days-part (record { short = rw (length-drop 8 body) (omega arith); clean = every_drop is_digit 8 body digits })

    module _ (date days : ℕ) (ed : date ≡ number (take 8 body)) (ey : days ≡ number (take 2 (drop 8 body))) (answer : Option ℕ) (ea : answer ≡ day_is date) where
      pub window_no_date : answer ≡ None → None ≡ read_as
      unfolding is_window
      window_no_date f = rw (digits, ← ed, is_no_day date answer ea f)

      module _ (first : ℕ) (ef : answer ≡ Some first) where
        -- the sum that the code tests is small
        pub sum_low : first + days < 10 ^ 9 + 10 ^ 5
        sum_low = omega (arith, day-within date answer ea first ef, number-below 9 (take 2 (drop 8 body)) days days-digits ey)

        days-here : days_text body ≡ days
        days-here = sym (ey ∙ rw days-part)

        by_tests : is_window body ≡ (leb 1 days && leb days max_days && leb (first + days - 1) last_day)
        unfolding is_window
        by_tests =
            let d = is-day date answer ea first ef in
            rw (digits, ← ed, d.0, days-here, ← d.1)

        window-here : window_of body ≡ record { first = first; days = days }
        unfolding window_of
        window-here =
            let d = is-day date answer ea first ef in
            rw (← ed, days-here, ← d.1)

        tests_same : (leb 1 days && leb days max_days && leb (first + days) (last_day + 1)) ≡ is_window body
        tests_same =
            sym (by_tests ∙ ap (λ (t : Bool). leb 1 days && leb days max_days && t)
            (sym (end_by (first + days) (leb (first + days) (last_day + 1)) (leb (first + days - 1) last_day) refl refl)))

        pub window_read : then_some (leb 1 days && leb days max_days && leb (first + days) (last_day + 1)) (record { first = first; days = days }) ≡ read_as
        window_read = rw (tests_same, window-here) (by_test (is_window body) (record { first = first; days = days }))

-- ---- THE WINDOW, by what stands behind the first byte

pub start_empty : (reg : Bytes) → length reg < 1 → None ≡ start_of reg
unfolding start_of
start_empty [] h = refl
start_empty (k ∷ b) h = absurd (omega (arith, h))

pub start_other : (reg : Bytes) → (get_or reg 0 0 ≡ 1 → ⊥) → None ≡ start_of reg
unfolding start_of
start_other [] h = refl
start_other (k ∷ b) h = rw (ne_eqb k 1 h)

module _ (reg : Bytes) (h : 0 < length reg) (e : get_or reg 0 0 ≡ 1) (s : Bytes) (cut : s ≡ take (length reg - 1) (drop 1 reg)) where
  pub start-short : length s < window_size → None ≡ start_of reg
  unfolding start_of
  start-short l = rw (left-cons reg 0 h, e, ← behind_it reg 0 h s cut, lt-leb window_size (length s) l)

  pub start_whole : window_size ≤ length s → (body : Bytes) → body ≡ take window_size s
      → (w : Option Window) → w ≡ cond (is_window body) (Some (window_of body)) None → w ≡ start_of reg
  unfolding start_of
  start_whole l body eb w ew = rw (left-cons reg 0 h, e, ← behind_it reg 0 h s cut, le-leb window_size (length s) l, ← eb) ew

-- ---- WHAT A WINDOW KEEPS TO

picked_start : (a : Bool) (v w : Window) → cond a (Some v) None ≡ Some w → (a ≡ true) × (w ≡ v)
picked_start true v w e = (refl, cc)
picked_start false v w e = let n : ◌≡◌ {A = ℕ} 0 1 = cc in absurd (omega arith)

pub record Kept (w : Window) : Type 0 where
  pub some : 1 ≤ w.days
  pub few : w.days ≤ max_days
  pub ends : w.first + w.days ≤ last_day + 1

window-kept : (body : Bytes) → is_window body ≡ true → Kept (window_of body)
unfolding is_window window_of
window-kept body h =
    let d : Bool = every is_digit body && is_date (first_text body) in
    let a : Bool = leb 1 (days_text body) in
    let b : Bool = leb (days_text body) max_days in
    let c : Bool = leb (day_number (first_text body) + days_text body - 1) last_day in
    let abc : (d && a && b) ≡ true = and_left (d && a && b) c h in
    let da : (d && a) ≡ true = and_left (d && a) b abc in
    record {
      some = leb-true 1 (days_text body) (and_right d a da);
      few = leb-true (days_text body) max_days (and_right (d && a) b abc);
      ends = omega (arith, leb-true (day_number (first_text body) + days_text body - 1) last_day (and_right (d && a && b) c h));
    }

pub start-kept : (reg : Bytes) (w : Window) → start_of reg ≡ Some w → Kept w
unfolding start_of
start-kept [] w e = let n : ◌≡◌ {A = ℕ} 0 1 = cc in absurd (omega arith)
start-kept (k ∷ b) w e =
    let p = picked_start (eqb k 1 && leb window_size (length b) && is_window (take window_size b)) (window_of (take window_size b)) w e in
    rw p.1 (window-kept (take window_size b) (and_right (eqb k 1 && leb window_size (length b)) (is_window (take window_size b)) p.0))

pub start_fits : (reg : Bytes) (w : Window) → start_of reg ≡ Some w → window_size < length reg
unfolding start_of
start_fits [] w e = let n : ◌≡◌ {A = ℕ} 0 1 = cc in absurd (omega arith)
start_fits (k ∷ b) w e =
    let p = picked_start (eqb k 1 && leb window_size (length b) && is_window (take window_size b)) (window_of (take window_size b)) w e in
    let t : (eqb k 1 && leb window_size (length b)) ≡ true = and_left (eqb k 1 && leb window_size (length b)) (is_window (take window_size b)) p.0 in
    omega (arith, leb-true window_size (length b) (and_right (eqb k 1) (leb window_size (length b)) t))
