-- A list of calls whose last is its only finish that was done is one file; and what a file gives alone.
-- Assumes nothing.
use mathlib.Core.Bool.{true, false}
use mathlib.Core.List.{List, [], ◌∷◌, ◌++◌, append-nil}
use mathlib.Core.Path.{◌≡◌, refl, ap, sym, ◌∙◌, subst}
use Prim.Native.Nat.{ℕ, zero, suc, ◌+◌, ◌*◌, ◌≤◌}
use native.Mathlib.Omega.{arith}
use lib.ListN.{length, length-append}
use Rattle.text.specs.Byte.{Bytes}
use Rattle.cell.specs.Layout.{Words, width}
use Rattle.plain.specs.Call.{byte_limit, room_for, Asked, feed, finish, Call, Plain, fresh, Done, table_after, refused_by, done_call, by_number, plain_call, plain_answers, plain_events, plain_table}
use Rattle.plain.specs.Claim.{calls_of, answers_of, report_of, finish_done, took_by, taken_by, OnlyFinish, joined, one_file, alone, alone_table}
use Rattle.plain.specs.Loader.{Event, entries_of, loads_of, scan_to, scan_events, end_events, file_from, file_events}
use Rattle.plain.specs.Promise.{Made, call_of, entries_read}
use Rattle.plain.specs.Rows.{Rules}
use Rattle.plain.specs.Table.{load_all}
use Rattle.plain.proofs.Calls.{Kept, fresh_kept, Allowed, allowed, not_refused, call_kept, Follows, number_of_lem}
use Rattle.plain.proofs.Good.{GoodEvents, good-append, good-wide}
use Rattle.plain.proofs.Lawful.{Lawful}
use Rattle.plain.proofs.Loads.{all-length}
use Rattle.plain.proofs.Pieces.{file-append, entries-append, loads-append, load_all-append}

module _ (R : Rules) (L : Lawful R) where
  -- over any list of calls: table and entries come of the events
  pub plain-loads : (t : Words) (p : Plain) (cs : List Call) → plain_table R t p cs ≡ load_all R t (loads_of (plain_events R t p cs))
  unfolding plain_table plain_events load_all loads_of
  plain-loads t p [] = refl
  plain-loads t p (c ∷ cs) =
      let d : Done = plain_call R (length t) p c in
      let u : Words = table_after R t d in
      plain-loads u d.next cs
      ∙ sym (load_all-append R t (loads_of d.events) (loads_of (plain_events R u d.next cs)))
      ∙ ap (load_all R t) (sym (loads-append R d.events (plain_events R u d.next cs)))

  pub plain-entries : (t : Words) (p : Plain) (cs : List Call) → joined (plain_answers R t p cs) ≡ entries_of (plain_events R t p cs)
  unfolding joined plain_answers plain_events entries_of
  plain-entries t p [] = refl
  plain-entries t p (c ∷ cs) =
      let d : Done = plain_call R (length t) p c in
      let u : Words = table_after R t d in
      ap (λ r. entries_of d.events ++ r) (plain-entries u d.next cs)
      ∙ sym (entries-append R d.events (plain_events R u d.next cs))

  pub report-joined : (ms : List Made) → report_of ms ≡ joined (answers_of ms)
  unfolding report_of joined
  report-joined [] = refl
  report-joined (m ∷ ms) = ap (λ r. entries_read m ++ r) (report-joined ms)

  -- the number that a call returns says what it did
  by_answer : (size : ℕ) (p : Plain) (c : Call) (n : ℕ) → n ≡ (plain_call R size p c).number → plain_call R size p c ≡ by_number R n p c.asked
  unfolding plain_call
  by_answer size p c n e = ap (λ k. by_number R k p c.asked) (sym (e ∙ number_of_lem R L size p c))

  last_step : (n : ℕ) (a : Asked) (p : Plain) → finish_done a n ≡ true
      → (by_number R n p a).events ++ [] ≡ file_from R p.scanned (took_by a n ++ [])
  unfolding by_number done_call file_from scan_events scan_to
  last_step n (feed x) p h = absurd (let z : ◌≡◌ {A = ℕ} 0 1 = cc in omega arith)
  last_step zero finish p h = append-nil (end_events R p.scanned)
  last_step (suc n) finish p h = absurd (let z : ◌≡◌ {A = ℕ} 0 1 = cc in omega arith)

  cons-step : (n : ℕ) (a : Asked) (p : Plain) (rest : List Event) (later : Bytes) → finish_done a n ≡ false
      → rest ≡ file_from R (by_number R n p a).next.scanned later
      → (by_number R n p a).events ++ rest ≡ file_from R p.scanned (took_by a n ++ later)
  unfolding by_number done_call
  cons-step zero (feed x) p rest later h e = ap (λ r. scan_events R p.scanned x ++ r) e ∙ sym (file-append R p.scanned x later)
  cons-step zero finish p rest later h e = absurd (let z : ◌≡◌ {A = ℕ} 0 1 = cc in omega arith)
  cons-step (suc n) (feed x) p rest later h e = e
  cons-step (suc n) finish p rest later h e = e

  abbrev did_of : Plain → Words → Made → Done
  did_of p t m = plain_call R (length t) p (call_of m)

  -- the events of such a list are those of the file that it took
  pub only-file : (p : Plain) (t : Words) (ms : List Made) → Follows R L p t ms → OnlyFinish ms
      → plain_events R t p (calls_of ms) ≡ file_from R p.scanned (taken_by ms)
  unfolding plain_events taken_by OnlyFinish
  only-file p t [] h o = absurd o
  only-file p t (m ∷ []) h o =
      rw (by_answer (length t) p (call_of m) m.number (ap (λ a. a.number) h.0)) (last_step m.number m.asked p o)
  only-file p t (m ∷ (n ∷ ms)) h o =
      let d : Done = did_of p t m in
      let q : d ≡ by_number R m.number p m.asked = by_answer (length t) p (call_of m) m.number (ap (λ a. a.number) h.0) in
      let ih : plain_events R (table_after R t d) d.next (calls_of (n ∷ ms)) ≡ file_from R d.next.scanned (taken_by (n ∷ ms))
      = only-file d.next (table_after R t d) (n ∷ ms) h.2 o.1 in
      ap (λ x. x.events ++ plain_events R (table_after R t d) d.next (calls_of (n ∷ ms))) q
      ∙ cons-step m.number m.asked p (plain_events R (table_after R t d) d.next (calls_of (n ∷ ms))) (taken_by (n ∷ ms)) o.0
      (ih ∙ ap (λ x. file_from R x.next.scanned (taken_by (n ∷ ms))) q)

  -- such a list was taken over a sound registry and a table that is long enough, and took no more than the limit
  pub record Taken (t : Words) (n : ℕ) : Type 0 where
    pub sound : R.sound ≡ true
    pub long : R.cells * width ≤ length t
    pub few : n ≤ byte_limit

  bound_step : (n : ℕ) (a : Asked) (p : Plain) (t : Words) (c : Call) (later : Bytes) → c.asked ≡ a → n ≡ refused_by R (length t) p.taken c
      → finish_done a n ≡ false → Taken (table_after R t (by_number R n p a)) ((by_number R n p a).next.taken + length later)
      → Taken t (p.taken + length (took_by a n ++ later))
  unfolding by_number done_call loads_of load_all
  bound_step zero (feed x) p t c later ea e h k =
      let w : Allowed R L (length t) p.taken c = allowed R L (length t) p.taken c (sym e) in
      record { sound = w.sound; long = w.long; few = simp length-append (omega (arith, k.few)) }
  bound_step zero finish p t c later ea e h k = absurd (let z : ◌≡◌ {A = ℕ} 0 1 = cc in omega arith)
  bound_step (suc n) (feed x) p t c later ea e h k = k
  bound_step (suc n) finish p t c later ea e h k = k

  last_bound : (n : ℕ) (a : Asked) (p : Plain) (t : Words) (c : Call) → n ≡ refused_by R (length t) p.taken c → p.taken ≤ byte_limit
      → finish_done a n ≡ true → Taken t (p.taken + length (took_by a n ++ []))
  last_bound n (feed x) p t c e k h = absurd (let z : ◌≡◌ {A = ℕ} 0 1 = cc in omega arith)
  last_bound zero finish p t c e k h =
      let w : Allowed R L (length t) p.taken c = allowed R L (length t) p.taken c (sym e) in
      record { sound = w.sound; long = w.long; few = omega arith }
  last_bound (suc n) finish p t c e k h = absurd (let z : ◌≡◌ {A = ℕ} 0 1 = cc in omega arith)

  pub only-taken : (p : Plain) (t : Words) (ms : List Made) → Kept R L p → Follows R L p t ms → OnlyFinish ms
      → Taken t (p.taken + length (taken_by ms))
  unfolding taken_by OnlyFinish
  only-taken p t [] k h o = absurd o
  only-taken p t (m ∷ []) k h o =
      last_bound m.number m.asked p t (call_of m) (ap (λ a. a.number) h.0 ∙ number_of_lem R L (length t) p (call_of m)) k.few o
  only-taken p t (m ∷ (n ∷ ms)) k h o =
      let d : Done = did_of p t m in
      let q : d ≡ by_number R m.number p m.asked = by_answer (length t) p (call_of m) m.number (ap (λ a. a.number) h.0) in
      let ih : Taken (table_after R t d) (d.next.taken + length (taken_by (n ∷ ms)))
      = only-taken d.next (table_after R t d) (n ∷ ms) (call_kept R L (length t) p (call_of m) k).0 h.2 o.1 in
      bound_step m.number m.asked p t (call_of m) (taken_by (n ∷ ms)) refl (ap (λ a. a.number) h.0 ∙ number_of_lem R L (length t) p (call_of m)) o.0
      (subst (λ x. Taken (table_after R t x) (x.next.taken + length (taken_by (n ∷ ms)))) q ih)

  pub plain-good : (t : Words) (p : Plain) (cs : List Call) → Kept R L p → GoodEvents R (plain_events R t p cs)
  unfolding plain_events
  plain-good t p [] k = tt
  plain-good t p (c ∷ cs) k =
      let d : Done = plain_call R (length t) p c in
      let g : Kept R L d.next × GoodEvents R d.events = call_kept R L (length t) p c k in
      good-append R d.events (plain_events R (table_after R t d) d.next cs) g.1 (plain-good (table_after R t d) d.next cs g.0)

  call-done : (size : ℕ) (p : Plain) (c : Call) → Allowed R L size p.taken c → plain_call R size p c ≡ done_call R p c.asked
  unfolding plain_call by_number
  call-done size p c a = rw (not_refused R L size p.taken c a)

  -- what a file gives alone
  module _ (t : Words) (f : Bytes) (k : Taken t (length f)) where
    one : Call
    one = record { asked = feed f; room = room_for (length f) }

    two : Call
    two = record { asked = finish; room = room_for 0 }

    mid : Done
    mid = done_call R fresh (feed f)

    first_done : plain_call R (length t) fresh one ≡ mid
    unfolding one mid
    first_done = call-done (length t) fresh one (record { sound = k.sound; long = k.long; room = omega arith; few = omega (arith, k.few) })

    mid-length : length (table_after R t mid) ≡ length t
    mid-length =
        all-length R L t (loads_of mid.events) k.long
        (good-wide R mid.events (subst (λ d. GoodEvents R d.events) first_done (call_kept R L (length t) fresh one (fresh_kept R L)).1))

    second_done : plain_call R (length (table_after R t mid)) mid.next two ≡ done_call R mid.next finish
    unfolding two mid done_call
    second_done =
        call-done (length (table_after R t mid)) mid.next two
        (record { sound = k.sound; long = rw mid-length k.long; room = omega arith; few = omega (arith, k.few) })

    mid-file : mid.events ++ ((done_call R mid.next finish).events ++ []) ≡ file_events R f
    unfolding mid done_call file_events file_from
    mid-file = rw append-nil

    pub alone-events : plain_events R t fresh (one_file f) ≡ file_events R f
    unfolding plain_events one two
    alone-events = rw (first_done, second_done) mid-file

    pub alone-entries : alone R t f ≡ entries_of (file_events R f)
    unfolding alone
    alone-entries = plain-entries t fresh (one_file f) ∙ ap (entries_of) alone-events

    pub alone-table : alone_table R t f ≡ load_all R t (loads_of (file_events R f))
    unfolding alone_table
    alone-table = plain-loads t fresh (one_file f) ∙ ap (λ e. load_all R t (loads_of e)) alone-events
