-- A chain of real calls does what the plain loader does; refusal 1 never comes up in it.
-- Assumes nothing.
use mathlib.Core.Bool.{Bool, true, false, cond, not}
use mathlib.Core.List.{List, [], ◌∷◌, ◌++◌}
use mathlib.Core.Path.{◌≡◌, refl, ap, sym, ◌∙◌}
use Prim.Native.Nat.{ℕ, zero, suc, ◌+◌, ◌*◌, ◌≤◌}
use native.Mathlib.Omega.{arith}
use lib.Dec.{ltb}
use lib.ListN.{length, take, drop, length-take, length-map}
use lib.Seq.{take-take, take_at}
use borrow.Author.Tests.{ltb-false, le-ltb}
use Rattle.lines.specs.Line.{kept_limit}
use Rattle.cell.specs.Layout.{Words, width}
use Rattle.report.specs.Refusal.{done, bad_state, bad_registry, short_table, short_report, too_many_bytes}
use Rattle.plain.specs.Call.{byte_limit, room_for, Asked, feed, finish, Call, piece_of, Plain, fresh, Done, answer_of, table_after, refused_by, refused_at, done_call, by_number, plain_call, plain_answers, plain_table}
use Rattle.plain.specs.Claim.{calls_of, answers_of, last_table}
use Rattle.plain.specs.Loader.{OpenUnit, no_unit, takes_rows, waits, skips, Scan, scan, entries_of, loads_of, scan_to, scan_events}
use Rattle.plain.specs.Promise.{cut_to, details_in, View, view_from, overfull, Coded, Made, call_of, entries_read, made_answer, code_number, code_call, Chain}
use Rattle.plain.specs.Rows.{Rules, max_details}
use Rattle.plain.specs.Table.{load_all}
use Rattle.plain.proofs.Good.{GoodEvents, GoodUnit, scan_good, finish-good}
use Rattle.plain.proofs.Kept.{AlikeScan, scan_alike, events_alike, finish_alike}
use Rattle.plain.proofs.Lawful.{Lawful}
use Rattle.plain.proofs.Lines.{lines_le, lines-scan}

-- no call of a list returned refusal 1
abbrev pub NeverBad : List Made → Type 0
NeverBad [] = Unit {0}
NeverBad (m ∷ ms) = (¬ (m.number ≡ bad_state)) × NeverBad ms

module _ (R : Rules) (L : Lawful R) where
  -- what holds of the plain loader's state
  pub record Kept (p : Plain) : Type 0 where
    pub few : p.taken ≤ byte_limit
    pub lines : p.scanned.lines ≤ p.taken
    pub good : GoodUnit R p.scanned.unit

  pub fresh_kept : Kept fresh
  fresh_kept = record { few = omega arith; lines = omega arith; good = tt }

  -- a call that none of 2 to 5 refuses
  pub record Allowed (size taken : ℕ) (c : Call) : Type 0 where
    pub sound : R.sound ≡ true
    pub long : R.cells * width ≤ size
    pub room : room_for (length (piece_of c.asked)) ≤ c.room
    pub few : taken + length (piece_of c.asked) ≤ byte_limit

  pub allowed : (size taken : ℕ) (c : Call) → refused_by R size taken c ≡ 0 → Allowed size taken c
  unfolding refused_at
  allowed size taken c h = go R.sound refl (ltb size (R.cells * width)) refl (ltb c.room (room_for (length (piece_of c.asked)))) refl (ltb byte_limit (taken + length (piece_of c.asked))) refl
    where
      go : (p : Bool) → R.sound ≡ p → (q : Bool) → ltb size (R.cells * width) ≡ q
          → (r : Bool) → ltb c.room (room_for (length (piece_of c.asked))) ≡ r
          → (s : Bool) → ltb byte_limit (taken + length (piece_of c.asked)) ≡ s → Allowed size taken c
      go false ep q eq r er s es = absurd (let z : ◌≡◌ {A = ℕ} 2 0 = rw ep at h in omega arith)
      go true ep true eq r er s es = absurd (let z : ◌≡◌ {A = ℕ} 3 0 = rw (ep, eq) at h in omega arith)
      go true ep false eq true er s es = absurd (let z : ◌≡◌ {A = ℕ} 4 0 = rw (ep, eq, er) at h in omega arith)
      go true ep false eq false er true es = absurd (let z : ◌≡◌ {A = ℕ} 5 0 = rw (ep, eq, er, es) at h in omega arith)
      go true ep false eq false er false es =
          record { sound = ep; long = ltb-false _ _ eq; room = ltb-false _ _ er; few = ltb-false _ _ es }

  pub not_refused : (size taken : ℕ) (c : Call) → Allowed size taken c → refused_by R size taken c ≡ 0
  unfolding refused_at
  not_refused size taken c a =
      rw (a.sound, le-ltb size (R.cells * width) a.long, le-ltb c.room (room_for (length (piece_of c.asked))) a.room, le-ltb byte_limit (taken + length (piece_of c.asked)) a.few)

  -- the invariant, and what the events load, over one call
  done-kept : (p : Plain) (a : Asked) → Kept p → p.taken + length (piece_of a) ≤ byte_limit → Kept (done_call R p a).next × GoodEvents R (done_call R p a).events
  unfolding done_call
  done-kept p (feed x) k h =
      let g : GoodEvents R (scan_events R p.scanned x) × GoodUnit R (scan_to R p.scanned x).unit = scan_good R L p.scanned x k.good in (
        record { few = h; lines = omega (arith, k.lines, lines-scan R p.scanned x, lines_le p.scanned.kept x); good = g.1 },
        g.0,
      )
  done-kept p finish k h = (fresh_kept, finish-good R L p.scanned k.good)

  pub call_kept : (size : ℕ) (p : Plain) (c : Call) → Kept p → Kept (plain_call R size p c).next × GoodEvents R (plain_call R size p c).events
  unfolding plain_call by_number
  call_kept size p c k = go (refused_by R size p.taken c) refl
    where
      go : (n : ℕ) → refused_by R size p.taken c ≡ n → Kept (by_number R n p c.asked).next × GoodEvents R (by_number R n p c.asked).events
      go zero e = done-kept p c.asked k (allowed size p.taken c e).few
      go (suc n) e = (k, tt)

  -- refusal 1 does not come up
  pub view_fits : (p : Plain) → Kept p → overfull (view_from p) ≡ false
  unfolding overfull cut_to view_from
  view_fits p k =
      rw (
        le-ltb kept_limit (length (take kept_limit p.scanned.kept)) (omega (arith, length-take kept_limit p.scanned.kept)),
        le-ltb byte_limit p.taken k.few,
        le-ltb max_details (details_in p.scanned.unit) (details_le p.scanned.unit k.good),
        le-ltb p.taken p.scanned.lines k.lines,
      )
    where
      details_le : (w : OpenUnit) → GoodUnit R w → details_in w ≤ max_details
      details_le no_unit h = omega arith
      details_le (takes_rows f rows) h = h.1.few
      details_le (waits f l r) h = omega arith
      details_le skips h = omega arith

  pub cut_alike : (p : Plain) → AlikeScan R L (cut_to p).scanned p.scanned
  unfolding cut_to
  cut_alike p = record { kept = take-take kept_limit kept_limit p.scanned.kept (omega arith); lines = refl; unit = refl }

  pub alike_cut : (s t : Scan) (n : ℕ) → AlikeScan R L s t → view_from (record { scanned = s; taken = n }) ≡ view_from (record { scanned = t; taken = n })
  unfolding cut_to view_from
  alike_cut s t n h = λ i.
      record {
        plain = record { scanned = scan (h.kept i) (h.lines i) (h.unit i); taken = n };
        held = length (h.kept i);
      }

  abbrev cut_done : Done → Coded
  cut_done d = record { number = d.number; events = d.events; next = view_from d.next }

  cut-taken : (p : Plain) → (cut_to p).taken ≡ p.taken
  unfolding cut_to
  cut-taken p = refl

  done-cut : (p : Plain) (a : Asked) → cut_done (done_call R (cut_to p) a) ≡ cut_done (done_call R p a)
  unfolding done_call
  done-cut p (feed x) = λ i.
      record {
        number = 0;
        events = events_alike R L (cut_to p).scanned p.scanned x (cut_alike p) i;
        next = (ap (λ n. view_from (record { scanned = scan_to R (cut_to p).scanned x; taken = n + length x })) (cut-taken p)
            ∙ alike_cut (scan_to R (cut_to p).scanned x) (scan_to R p.scanned x) (p.taken + length x)
            (scan_alike R L (cut_to p).scanned p.scanned x (cut_alike p))) i;
      }
  done-cut p finish = λ i.
      record { number = 0; events = finish_alike R L (cut_to p).scanned p.scanned (cut_alike p) i; next = view_from fresh }

  call-cut : (size : ℕ) (p : Plain) (c : Call) → Kept p → code_call R size (view_from p) c ≡ cut_done (plain_call R size p c)
  unfolding code_call plain_call code_number by_number view_from cut_to
  call-cut size p c k = rw (view_fits p k) (go (refused_by R size p.taken c))
    where
      go : (n : ℕ) → code_number R n (view_from p) c.asked ≡ cut_done (by_number R n p c.asked)
      go zero = done-cut p c.asked
      go (suc n) = refl

  -- a list of calls, each as the plain loader does it
  abbrev pub Follows : Plain → Words → List Made → Type 0
  Follows p t [] = Unit {0}
  Follows p t (m ∷ ms) =
      (made_answer m ≡ answer_of (plain_call R (length t) p (call_of m)))
      × (m.table ≡ table_after R t (plain_call R (length t) p (call_of m)))
      × Follows (plain_call R (length t) p (call_of m)).next (table_after R t (plain_call R (length t) p (call_of m))) ms

  pub follow : (p : Plain) (s : View) (t : Words) (ms : List Made) → s ≡ view_from p → Kept p → Chain R s t ms → Follows p t ms
  unfolding Chain entries_of
  follow p s t [] e k h = tt
  follow p s t (m ∷ ms) e k h =
      let d : Done = plain_call R (length t) p (call_of m) in
      let q : code_call R (length t) s (call_of m) ≡ cut_done d
      = ap (λ x. code_call R (length t) x (call_of m)) e ∙ call-cut (length t) p (call_of m) k in
      let n : m.number ≡ d.number = h.0.number ∙ ap (λ x. x.number) q in
      let c : m.count ≡ length d.events = h.0.count ∙ ap (λ x. length x.events) q in
      let w : m.written ≡ entries_of d.events ++ drop m.count m.report
      = h.0.written ∙ ap (λ x. entries_of x.events ++ drop m.count m.report) q in
      let r : entries_read m ≡ entries_of d.events
      = ap (take m.count) w ∙ take_at (entries_of d.events) (drop m.count m.report) m.count (length-map d.events _ ∙ sym c) in
      let b : m.table ≡ table_after R t d = h.0.table ∙ ap (λ x. load_all R t (loads_of x.events)) q in
      let f : m.after ≡ view_from d.next = h.0.after ∙ ap (λ x. x.next) q in
      let rest : Chain R m.after (table_after R t d) ms = rw b at h.1 in (
        λ i. record { number = n i; count = c i; entries = r i },
        b,
        follow d.next m.after (table_after R t d) ms f (call_kept (length t) p (call_of m) k).0 rest,
      )

  -- what follows the plain loader has its answers and its table
  pub follow-answers : (p : Plain) (t : Words) (ms : List Made) → Follows p t ms → answers_of ms ≡ plain_answers R t p (calls_of ms)
  unfolding plain_answers
  follow-answers p t [] h = refl
  follow-answers p t (m ∷ ms) h =
      let d : Done = plain_call R (length t) p (call_of m) in
      λ i. h.0 i ∷ follow-answers d.next (table_after R t d) ms h.2 i

  pub follow-table : (p : Plain) (t : Words) (ms : List Made) (u : Words) → u ≡ t → Follows p t ms → last_table u ms ≡ plain_table R t p (calls_of ms)
  unfolding plain_table last_table
  follow-table p t [] u e h = e
  follow-table p t (m ∷ ms) u e h =
      let d : Done = plain_call R (length t) p (call_of m) in
      follow-table d.next (table_after R t d) ms m.table h.1 h.2

  -- refusal 1 is none of what the plain loader answers
  refused_not_bad : (size taken : ℕ) (c : Call) → ¬ (refused_by R size taken c ≡ bad_state)
  unfolding refused_at
  refused_not_bad size taken c =
      go R.sound (ltb size (R.cells * width)) (ltb c.room (room_for (length (piece_of c.asked)))) (ltb byte_limit (taken + length (piece_of c.asked)))
    where
      go : (p q r s : Bool)
          → ¬ (cond (not p) bad_registry (cond q short_table (cond r short_report (cond s too_many_bytes done))) ≡ bad_state)
      go false q r s h = omega (arith, h)
      go true true r s h = omega (arith, h)
      go true false true s h = omega (arith, h)
      go true false false true h = omega (arith, h)
      go true false false false h = omega (arith, h)

  pub number_of_lem : (size : ℕ) (p : Plain) (c : Call) → (plain_call R size p c).number ≡ refused_by R size p.taken c
  unfolding plain_call by_number done_call
  number_of_lem size p c = go (refused_by R size p.taken c) c.asked
    where
      go : (n : ℕ) (a : Asked) → (by_number R n p a).number ≡ n
      go zero (feed x) = refl
      go zero finish = refl
      go (suc n) a = refl

  pub follow_not_bad : (p : Plain) (t : Words) (ms : List Made) → Follows p t ms → NeverBad ms
  follow_not_bad p t [] h = tt
  follow_not_bad p t (m ∷ ms) h =
      let d : Done = plain_call R (length t) p (call_of m) in (
        λ e. refused_not_bad (length t) p.taken (call_of m) (sym (number_of_lem (length t) p (call_of m)) ∙ sym (ap (λ a. a.number) h.0) ∙ e),
        follow_not_bad d.next (table_after R t d) ms h.2,
      )
