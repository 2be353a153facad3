-- What `feed` and `finish` come to, batch by batch: the invariant of feed's loop and its laws, which the walks cite.
--     refusal-keeps      a call that is refused keeps the promise
--     Comes              as far as a feed has come: the state, the table and the report, behind so many bytes and entries
--     begins             it holds at the loop's start
--     fits, steps        a turn: what `Slot::put` asks, and the invariant after it
--     stops              after the loop: what `feed` promises
--     end-fits, ends     the same of `finish`
-- Assumes nothing.
use mathlib.Core.Path.{◌≡◌, refl, sym, ap, ◌∙◌, subst}
use mathlib.Core.List.{List, [], ◌++◌}
use Prim.Native.Nat.{ℕ, zero, suc, ◌+◌, ◌-◌, ◌≤◌}
use native.Mathlib.Omega.{arith}
use lib.ListN.{length, take, drop, length-append, length-drop, length-map}
use lib.Seq.{take_all, length-take-le}
use Rattle.std.specs.Prelude.{Result, Ok, IsErrAnd}
use Rattle.report.proofs.Passing.{is-error}
use Rattle.lines.specs.End.{between}
use Rattle.lines.specs.Line.{kept_limit}
use Rattle.lines.proofs.Ends.{between-add}
use Rattle.text.specs.Byte.{Bytes}
use Rattle.cell.specs.Layout.{Words}
use Rattle.report.specs.Refusal.{done, refusal_number}
use Rattle.report.specs.declared.Entry.{Entry}
use Rattle.report.specs.declared.refusal.Refusal.{Refusal}
use Rattle.plain.specs.Rows.{rules_of}
use Rattle.plain.specs.Table.{load_all}
use Rattle.plain.specs.Loader.{Scan, scan_to, scan_events, end_events, entries_of, loads_of}
use Rattle.plain.specs.Call.{room_for, Asked, feed, finish, Call, piece_of, done_call}
use Rattle.plain.specs.Promise.{cut_scan, cut_to, view_from, code_number, code_call}
use Rattle.plain.proofs.Room.{feed-room, finish-room}
use Rattle.units.specs.Answer.{HasRoom}
use Rattle.pieces.specs.Ran.{scan_of, Ran, Holds, Runs}
use Rattle.pieces.proofs.Running.{ran-both, ran-none}
use Rattle.state.specs.declared.State.{State}
use Rattle.state.specs.Fresh.{fresh_state}
use Rattle.state.specs.View.{view_of}
use Rattle.state.specs.Refused.{number_for}
use Rattle.state.proofs.FreshView.{fresh-view}
use Rattle.state.proofs.Refusals.{Fits, fits-state, is-allowed, few_bytes, room_enough}
use Rattle.batches.specs.Batch.{Last}
use Rattle.loader.specs.Keeps.{Leaves, Keeps}
use Rattle.loader.specs.Report.{pasted}
use Rattle.loader.proofs.Reports.{paste-behind, paste-front}
use Rattle.report.proofs.Refusals.{some-number}

between-whole : (bs : Bytes) (n : ℕ) → n ≡ length bs → between 0 n bs ≡ bs
between-whole bs n e = take_all (n - 0) (drop 0 bs) (omega arith)

-- ---- THE NUMBER says what the call did

module _ (reg : Bytes) (s : State) (size room : ℕ) (a : Asked) where
  abbrev call : Call
  call = record { asked = a; room = room }

  coded : code_call (rules_of reg) size (view_of s) call ≡ code_number (rules_of reg) (number_for s reg size room (length (piece_of a))) (view_of s) a
  unfolding code_call number_for view_of
  coded = refl

  coded-done : done ≡ number_for s reg size room (length (piece_of a))
      → code_call (rules_of reg) size (view_of s) call ≡ code_number (rules_of reg) done (view_of s) a
  coded-done e = coded ∙ ap (λ n. code_number (rules_of reg) n (view_of s) a) (sym e)

  coded-refused : (n : ℕ) → n ≡ number_for s reg size room (length (piece_of a)) → ¬ (n ≡ done)
      → code_call (rules_of reg) size (view_of s) call ≡ record { number = n; events = []; next = view_of s }
  unfolding code_number
  coded-refused zero e h = absurd (h refl)
  coded-refused (suc n) e h = coded ∙ ap (λ k. code_number (rules_of reg) k (view_of s) a) (sym e)

module _ {A : Type 0} (entries : List A → List Entry) (behind : ℕ → List A → List A) where
  -- a refusal keeps the promise: nothing is changed
  pub refusal-keeps : (reg : Bytes) (s : State) (t : Words) (a : Asked) (report : List A) (answer : Result ℕ Refusal) (r : Refusal) → IsErrAnd answer (λ x. x ≡ r)
      → refusal_number r ≡ number_for s reg (length t) (length (entries report)) (length (piece_of a))
      → Keeps entries behind reg s t a report answer s t report
  unfolding loads_of load_all entries_of
  refusal-keeps reg s t a report answer r is e =
      let q : code_call (rules_of reg) (length t) (view_of s) (call reg s (length t) (length (entries report)) a)
      ≡ record { number = refusal_number r; events = []; next = view_of s }
      = coded-refused reg s (length t) (length (entries report)) a (refusal_number r) e (some-number r) in
      rw (is-error answer r is)
      (record {
        promise = record {
          number = sym (ap (λ c. c.number) q);
          count = sym (ap (λ c. length c.events) q);
          after = sym (ap (λ c. c.next) q);
          table = sym (ap (λ c. load_all (rules_of reg) t (loads_of c.events)) q);
          written = sym (ap (λ c. entries_of c.events ++ entries report) q);
        };
        fresh = tt;
        same = refl;
        long = refl;
        left = refl;
      })

  -- a call that was done: its events, the state that it leaves, and what was written
  done-keeps : (reg : Bytes) (s : State) (t : Words) (a : Asked) (report : List A) (count : ℕ) (after : State) (table : Words) (written : List A)
      → done ≡ number_for s reg (length t) (length (entries report)) (length (piece_of a))
      → (done_call (rules_of reg) (view_of s).plain a).number ≡ done
      → table ≡ load_all (rules_of reg) t (loads_of (done_call (rules_of reg) (view_of s).plain a).events)
      → count ≡ length (done_call (rules_of reg) (view_of s).plain a).events
      → view_of after ≡ view_from (done_call (rules_of reg) (view_of s).plain a).next
      → entries written ≡ entries_of (done_call (rules_of reg) (view_of s).plain a).events ++ drop count (entries report)
      → length written ≡ length report → behind count written ≡ behind count report → Leaves a after
      → Keeps entries behind reg s t a report (Ok count) after table written
  unfolding code_number
  done-keeps reg s t a report count after table written e number loads counted view w long left new =
      let q : code_call (rules_of reg) (length t) (view_of s) (call reg s (length t) (length (entries report)) a) ≡ code_number (rules_of reg) done (view_of s) a
      = coded-done reg s (length t) (length (entries report)) a e in
      record {
        promise = record {
          number = sym number ∙ sym (ap (λ c. c.number) q);
          count = counted ∙ sym (ap (λ c. length c.events) q);
          after = view ∙ sym (ap (λ c. c.next) q);
          table = loads ∙ sym (ap (λ c. load_all (rules_of reg) t (loads_of c.events)) q);
          written = w ∙ sym (ap (λ c. entries_of c.events ++ drop count (entries report)) q);
        };
        fresh = new;
        same = tt;
        long = long;
        left = left;
      }

  -- what a state holds of a line is as long as it says
  held-long : (s : State) (u : Scan) → s.scan.held ≤ length s.scan.kept → scan_of s.scan ≡ cut_scan u
      → s.scan.held ≡ length (take kept_limit u.kept)
  held-long s u whole e = sym (length-take-le s.scan.held s.scan.kept whole) ∙ ap (λ x. length x.kept) e

  -- ---- FEED

  module _ (bs reg : Bytes) (t₀ : Words) (r₀ : List A) (s₀ : State) where
    pub record Comes (t : Words) (r : List A) (s : State) (at count : ℕ) : Type 0 where
      pub goes : done ≡ number_for s₀ reg (length t₀) (length (entries r₀)) (length bs)
      pub inside : at ≤ length bs
      pub told : List Entry
      pub counted : length told ≡ count
      pub report : entries r ≡ told ++ drop count (entries r₀)
      pub left : (n : ℕ) → count ≤ n → behind n r ≡ behind n r₀
      pub ran : Ran (rules_of reg) (scan_of s₀.scan) (between 0 at bs) (scan_of s.scan) told t₀ t
      pub taken : s.taken ≡ s₀.taken + length bs
      pub holds : Holds s.scan (length bs - at)
      pub room : HasRoom reg t

    pub begins : done ≡ number_for s₀ reg (length t₀) (length (entries r₀)) (length bs)
        → length s₀.scan.kept ≡ kept_limit → (s : State) → s ≡ record { scan = s₀.scan; taken = s₀.taken + length bs } → Comes t₀ r₀ s 0 0
    unfolding rules_of
    begins goes kept s is =
        let f : Fits s₀ = fits-state s₀ reg (length t₀) (length (entries r₀)) (feed bs) goes in
        rw is
        (record {
          goes = goes;
          inside = omega arith;
          told = [];
          counted = refl;
          report = refl;
          left = λ n h. refl;
          ran = ran-none (rules_of reg) s₀.scan t₀ f.held;
          taken = refl;
          holds = record {
            few = f.held;
            whole = omega (arith, f.held, kept);
            details = f.details;
            fits = omega (arith, f.lines, few_bytes s₀ reg (length t₀) (length (entries r₀)) (feed bs) goes);
          };
          room = (is-allowed s₀ reg (length t₀) (length (entries r₀)) (feed bs) goes).long;
        })

    -- no more entries than a report holds
    ran-room : (at : ℕ) (to : Scan) (es : List Entry) (t : Words) → at ≤ length bs → Ran (rules_of reg) (scan_of s₀.scan) (between 0 at bs) to es t₀ t
        → length es ≤ room_for (length bs)
    unfolding entries_of
    ran-room at to es t inside ran =
        let n : length es ≡ length (scan_events (rules_of reg) (scan_of s₀.scan) (between 0 at bs))
        = ap length ran.tells.entered ∙ length-map (scan_events (rules_of reg) (scan_of s₀.scan) (between 0 at bs)) _ in
        let l : length (between 0 at bs) ≡ at = length-take-le (at - 0) (drop 0 bs) (omega arith) ∙ omega arith in
        let h : length (scan_events (rules_of reg) (scan_of s₀.scan) (between 0 at bs)) ≤ room_for (length (between 0 at bs))
        = feed-room (rules_of reg) (scan_of s₀.scan) (between 0 at bs) in
        omega (arith, n, l, h)

    module _ (t : Words) (r : List A) (s : State) (at count : ℕ) (c : Comes t r s at count) where
      -- the report is as long as it was
      pub room-same : length (entries r) ≡ length (entries r₀)
      room-same =
          omega (
            arith,
            ap length c.report,
            length-append c.told (drop count (entries r₀)),
            length-drop count (entries r₀),
            c.counted,
            ran-room at (scan_of s.scan) c.told t c.inside c.ran,
            room_enough s₀ reg (length t₀) (length (entries r₀)) (feed bs) c.goes,
          )

      module _ (t' : Words) (s' : State) (next : ℕ) (batch : List Entry) (x : Runs reg (scan_of s.scan) bs at next s'.scan t t' batch) where
        both : Ran (rules_of reg) (scan_of s₀.scan) (between 0 next bs) (scan_of s'.scan) (c.told ++ batch) t₀ t'
        both =
            rw (between-add bs 0 at next (omega arith) (omega (arith, x.behind)))
            (ran-both reg (scan_of s₀.scan) (scan_of s.scan) (scan_of s'.scan) (between 0 at bs) (between at next bs) c.told batch t₀ t t' c.ran x.ran)

        both-count : length (c.told ++ batch) ≡ count + length batch
        both-count = length-append c.told batch ∙ omega (arith, c.counted)

        pub few : count + length batch ≤ room_for (length bs)
        few = omega (arith, both-count, ran-room next (scan_of s'.scan) (c.told ++ batch) t' x.within both)

        pub fits : count + length batch ≤ length (entries r)
        fits = omega (arith, few, room-same, room_enough s₀ reg (length t₀) (length (entries r₀)) (feed bs) c.goes)

        pub steps : (r' : List A) → entries r' ≡ pasted (entries r) count batch → ((n : ℕ) → count + length batch ≤ n → behind n r' ≡ behind n r)
            → s'.taken ≡ s.taken → length t' ≡ length t → Comes t' r' s' next (count + length batch)
        steps r' e l taken long =
            record {
              goes = c.goes;
              inside = x.within;
              told = c.told ++ batch;
              counted = both-count;
              report =
                  e ∙ rw (c.report, ← c.counted) (paste-behind c.told batch (entries r₀))
                  ∙ ap (λ n. (c.told ++ batch) ++ drop n (entries r₀)) both-count;
              left = λ n h. l n h ∙ c.left n (omega (arith, h));
              ran = both;
              taken = taken ∙ c.taken;
              holds = x.holds;
              room = omega (arith, c.room, long);
            }

      pub stops : length bs ≤ at → length r ≡ length r₀ → Keeps entries behind reg s₀ t₀ (feed bs) r₀ (Ok count) s t r
      unfolding done_call view_of view_from cut_to entries_of
      stops stop long =
          let end : at ≡ length bs = omega (arith, c.inside, stop) in
          let ran : Ran (rules_of reg) (scan_of s₀.scan) bs (scan_of s.scan) c.told t₀ t
          = subst (λ x. Ran (rules_of reg) (scan_of s₀.scan) x (scan_of s.scan) c.told t₀ t) (between-whole bs at end) c.ran in
          let u : Scan = scan_to (rules_of reg) (scan_of s₀.scan) bs in
          let n : count ≡ length (scan_events (rules_of reg) (scan_of s₀.scan) bs)
          = sym c.counted ∙ ap length ran.tells.entered ∙ length-map (scan_events (rules_of reg) (scan_of s₀.scan) bs) _ in
          let held : s.scan.held ≡ length (take kept_limit u.kept) = held-long s u c.holds.whole ran.reaches in
          done-keeps reg s₀ t₀ (feed bs) r₀ count s t r c.goes refl ran.tells.loads n
          (λ i. record { plain = record { scanned = ran.reaches i; taken = c.taken i }; held = held i })
          (c.report ∙ ap (λ es. es ++ drop count (entries r₀)) ran.tells.entered) long (c.left count (omega arith)) tt

  -- ---- FINISH

  module _ (reg : Bytes) (t₀ : Words) (r₀ : List A) (s₀ : State) (goes : done ≡ number_for s₀ reg (length t₀) (length (entries r₀)) 0) where
    pub end-holds : length s₀.scan.kept ≡ kept_limit → Holds s₀.scan 0
    end-holds kept =
        let f : Fits s₀ = fits-state s₀ reg (length t₀) (length (entries r₀)) finish goes in
        record { few = f.held; whole = omega (arith, f.held, kept); details = f.details; fits = omega (arith, f.lines, f.taken) }

    pub end-room : HasRoom reg t₀
    unfolding rules_of
    end-room = (is-allowed s₀ reg (length t₀) (length (entries r₀)) finish goes).long

    module _ (t : Words) (batch : List Entry) (x : Last reg (scan_of s₀.scan) batch t₀ t) where
      end-count : length batch ≡ length (end_events (rules_of reg) (scan_of s₀.scan))
      unfolding entries_of
      end-count = ap length x.entered ∙ length-map (end_events (rules_of reg) (scan_of s₀.scan)) _

      pub end-fits : 0 + length batch ≤ length (entries r₀)
      end-fits =
          omega (
            arith,
            end-count,
            finish-room (rules_of reg) (scan_of s₀.scan),
            room_enough s₀ reg (length t₀) (length (entries r₀)) finish goes,
          )

      pub ends : (r : List A) (s : State) → entries r ≡ pasted (entries r₀) 0 batch
          → ((n : ℕ) → 0 + length batch ≤ n → behind n r ≡ behind n r₀) → s ≡ fresh_state → length r ≡ length r₀
          → Keeps entries behind reg s₀ t₀ finish r₀ (Ok (length batch)) s t r
      unfolding done_call view_of entries_of
      ends r s e left new long =
          let w : entries r ≡ batch ++ drop (length batch) (entries r₀) = e ∙ paste-front batch (entries r₀) in
          done-keeps reg s₀ t₀ finish r₀ (length batch) s t r goes refl x.loads end-count (ap view_of new ∙ fresh-view)
          (w ∙ ap (λ es. es ++ drop (length batch) (entries r₀)) x.entered) long (left (length batch) (omega arith)) new
