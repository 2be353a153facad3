-- Demand 3 over any rules that are lawful.
-- Assumes nothing.
use mathlib.Core.Bool.{Bool, true, false, cond}
use mathlib.Core.List.{List, [], ◌∷◌, ◌++◌, map}
use mathlib.Core.Logic.{inl}
use mathlib.Core.Path.{◌≡◌, refl, ap, sym, ◌∙◌, subst}
use Prim.Native.Nat.{ℕ, ◌+◌, ◌*◌, ◌<◌, ◌≤◌}
use native.Mathlib.Omega.{arith}
use lib.ListN.{length, length-append}
use Rattle.text.specs.Byte.{Bytes}
use Rattle.cell.specs.Layout.{Words, width}
use Rattle.reads.specs.Load.{cell_at}
use Rattle.plain.specs.Call.{fresh, plain_answers, plain_events, plain_table}
use Rattle.plain.specs.Claim.{calls_of, answers_of, last_table, report_of, taken_by, OnlyFinish, lines_from, line_count, filled, first_kind, raise, begun_in, entries_in, events_in, joined, alone, alone_table, Spoken, Isolated, Demand3}
use Rattle.plain.specs.Loader.{Event, start, entries_of, with_load, loads_of, file_from, file_events}
use Rattle.plain.specs.Promise.{view_from, Made, Chain}
use Rattle.plain.specs.Rows.{Rules}
use Rattle.plain.specs.Table.{reads_for, Settled}
use Rattle.plain.proofs.Bounds.{Seams, bounded}
use Rattle.plain.proofs.Calls.{fresh_kept, Follows, follow, follow-answers, follow-table}
use Rattle.plain.proofs.File.{plain-loads, plain-entries, report-joined, only-file, Taken, only-taken, plain-good, alone-events, alone-entries, alone-table}
use Rattle.plain.proofs.Good.{GoodEvents, good-wide, good-held}
use Rattle.plain.proofs.Isolation.{isolated, joined_files}
use Rattle.plain.proofs.Latest.{settles}
use Rattle.plain.proofs.Lawful.{Lawful}
use Rattle.plain.proofs.Loads.{merge_all, all-cell, reads_append}
use Rattle.plain.proofs.Pieces.{entries-append, loads-append}
use Rattle.plain.proofs.Raise.{raise_events}

module _ (R : Rules) where
  raise-loads : (n : ℕ) (es : List Event) → loads_of (raise_events n es) ≡ loads_of es
  unfolding loads_of
  raise-loads n [] = refl
  raise-loads n (e ∷ es) = ap (with_load e.load) (raise-loads n es)

  raise-entries : (n : ℕ) (es : List Event) → entries_of (raise_events n es) ≡ map (λ e. raise n e) (entries_of es)
  unfolding entries_of
  raise-entries n [] = refl
  raise-entries n (e ∷ es) = ap (λ r. raise n e.entry ∷ r) (raise-entries n es)

  in_entries : (a x : ℕ) (es : List Event) → entries_of (events_in a x es) ≡ entries_in a x (entries_of es)
  unfolding entries_of events_in entries_in
  in_entries a x [] = refl
  in_entries a x (e ∷ es) = go (begun_in a x e.entry) (in_entries a x es)
    where
      go : (b : Bool) → entries_of (events_in a x es) ≡ entries_in a x (entries_of es)
          → entries_of (cond b (e ∷ events_in a x es) (events_in a x es)) ≡ cond b (e.entry ∷ entries_in a x (entries_of es)) (entries_in a x (entries_of es))
      go true h = ap (λ r. e.entry ∷ r) h
      go false h = h

  module _ (L : Lawful R) (t : Words) (ms : List Made) (chain : Chain R (view_from fresh) t ms) where
    events : List Event
    events = plain_events R t fresh (calls_of ms)

    follows : Follows R L fresh t ms
    follows = follow R L fresh (view_from fresh) t ms refl (fresh_kept R L) chain

    the_answers : answers_of ms ≡ plain_answers R t fresh (calls_of ms)
    the_answers = follow-answers R L fresh t ms follows

    the_table : last_table t ms ≡ plain_table R t fresh (calls_of ms)
    the_table = follow-table R L fresh t ms t refl follows

    good : GoodEvents R events
    unfolding events
    good = plain-good R L t fresh (calls_of ms) (fresh_kept R L)

    the_cell : (c : ℕ) → R.cells * width ≤ length t → c < R.cells → cell_at (last_table t ms) c ≡ merge_all (cell_at t c) (reads_for R c (loads_of events))
    unfolding events
    the_cell c h b =
        rw (the_table, plain-loads R L t fresh (calls_of ms))
        (all-cell R L t (loads_of events) c h (good-wide R events good) b)

    the_cells : (c : ℕ) → Spoken R t c → Settled (cell_at t c) (reads_for R c (loads_of events)) (cell_at (last_table t ms) c)
    the_cells c s = rw (the_cell c s.long s.below) (settles (cell_at t c) (reads_for R c (loads_of events)) (good-held R c events good))

    the_report : report_of ms ≡ entries_of events
    unfolding events
    the_report = report-joined R L ms ∙ ap joined the_answers ∙ plain-entries R L t fresh (calls_of ms)

    module _ (o : OnlyFinish ms) (a x b : Bytes) (joins : taken_by ms ≡ a ++ (x ++ b)) (h : Seams R a x b) where
      taken : Taken R L t (length a + (length x + length b))
      taken =
          let p : Taken R L t (0 + length (taken_by ms)) = only-taken R L fresh t ms (fresh_kept R L) follows o in
          let e : length (taken_by ms) ≡ length a + (length x + length b) = rw joins (simp length-append) in
          record { sound = p.sound; long = p.long; few = omega (arith, p.few) }

      -- a part of the file is no longer than the file
      shorter : (f : Bytes) → length f ≤ length a + (length x + length b) → Taken R L t (length f)
      shorter f l = record { sound = taken.sound; long = taken.long; few = omega (arith, taken.few) }

      file : events ≡ file_events R (a ++ (x ++ b))
      unfolding events file_events
      file = only-file R L fresh t ms follows o ∙ ap (λ f. file_from R start f) joins

      whole : List Event
      whole = file_events R (a ++ (x ++ b))

      middle : List Event
      middle = events_in (line_count a) (line_count x) whole

      in_three : whole ≡ file_events R a ++ (middle ++ raise_events (line_count a + line_count x) (file_events R b))
      unfolding whole middle
      in_three = isolated R a x b h

      report : report_of ms
          ≡ alone R t a ++ (entries_in (line_count a) (line_count x) (report_of ms) ++ map (λ e. raise (line_count a + line_count x) e) (alone R t b))
      unfolding whole middle
      report =
          let n : ℕ = line_count a + line_count x in
          let q : report_of ms ≡ entries_of whole = the_report ∙ ap (entries_of) file in
          rw (
            q,
            alone-entries R L t a (shorter a (omega arith)),
            alone-entries R L t b (shorter b (omega arith)),
            ← in_entries (line_count a) (line_count x) whole,
            ← raise-entries n (file_events R b),
            ← entries-append R middle (raise_events n (file_events R b)),
            ← entries-append R (file_events R a) (middle ++ raise_events n (file_events R b)),
          )
          (ap (entries_of) in_three)

      -- the reads of a cell, in A's loads, the middle's and B's
      reads_three : (c : ℕ) → reads_for R c (loads_of whole)
          ≡ reads_for R c (loads_of (file_events R a)) ++ (reads_for R c (loads_of middle) ++ reads_for R c (loads_of (file_events R b)))
      reads_three c =
          let n : ℕ = line_count a + line_count x in
          rw (
            in_three,
            loads-append R (file_events R a) (middle ++ raise_events n (file_events R b)),
            loads-append R middle (raise_events n (file_events R b)),
            raise-loads n (file_events R b),
            reads_append R L c (loads_of (file_events R a)) (loads_of middle ++ loads_of (file_events R b)),
            reads_append R L c (loads_of middle) (loads_of (file_events R b)),
          )

      reads_two : (c : ℕ) → reads_for R c (loads_of (file_events R (a ++ b)))
          ≡ reads_for R c (loads_of (file_events R a)) ++ reads_for R c (loads_of (file_events R b))
      unfolding filled first_kind lines_from
      reads_two c =
          let g : Seams R a [] b
          = record { a_whole = h.a_whole; a_unit = h.a_unit; x_whole = inl refl; x_first = λ z. absurd (let y : ◌≡◌ {A = ℕ} 0 1 = cc in omega arith); b_opens = h.b_opens } in
          rw (joined_files R a b g, loads-append R (file_events R a) (raise_events (line_count a) (file_events R b)), raise-loads (line_count a) (file_events R b))
          (reads_append R L c (loads_of (file_events R a)) (loads_of (file_events R b)))

      both : Taken R L t (length (a ++ b))
      both = shorter (a ++ b) (simp length-append (omega arith))

      alone-cell : (c : ℕ) → c < R.cells → cell_at (alone_table R t (a ++ b)) c ≡ merge_all (cell_at t c) (reads_for R c (loads_of (file_events R (a ++ b))))
      alone-cell c b' =
          rw (alone-table R L t (a ++ b) both)
          (all-cell R L t (loads_of (file_events R (a ++ b))) c taken.long
          (good-wide R (file_events R (a ++ b)) (subst (λ e. GoodEvents R e) (alone-events R L t (a ++ b) both) (plain-good R L t fresh _ (fresh_kept R L)))) b')

      untouched : (c : ℕ) → c < R.cells → reads_for R c (loads_of middle) ≡ [] → cell_at (last_table t ms) c ≡ cell_at (alone_table R t (a ++ b)) c
      unfolding whole
      untouched c b' e =
          the_cell c taken.long b'
          ∙ ap (merge_all (cell_at t c))
          (ap (λ v. reads_for R c (loads_of v)) file ∙ reads_three c
          ∙ ap (λ r. reads_for R c (loads_of (file_events R a)) ++ (r ++ reads_for R c (loads_of (file_events R b)))) e ∙ sym (reads_two c))
          ∙ sym (alone-cell c b')

      the_isolated : Isolated R t ms a x b
      unfolding events middle whole
      the_isolated = record { report = report; cells = λ c s e. untouched c s.below (subst (λ v. reads_for R c (loads_of (events_in (line_count a) (line_count x) v)) ≡ []) file e) }

    pub any_demand3 : Demand3 R t ms
    unfolding events
    any_demand3 =
        record {
          answers = the_answers;
          table = the_table;
          cells = the_cells;
          isolated = λ o a x b e ha hx hb. the_isolated o a x b e (bounded R a x b ha hx hb);
        }
