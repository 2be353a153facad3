-- The theorem of this crate: what Write puts out for a sound cell, fed in any pieces into a cleared table, gives one entry and that cell.
-- What it says is in specs/RoundTrip.antt.
-- Assumes nothing.
use mathlib.Core.Path.{◌≡◌, refl, ap, ◌∙◌}
use mathlib.Core.List.{List, [], ◌∷◌}
use mathlib.Core.Bool.{true}
use Prim.Native.Nat.{ℕ, zero, suc, ◌+◌, ◌*◌, ◌/◌, ◌≤◌, ◌<◌}
use native.Mathlib.Omega.{arith}
use lib.ListN.{length, get_or, take, drop}
use lib.Seq.{get_or-take, get_or-drop}
use borrow.Author.Tests.{lt-ltb, eq-eqb}
use Rattle.calendar.specs.Day.{last_day, date_of}
use Rattle.calendar.specs.Intervals.{intervals_of}
use Rattle.calendar.proofs.Laws.{date_real}
use Rattle.text.specs.Byte.{Bytes}
use Rattle.text.specs.Identifier.{is_descriptor}
use Rattle.report.specs.Outcome.{Outcome, passed, require, ◌>>◌}
use Rattle.report.proofs.Passing.{then_passed, require-passed}
use Rattle.details.specs.Detail.{per_row}
use Rattle.padded.specs.Padding.{unpad}
use Rattle.registry.specs.Registry.{window_is}
use Rattle.registry.specs.Index.{meter_at}
use Rattle.registry.proofs.Laws.{Formed, meter-formed, sound-window}
use Rattle.cell.specs.Layout.{Words, width, count_at}
use Rattle.reads.specs.Load.{cell_at, put_cell, holds_none, merge, loaded}
use Rattle.reads.proofs.Frame.{cell-length}
use Rattle.report.specs.Refusal.{bad_descriptor}
use Rattle.headers.specs.One.{channel_number}
use Rattle.cells.specs.Number.{channels}
use Rattle.cells.specs.Address.{meter_count, day_count, cells_of, is_address, cell_of}
use Rattle.cells.proofs.Found.{cell-within}
use Rattle.cells.proofs.Numbers.{number-below}
use Rattle.cells.proofs.Passed.{FoundCell, found-cell}
use Rattle.writer.specs.Record.{cell_text}
use Rattle.writer.specs.Write.{Fits, written_record}
use Rattle.plain.specs.Rows.{Load, header_rows, rules_of}
use Rattle.plain.specs.Table.{load_one, load_all}
use Rattle.plain.specs.Loader.{Event, start, loading, entries_of, loads_of, file_from, file_events}
use Rattle.plain.specs.Call.{fresh, plain_events}
use Rattle.plain.specs.Promise.{Made, view_from, Chain}
use Rattle.plain.specs.Claim.{OnlyFinish, calls_of, taken_by, report_of, last_table, joined}
use Rattle.plain.proofs.Lawful.{Lawful}
use Rattle.plain.proofs.Rules.{lawful}
use Rattle.plain.proofs.Calls.{Follows, fresh_kept, follow, follow-answers, follow-table}
use Rattle.plain.proofs.File.{plain-loads, plain-entries, report-joined, only-file}
use Rattle.roundtrip.specs.RoundTrip.{Cleared, IsWritten, entry_for, ReadsBack, TheRoundTrip}
use Rattle.roundtrip.proofs.CellBack.{zeros-at}
use Rattle.roundtrip.proofs.MeterBack.{meter-back}
use Rattle.roundtrip.proofs.RecordBack.{Writable, record-back}
use Rattle.roundtrip.proofs.RowsBack.{channel_at}

-- ---- A CELL'S WORDS are some of the table's.

take-fits : (n : ℕ) (s : Words) → Fits s → Fits (take n s)
take-fits zero s h k = omega arith
take-fits (suc n) [] h k = omega arith
take-fits (suc n) (x ∷ s) h zero = h 0
take-fits (suc n) (x ∷ s) h (suc k) = take-fits n s (λ i. h (suc i)) k

cell-fits : (t : Words) (k : ℕ) → Fits t → Fits (cell_at t k)
unfolding cell_at
cell-fits t k h = take-fits width (drop (k * width) t) (λ i. rw (get_or-drop (k * width) t i 0) (h (k * width + i)))

-- ---- A CLEARED TABLE takes a read as it is.

cleared-none : (t : Words) (k : ℕ) → Cleared t → holds_none (cell_at t k) ≡ true
unfolding holds_none cell_at
cleared-none t k e =
    eq-eqb _ 0
    (get_or-take width (drop (k * width) t) count_at 0 (omega arith) ∙ get_or-drop (k * width) t count_at 0
    ∙ ap (λ (s : Words). get_or s (k * width + count_at) 0) e ∙ zeros-at (length t) (k * width + count_at))

cleared-load : (t : Words) (k : ℕ) (w : Words) → Cleared t → loaded t k w ≡ put_cell t k w
unfolding loaded merge
cleared-load t k w e = rw (cleared-none t k e)

channel-back : (c : ℕ) → c < channels → channel_number (channel_at c) ≡ c
unfolding channel_number
channel-back zero h = refl
channel-back (suc zero) h = refl
channel-back (suc (suc c)) h = absurd (omega arith)

-- ---- WHAT IS WRITTEN

module _ (reg : Bytes) (table : Words) (m c d : ℕ) (descriptor : Bytes) (w : Words) (text : Bytes)
    (h : IsWritten reg table m c d descriptor w text) where
  found : FoundCell reg table m c d w
  found = found-cell reg table m c d w h.cell

  written : (is_descriptor descriptor ≡ true) × (cell_text reg m c d descriptor w ≡ text)
  unfolding written_record
  written =
      let q : (require (is_descriptor descriptor) bad_descriptor >> passed (cell_text reg m c d descriptor w)) ≡ passed text = rw h.cell at h.written in
      let p = then_passed (require (is_descriptor descriptor) bad_descriptor) text (passed (cell_text reg m c d descriptor w)) q in
      let r : ◌≡◌ {A = Outcome Bytes} (passed (cell_text reg m c d descriptor w)) (passed text) = p.2 in
      (require-passed (is_descriptor descriptor) bad_descriptor p.0 p.1, cc)

  formed : Formed (meter_at reg m)
  formed = meter-formed reg m found.address.meter

  low : (window_is reg).first + d ≤ last_day
  low = omega (arith, (sound-window reg found.rules).ends, found.address.day)

  within : cell_of reg m c d * width + width ≤ length table
  within = cell-within (cell_of reg m c d) (cells_of reg) (length table) (number-below (meter_count reg) (day_count reg) m c d found.address) found.long

  writable : Writable (unpad (meter_at reg m).id) (unpad (meter_at reg m).owner) (date_of ((window_is reg).first + d)) descriptor w
  unfolding intervals_of
  writable = record {
    named = formed.id;
    owned = formed.owner;
    dated = date_real ((window_is reg).first + d) low;
    described = written.0;
    wide = rw (← found.words) (cell-length table (cell_of reg m c d) within);
    fits = rw (← found.words) (cell-fits table (cell_of reg m c d) h.fits);
    sound = found.sound;
  }

  -- what its record loads, and the one verdict of the file
  load : Load
  load = record { meter = m; channel = channel_at c; window_day = d; words = w }

  event : Event
  event = loading 1 (suc header_rows + get_or w count_at 0 / per_row) (record { day = date_of ((window_is reg).first + d); load = load })

  file : file_events (rules_of reg) text ≡ event ∷ []
  unfolding cell_text event load
  file =
      rw (← written.1)
      (record-back _ _ c _ descriptor w writable reg m d (meter-back reg m d found.rules found.address.meter found.address.day h.loads))

  load-back : (cleared : Words) → Cleared cleared → load_one (rules_of reg) cleared load ≡ put_cell cleared (cell_of reg m c d) w
  unfolding load_one rules_of load is_address
  load-back cleared e =
      let a = found.address in
      rw (channel-back c a.channel, lt-ltb m (meter_count reg) a.meter, lt-ltb c channels a.channel, lt-ltb d (day_count reg) a.day)
      (cleared-load cleared (cell_of reg m c d) w e)

  -- ---- THE CALLS

  module _ (cleared : Words) (none : Cleared cleared) (ms : List Made) (chain : Chain (rules_of reg) (view_from fresh) cleared ms)
      (o : OnlyFinish ms) (taken : taken_by ms ≡ text) where
    L : Lawful (rules_of reg)
    L = lawful reg

    follows : Follows (rules_of reg) L fresh cleared ms
    follows = follow (rules_of reg) L fresh (view_from fresh) cleared ms refl (fresh_kept (rules_of reg) L) chain

    events : plain_events (rules_of reg) cleared fresh (calls_of ms) ≡ event ∷ []
    unfolding file_events
    events = only-file (rules_of reg) L fresh cleared ms follows o ∙ ap (λ (f : Bytes). file_from (rules_of reg) start f) taken ∙ file

    report : report_of ms ≡ entry_for reg m d w ∷ []
    unfolding entries_of event load
    report =
        report-joined (rules_of reg) L ms ∙ ap joined (follow-answers (rules_of reg) L fresh cleared ms follows)
        ∙ plain-entries (rules_of reg) L cleared fresh (calls_of ms) ∙ ap entries_of events

    last : last_table cleared ms ≡ put_cell cleared (cell_of reg m c d) w
    unfolding load_all loads_of event
    last =
        follow-table (rules_of reg) L fresh cleared ms cleared refl follows ∙ plain-loads (rules_of reg) L cleared fresh (calls_of ms)
        ∙ ap (λ (es : List Event). load_all (rules_of reg) cleared (loads_of es)) events ∙ load-back cleared none

    reads_back : ReadsBack reg m c d w cleared ms
    reads_back = record { report = report; table = last }

pub round_trip : TheRoundTrip
round_trip reg table m c d descriptor w text h cleared none ms chain o taken =
    reads_back reg table m c d descriptor w text h cleared none ms chain o taken
