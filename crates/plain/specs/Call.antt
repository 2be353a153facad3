-- Calls: what the plain loader answers to each of a list of them. Document 01, "What a call returns" and "The plain loader".
-- Assumes nothing.
use Rattle.std.specs.Prelude.{List, [], ◌∷◌, ◌++◌, cond, not, ℕ, zero, suc, ◌+◌, ◌*◌, ◌/◌, ltb, length}
use Rattle.text.specs.Byte.{Bytes}
use Rattle.cell.specs.Layout.{Words, width}
use Rattle.report.specs.Refusal.{done, bad_registry, short_table, short_report, too_many_bytes}
use Rattle.report.specs.declared.Entry.{Entry}
use Rattle.plain.specs.Rows.{Rules}
use Rattle.plain.specs.Table.{load_all}
use Rattle.plain.specs.Loader.{Event, Scan, start, scan_to, scan_events, end_events, entries_of, loads_of}

-- the most bytes that are taken before a finish
abbrev pub byte_limit : ℕ
byte_limit = 200_000_000

-- the entries that a report must hold for a piece of so many bytes, and for finish
abbrev pub room_for : ℕ → ℕ
room_for n = 2 + n / 2

pub data Asked : Type 0 where
  feed : Bytes → Asked
  finish : Asked

-- a call as the plain loader is told of it: its kind and piece, and its report's length
pub record Call : Type 0 where
  pub asked : Asked
  pub room : ℕ

abbrev pub piece_of : Asked → Bytes
piece_of (feed piece) = piece
piece_of finish = []

-- what a call returns, besides the state: number, count, entries
pub record Answer : Type 0 where
  pub number : ℕ
  pub count : ℕ
  pub entries : List Entry

-- what is kept between calls, besides the table
pub record Plain : Type 0 where
  pub scanned : Scan
  pub taken : ℕ

abbrev pub fresh : Plain
fresh = record { scanned = start; taken = 0 }

-- what one call does
pub record Done : Type 0 where
  pub number : ℕ
  pub events : List Event
  pub next : Plain

-- a refusal changes nothing
abbrev pub refused_call : ℕ → Plain → Done
refused_call n p = record { number = n; events = []; next = p }

abbrev pub answer_of : Done → Answer
answer_of d = record { number = d.number; count = length d.events; entries = entries_of d.events }

module _ (R : Rules) where
  abbrev pub table_after : Words → Done → Words
  table_after table d = load_all R table (loads_of d.events)

  -- 2 to 5, tested in this order, 0 where none holds: by the table's length, the bytes taken, the report's length and the piece's. Finish has no
  -- piece, so that no 5 can come up.
  unfoldable pub refused_at : ℕ → ℕ → ℕ → ℕ → ℕ
  refused_at size taken room n =
      cond (not R.sound) bad_registry
      (cond (ltb size (R.cells * width)) short_table
      (cond (ltb room (room_for n)) short_report
      (cond (ltb byte_limit (taken + n)) too_many_bytes done)))

  abbrev pub refused_by : ℕ → ℕ → Call → ℕ
  refused_by size taken c = refused_at size taken c.room (length (piece_of c.asked))

  -- feed takes the piece; finish starts all but the table anew
  unfoldable pub done_call : Plain → Asked → Done
  done_call p (feed piece) =
      record {
        number = done;
        events = scan_events R p.scanned piece;
        next = record { scanned = scan_to R p.scanned piece; taken = p.taken + length piece };
      }
  done_call p finish = record { number = done; events = end_events R p.scanned; next = fresh }

  unfoldable pub by_number : ℕ → Plain → Asked → Done
  by_number zero p a = done_call p a
  by_number (suc n) p a = refused_call (suc n) p

  unfoldable pub plain_call : ℕ → Plain → Call → Done
  plain_call size p c = by_number (refused_by size p.taken c) p c.asked

  -- over a list of calls: each call's answer, the events of them all, the table
  unfoldable pub plain_answers : Words → Plain → List Call → List Answer
  plain_answers table p [] = []
  plain_answers table p (c ∷ cs) =
      let d : Done = plain_call (length table) p c in
      answer_of d ∷ plain_answers (table_after table d) d.next cs

  unfoldable pub plain_events : Words → Plain → List Call → List Event
  plain_events table p [] = []
  plain_events table p (c ∷ cs) =
      let d : Done = plain_call (length table) p c in
      d.events ++ plain_events (table_after table d) d.next cs

  unfoldable pub plain_table : Words → Plain → List Call → Words
  plain_table table p [] = table
  plain_table table p (c ∷ cs) =
      let d : Done = plain_call (length table) p c in
      plain_table (table_after table d) d.next cs
