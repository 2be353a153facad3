-- What one real call of feed or finish promises, from any state; and chains of such calls. Document 01, "What a call returns" (1) and
-- "For whoever tests it".
-- Assumes nothing.
use Rattle.std.specs.Prelude.{◌≡◌, List, [], ◌∷◌, ◌++◌, Bool, cond, ◌||◌, ℕ, zero, suc, ltb, length, take, drop}
use Rattle.lines.specs.Line.{kept_limit}
use Rattle.cell.specs.Layout.{Words}
use Rattle.report.specs.Refusal.{bad_state}
use Rattle.report.specs.declared.Entry.{Entry}
use Rattle.plain.specs.Rows.{Rules, max_details, details_of}
use Rattle.plain.specs.Table.{load_all}
use Rattle.plain.specs.Loader.{OpenUnit, no_unit, takes_rows, waits, skips, Event, Scan, scan, entries_of, loads_of}
use Rattle.plain.specs.Call.{byte_limit, Asked, Call, Answer, Plain, Done, refused_by, done_call}

-- The real calls keep at most the first 201 bytes of a line: these tell its kind, and that it is long.
abbrev pub cut_scan : Scan → Scan
cut_scan s = scan (take kept_limit s.kept) s.lines s.unit

unfoldable pub cut_to : Plain → Plain
cut_to p = record { scanned = cut_scan p.scanned; taken = p.taken }

-- the detail rows that a unit holds
abbrev pub details_in : OpenUnit → ℕ
details_in no_unit = 0
details_in (takes_rows first rows) = details_of rows
details_in (waits first last r) = 0
details_in skips = 0

-- A state as it is looked at: what it holds, and how many line bytes it says it holds.
pub record View : Type 0 where
  pub plain : Plain
  pub held : ℕ

unfoldable pub view_from : Plain → View
view_from p = record { plain = cut_to p; held = length (take kept_limit p.scanned.kept) }

-- 1: over 201 line bytes, 200,000,000 bytes taken, 25 detail rows, or more lines than bytes
unfoldable pub overfull : View → Bool
overfull v =
    ltb kept_limit v.held
    || (ltb byte_limit v.plain.taken
    || (ltb max_details (details_in v.plain.scanned.unit) || ltb v.plain.taken v.plain.scanned.lines))

-- what one real call does
pub record Coded : Type 0 where
  pub number : ℕ
  pub events : List Event
  pub next : View

-- One call as it was made and as it came back: the state is told by its view, the report before the call and after it.
pub record Made : Type 0 where
  pub asked : Asked
  pub report : List Entry
  pub number : ℕ
  pub count : ℕ
  pub after : View
  pub table : Words
  pub written : List Entry

abbrev pub call_of : Made → Call
call_of m = record { asked = m.asked; room = length m.report }

-- the entries read from the report as the call returns
abbrev pub entries_read : Made → List Entry
entries_read m = take m.count m.written

abbrev pub made_answer : Made → Answer
made_answer m = record { number = m.number; count = m.count; entries = entries_read m }

module _ (R : Rules) where
  unfoldable pub code_number : ℕ → View → Asked → Coded
  code_number zero v a =
      let d : Done = done_call R v.plain a in
      record { number = d.number; events = d.events; next = view_from d.next }
  code_number (suc n) v a = record { number = suc n; events = []; next = v }

  -- refusal 1 first; then as the plain loader does, at what the state holds
  unfoldable pub code_call : ℕ → View → Call → Coded
  code_call size v c = code_number (cond (overfull v) bad_state (refused_by R size v.plain.taken c)) v c.asked

  -- What comes back, and what every lent word and entry then is.
  pub record Promise (s : View) (t : Words) (m : Made) : Type 0 where
    pub number : m.number ≡ (code_call (length t) s (call_of m)).number
    pub count : m.count ≡ length (code_call (length t) s (call_of m)).events
    pub after : m.after ≡ (code_call (length t) s (call_of m)).next
    pub table : m.table ≡ load_all R t (loads_of (code_call (length t) s (call_of m)).events)
    pub written : m.written ≡ entries_of (code_call (length t) s (call_of m)).events ++ drop m.count m.report

  -- A list of calls: each gets the state that the one before it returned, and the table as that one left it.
  unfoldable pub Chain : View → Words → List Made → Type 0
  Chain s t [] = Unit {0}
  Chain s t (m ∷ ms) = Promise s t m × Chain m.after m.table ms
