-- Demand 3, whole. Its theorem, for every registry and every list of calls, is `demand3` in proofs/Demand3.antt.
--
--   For every list of feed and finish calls, refused ones included, from a fresh state, over one registry and one table: after it each call's
--   number, count and entries, and the whole table, are those of document 01's plain loader [answers, table]. Every cell holds the first of the
--   latest-stamped among what it held at the start and the reads loaded for it [cells]. Suppose the list's last call is its only finish that was
--   done, and the pieces taken join to a file that is A, then X, then B, bounded as document 01 says, X being any damage [isolated]. Then the
--   report is A's entries as A alone gives them, then X's, then B's exactly as B alone gives them, first and deciding lines raised by the lines
--   of A and X [report]. A cell for which no record of X loads is as A followed by B, over the same starting table, leaves it [cells].
-- Assumes nothing.
use Rattle.std.specs.Prelude.{◌≡◌, List, [], ◌∷◌, ◌++◌, map, ◌⊎◌, Bool, true, false, cond, ◌&&◌, ◌||◌, ℕ, zero, suc, ◌+◌, ◌*◌, ◌<◌, ◌≤◌, eqb, ltb, leb, length}
use Rattle.report.specs.Words.{entry_of}
use Rattle.text.specs.Byte.{Bytes, starts_with}
use Rattle.lines.specs.Line.{LF, Line, ended_line, opener_bytes, kind_of}
use Rattle.lines.specs.declared.line.Kind.{Kind}
use Rattle.lines.specs.declared.line.Kind.TheVariants.{Empty, Opener, Detail, Other}
use Rattle.cell.specs.Layout.{Words, width}
use Rattle.reads.specs.Load.{cell_at}
use Rattle.report.specs.declared.Entry.{Entry}
use Rattle.plain.specs.Rows.{Row, refused_with, goes_on, complete, Rules, rules_of}
use Rattle.plain.specs.Table.{reads_for, Settled}
use Rattle.plain.specs.Loader.{Event, loads_of}
use Rattle.plain.specs.Call.{Asked, feed, finish, Call, room_for, Answer, fresh, plain_answers, plain_events, plain_table}
use Rattle.plain.specs.Promise.{Made, view_from, Chain, call_of, entries_read, made_answer}

-- ---- the list of calls

abbrev pub calls_of : List Made → List Call
calls_of ms = map (λ m. call_of m) ms

abbrev pub answers_of : List Made → List Answer
answers_of ms = map (λ m. made_answer m) ms

unfoldable pub last_table : Words → List Made → Words
last_table t [] = t
last_table t (m ∷ ms) = last_table m.table ms

-- the report is the joining of what the calls wrote, in order
unfoldable pub report_of : List Made → List Entry
report_of [] = []
report_of (m ∷ ms) = entries_read m ++ report_of ms

-- by its kind and the number returned: a finish that was done; the piece that a call took
abbrev pub finish_done : Asked → ℕ → Bool
finish_done (feed piece) n = false
finish_done finish zero = true
finish_done finish (suc n) = false

abbrev pub took_by : Asked → ℕ → Bytes
took_by (feed piece) zero = piece
took_by (feed piece) (suc n) = []
took_by finish n = []

-- the pieces taken are those of the feeds that returned 0, in order
unfoldable pub taken_by : List Made → Bytes
taken_by [] = []
taken_by (m ∷ ms) = took_by m.asked m.number ++ taken_by ms

-- the list's last call is its only finish that was done
unfoldable pub OnlyFinish : List Made → Type 0
OnlyFinish [] = ⊥
OnlyFinish (m ∷ []) = finish_done m.asked m.number ≡ true
OnlyFinish (m ∷ (n ∷ ms)) = (finish_done m.asked m.number ≡ false) × OnlyFinish (n ∷ ms)

-- ---- lines

-- the lines that LFs end in the bytes s; `kept` stands before them
unfoldable pub lines_from : Bytes → Bytes → List Line
lines_from kept [] = []
lines_from kept (b ∷ s) = cond (eqb b LF) (ended_line kept ∷ lines_from [] s) (lines_from (kept ++ (b ∷ [])) s)

abbrev pub lines_of : Bytes → List Line
lines_of s = lines_from [] s

abbrev pub line_count : Bytes → ℕ
line_count s = length (lines_of s)

abbrev pub line_kind : Line → Kind
line_kind l = kind_of l.body

abbrev pub is_filled : Kind → Bool
is_filled Empty = false
is_filled Opener = true
is_filled Detail = true
is_filled Other = true

abbrev pub is_opener : Kind → Bool
is_opener Empty = false
is_opener Opener = true
is_opener Detail = false
is_opener Other = false

-- the lines that are not empty
unfoldable pub filled : List Line → List Line
filled [] = []
filled (l ∷ ls) = cond (is_filled (line_kind l)) (l ∷ filled ls) (filled ls)

-- the kind of the first line of a list; `Empty` where there is none
unfoldable pub first_kind : List Line → Kind
first_kind [] = Empty
first_kind (l ∷ ls) = line_kind l

-- empty, or ends with LF
abbrev pub EndsWithLF : Bytes → Type 0
EndsWithLF s = (r : Bytes) × (s ≡ r ++ (LF ∷ []))

abbrev pub Whole : Bytes → Type 0
Whole s = (s ≡ []) ⊎ EndsWithLF s

-- ---- the bounds on A, X and B

unfoldable pub has_opener : List Line → Bool
has_opener [] = false
has_opener (l ∷ ls) = is_opener (line_kind l) || has_opener ls

-- from the last opener on; all lines, if there is no opener
unfoldable pub from_last_opener : List Line → List Line
from_last_opener [] = []
from_last_opener (l ∷ ls) = cond (has_opener ls) (from_last_opener ls) (l ∷ ls)

-- what the last unit of some lines is
pub data LastUnit : Type 0 where
  none_yet stray_run short_record all_rows refused_record : LastUnit

-- behind a record's last row: a detail line gets it refused, any other makes a stray run
abbrev pub behind_record : Kind → LastUnit
behind_record Empty = stray_run
behind_record Opener = stray_run
behind_record Detail = refused_record
behind_record Other = stray_run

module _ (R : Rules) where
  -- a record, by the lines behind it and by what its row so far answered
  unfoldable pub record_is : List Line → Row → LastUnit
  record_is [] (refused_with verdict meter day) = refused_record
  record_is [] (goes_on rows) = short_record
  record_is [] (complete r) = all_rows
  record_is (l ∷ ls) (refused_with verdict meter day) = refused_record
  record_is (l ∷ ls) (goes_on rows) = record_is ls (R.row_next rows l)
  record_is (l ∷ ls) (complete r) = behind_record (line_kind l)

  -- the last unit of lines of which only the first may be an opener
  unfoldable pub unit_is : List Line → LastUnit
  unit_is [] = none_yet
  unit_is (l ∷ ls) = cond (is_opener (line_kind l)) (record_is ls (R.row_one l)) stray_run

  unfoldable pub last_unit : Bytes → LastUnit
  last_unit s = unit_is (from_last_opener (filled (lines_of s)))

  -- A is empty, or ends with LF and either has only empty lines, or its last unit is a stray run, or a record that has all its rows, or a
  -- record that one of A's own lines got refused (12 at A's finish doesn't count: such a record is `short_record`).
  pub data AllowsA (a : Bytes) : Type 0 where
    empty : a ≡ [] → AllowsA a
    only_empty : EndsWithLF a → filled (lines_of a) ≡ [] → AllowsA a
    ends_stray : EndsWithLF a → last_unit a ≡ stray_run → AllowsA a
    ends_with_all_rows : EndsWithLF a → last_unit a ≡ all_rows → AllowsA a
    ends_refused : EndsWithLF a → last_unit a ≡ refused_record → AllowsA a

-- X is empty or ends with LF, and its first non-empty line is no detail line.
pub record AllowsX (x : Bytes) : Type 0 where
  pub whole : Whole x
  pub first : ¬ (first_kind (filled (lines_of x)) ≡ Detail)

-- B is empty or begins with an opener.
abbrev pub AllowsB : Bytes → Type 0
AllowsB b = (b ≡ []) ⊎ (starts_with opener_bytes b ≡ true)

-- ---- entries

-- first and deciding line raised by k lines
unfoldable pub raise : ℕ → Entry → Entry
raise k e = entry_of (k + e.first) e.verdict (k + e.at) e.meter e.day

-- begun in the x lines behind the first a
unfoldable pub begun_in : ℕ → ℕ → Entry → Bool
begun_in a x e = ltb a e.first && leb e.first (a + x)

unfoldable pub entries_in : ℕ → ℕ → List Entry → List Entry
entries_in a x [] = []
entries_in a x (e ∷ es) = cond (begun_in a x e) (e ∷ entries_in a x es) (entries_in a x es)

unfoldable pub events_in : ℕ → ℕ → List Event → List Event
events_in a x [] = []
events_in a x (e ∷ es) = cond (begun_in a x e.entry) (e ∷ events_in a x es) (events_in a x es)

-- the entries of some answers, joined
unfoldable pub joined : List Answer → List Entry
joined [] = []
joined (a ∷ rest) = a.entries ++ joined rest

-- a file in one feed and one finish, with room enough
abbrev pub one_file : Bytes → List Call
one_file f = record { asked = feed f; room = room_for (length f) } ∷ record { asked = finish; room = room_for 0 } ∷ []

-- ---- the claim

module _ (R : Rules) where
  -- what the plain loader gives for a file alone: its report, its table
  unfoldable pub alone : Words → Bytes → List Entry
  alone t f = joined (plain_answers R t fresh (one_file f))

  unfoldable pub alone_table : Words → Bytes → Words
  alone_table t f = plain_table R t fresh (one_file f)

  -- cells are spoken of where neither 2 nor 3 refuses
  pub record Spoken (t : Words) (c : ℕ) : Type 0 where
    pub sound : R.sound ≡ true
    pub long : R.cells * width ≤ length t
    pub below : c < R.cells

  -- the reads that a list of calls loads for a cell, and those of records begun in X
  abbrev pub reads_of : Words → List Made → ℕ → List Words
  reads_of t ms c = reads_for R c (loads_of (plain_events R t fresh (calls_of ms)))

  abbrev pub reads_in : Words → List Made → Bytes → Bytes → ℕ → List Words
  reads_in t ms a x c = reads_for R c (loads_of (events_in (line_count a) (line_count x) (plain_events R t fresh (calls_of ms))))

  pub record Isolated (t : Words) (ms : List Made) (a x b : Bytes) : Type 0 where
    pub report : report_of ms
        ≡ alone t a ++ (entries_in (line_count a) (line_count x) (report_of ms)
        ++ map (λ e. raise (line_count a + line_count x) e) (alone t b))
    pub cells : (c : ℕ) → Spoken t c → reads_in t ms a x c ≡ [] → cell_at (last_table t ms) c ≡ cell_at (alone_table t (a ++ b)) c

  pub record Demand3 (t : Words) (ms : List Made) : Type 0 where
    pub answers : answers_of ms ≡ plain_answers R t fresh (calls_of ms)
    pub table : last_table t ms ≡ plain_table R t fresh (calls_of ms)
    pub cells : (c : ℕ) → Spoken t c → Settled (cell_at t c) (reads_of t ms c) (cell_at (last_table t ms) c)
    pub isolated : OnlyFinish ms → (a x b : Bytes) → taken_by ms ≡ a ++ (x ++ b) → AllowsA R a → AllowsX x → AllowsB b
        → Isolated t ms a x b

-- For every registry, starting table and list of calls that keep their promises.
abbrev pub TheClaim : Type 0
TheClaim = (reg : Bytes) (t : Words) (ms : List Made) → Chain (rules_of reg) (view_from fresh) t ms → Demand3 (rules_of reg) t ms
