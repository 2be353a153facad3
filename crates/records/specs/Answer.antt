-- The code keeps a record in two parts: a few numbers by value, and the lent ESI ID, Sender and words of its cell. Here they are put together
-- to what the plain loader has; and an answer is what the plain loader's row answers.
-- Assumes nothing.
use Rattle.std.specs.Prelude.{Result, Ok, Err, ℕ, suc, ◌+◌, ◌≤◌}
use Rattle.report.specs.Verdict.{verdict_number}
use Rattle.report.specs.declared.verdict.Verdict.{Verdict}
use Rattle.report.specs.declared.verdict.Fault.{Fault}
use Rattle.headers.specs.One.{RowOne}
use Rattle.headers.specs.declared.one.One.{One}
use Rattle.plain.specs.Rows.{Rows, Record, Row, refused_with, goes_on, complete, header_rows, max_details}
use Rattle.records.specs.declared.Progress.{Progress}
use Rattle.records.specs.declared.Ready.{Ready}
use Rattle.records.specs.declared.Parts.{Parts}
use Rattle.records.specs.declared.After.{After}
use Rattle.records.specs.declared.After.TheVariants.{GoesOn, Complete}

-- what row one says, by the part of the line that is its ESI ID
abbrev pub begun_by : One → RowOne
begun_by one = record { esi_id = one.id.now; channel = one.channel; day = one.day }

-- a record that takes rows
abbrev pub rows_of : Progress → Parts → Rows
rows_of p r =
    record {
      behind_one = p.read;
      due = p.due;
      day = p.day;
      channel = p.channel;
      esi_id = r.id;
      sender = r.sender;
      words = r.words;
    }

-- a record that waits
abbrev pub record_of : Ready → Parts → Record
record_of ready r =
    record {
      day = ready.day;
      load = record { meter = ready.meter; channel = ready.channel; window_day = ready.offset; words = r.words };
    }

-- what the readers of header rows, the registry checks, and the reader of any row answer, of a record of this day
abbrev pub header_says : Result Progress Verdict → ℕ → Parts → Row
header_says (Ok p) day r = goes_on (rows_of p r)
header_says (Err v) day r = refused_with (verdict_number v) 0 day

abbrev pub checked_says : Result Ready Fault → ℕ → Parts → Row
checked_says (Ok ready) day r = complete (record_of ready r)
checked_says (Err f) day r = refused_with (verdict_number f.verdict) f.meter day

abbrev pub row_says : Result After Fault → ℕ → Parts → Row
row_says (Ok (GoesOn p)) day r = goes_on (rows_of p r)
row_says (Ok (Complete ready)) day r = complete (record_of ready r)
row_says (Err f) day r = refused_with (verdict_number f.verdict) f.meter day

-- one row more
abbrev pub one_more : Progress → Progress
one_more p = record { read = suc p.read; due = p.due; day = p.day; channel = p.channel }

-- no more rows than a state may hold; no invariant, since C's words may be any state, and refusal 1 is what asks
abbrev pub Few : Progress → Type 0
Few p = p.read ≤ header_rows + max_details
