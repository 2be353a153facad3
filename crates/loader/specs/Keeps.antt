-- What feed and finish promise, by plain/specs/Promise.
-- Assumes nothing.
use Rattle.std.specs.Prelude.{◌≡◌, List, ℕ, length, Result, Ok, Err, OnOk, OnErr}
use Rattle.text.specs.Byte.{Bytes}
use Rattle.cell.specs.Layout.{Words}
use Rattle.report.specs.Outcome.{answers, number_of}
use Rattle.report.specs.declared.Entry.{Entry}
use Rattle.report.specs.declared.refusal.Refusal.{Refusal}
use Rattle.plain.specs.Rows.{rules_of}
use Rattle.plain.specs.Call.{Asked, feed, finish}
use Rattle.plain.specs.Promise.{Made, Promise}
use Rattle.state.specs.declared.State.{State}
use Rattle.state.specs.Fresh.{fresh_state}
use Rattle.state.specs.View.{view_of}

-- how many entries a call wrote
abbrev pub count_in : Result ℕ Refusal → ℕ
count_in (Ok count) = count
count_in (Err refusal) = 0

-- a call as it was made and as it came back
abbrev pub made_of : Asked → List Entry → Result ℕ Refusal → State → Words → List Entry → Made
made_of asked report answer after table written =
    record {
      asked = asked;
      report = report;
      number = number_of (answers answer);
      count = count_in answer;
      after = view_of after;
      table = table;
      written = written;
    }

-- the state that a done call leaves: of a finish it is the fresh one, of a feed its view is all that is told
abbrev pub Leaves : Asked → State → Type 0
Leaves (feed piece) after = Unit {0}
Leaves finish after = after ≡ fresh_state

-- What comes back, and what the state and every lent word and entry then is: a finish that is done leaves the fresh state, a refusal the very state that came
-- in, and behind the entries that were written a report is as it was. A report is told by its entries, whatever it is made of.
pub record Keeps {A : Type 0} (entries : List A → List Entry) (behind : ℕ → List A → List A) (reg : Bytes) (s : State) (t : Words) (asked : Asked)
    (report : List A) (answer : Result ℕ Refusal) (after : State) (table : Words) (written : List A) : Type 0 where
  pub promise : Promise (rules_of reg) (view_of s) t (made_of asked (entries report) answer after table (entries written))
  pub fresh : OnOk answer (Leaves asked after)
  pub same : OnErr answer (after ≡ s)
  pub long : length written ≡ length report
  pub left : behind (count_in answer) written ≡ behind (count_in answer) report
