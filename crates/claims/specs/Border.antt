-- The library as programs in C and Rust have it: calls on numbers and slices, of contracts as crate border's have. kilnsorrel exports them.
-- Assumes nothing.
use Rattle.std.specs.Prelude.{◌≡◌, List, ℕ}
use Rattle.text.specs.Byte.{Bytes}
use Rattle.cell.specs.Layout.{Words}
use Rattle.report.specs.declared.Entry.{Entry}
use Rattle.plain.specs.Call.{Asked, feed, finish}
use Rattle.plain.specs.Promise.{Made}
use Rattle.state.specs.Fresh.{fresh_state}
use Rattle.state.specs.View.{view_of}
use Rattle.report.specs.Words.{report_in}
use Rattle.statewords.specs.Layout.{state_in, words_of}
use Rattle.border.specs.Border.{number_in, count_in}
use Rattle.border.specs.contracts.fresh as freshes
use Rattle.border.specs.contracts.feed as feeds
use Rattle.border.specs.contracts.feed_entries as feeds-entries
use Rattle.border.specs.contracts.finish as finishes
use Rattle.border.specs.contracts.finish_entries as finishes-entries
use Rattle.border.specs.contracts.estimates as counts
use Rattle.border.specs.contracts.write as writes
use Rattle.border.specs.contracts.page as pages
use Rattle.calls.specs.RealCall.{Contract, RealCall, Met, AsksNothing}
use Rattle.claims.specs.Library.{Library, Written, Paged}

-- the calls
pub record Contracts : Type 2 where
  pub fresh : Contract freshes.ended
  pub feed : Contract feeds.ended
  pub feed_entries : Contract feeds-entries.ended
  pub finish : Contract finishes.ended
  pub finish_entries : Contract finishes-entries.ended
  pub estimates : Contract counts.ended
  pub write : Contract writes.ended
  pub page : Contract pages.ended

-- with a report of words, or of entries
pub data FeedOrFinish : Type 0 where
  fed : RealCall feeds.ended → FeedOrFinish
  fed_entries : RealCall feeds-entries.ended → FeedOrFinish
  finished : RealCall finishes.ended → FeedOrFinish
  finished_entries : RealCall finishes-entries.ended → FeedOrFinish

abbrev pub registry_in : FeedOrFinish → Bytes
registry_in (fed k) = k.args.1.1.0.now
registry_in (fed_entries k) = k.args.1.1.0.now
registry_in (finished k) = k.args.1.0.now
registry_in (finished_entries k) = k.args.1.0.now

abbrev pub words_in : FeedOrFinish → Words
words_in (fed k) = k.args.0.now
words_in (fed_entries k) = k.args.0.now
words_in (finished k) = k.args.0.now
words_in (finished_entries k) = k.args.0.now

abbrev pub words_out : FeedOrFinish → Words
words_out (fed k) = k.exit.0.now
words_out (fed_entries k) = k.exit.0.now
words_out (finished k) = k.exit.0.now
words_out (finished_entries k) = k.exit.0.now

abbrev pub table_in : FeedOrFinish → Words
table_in (fed k) = k.args.1.1.1.0.now
table_in (fed_entries k) = k.args.1.1.1.0.now
table_in (finished k) = k.args.1.1.0.now
table_in (finished_entries k) = k.args.1.1.0.now

abbrev pub table_out : FeedOrFinish → Words
table_out (fed k) = k.exit.1.1.1.0.now
table_out (fed_entries k) = k.exit.1.1.1.0.now
table_out (finished k) = k.exit.1.1.0.now
table_out (finished_entries k) = k.exit.1.1.0.now

-- the entries that the report is, before the call and after it
abbrev pub entries_before : FeedOrFinish → List Entry
entries_before (fed k) = report_in k.args.1.1.1.1.0.now
entries_before (fed_entries k) = k.args.1.1.1.1.0.now
entries_before (finished k) = report_in k.args.1.1.1.0.now
entries_before (finished_entries k) = k.args.1.1.1.0.now

abbrev pub entries_after : FeedOrFinish → List Entry
entries_after (fed k) = report_in k.exit.1.1.1.1.0.now
entries_after (fed_entries k) = k.exit.1.1.1.1.0.now
entries_after (finished k) = report_in k.exit.1.1.1.0.now
entries_after (finished_entries k) = k.exit.1.1.1.0.now

-- the report's words or entries as they were
abbrev pub SameReport : FeedOrFinish → Type 0
SameReport (fed k) = k.exit.1.1.1.1.0.now ≡ k.args.1.1.1.1.0.now
SameReport (fed_entries k) = k.exit.1.1.1.1.0.now ≡ k.args.1.1.1.1.0.now
SameReport (finished k) = k.exit.1.1.1.0.now ≡ k.args.1.1.1.0.now
SameReport (finished_entries k) = k.exit.1.1.1.0.now ≡ k.args.1.1.1.0.now

abbrev pub answer_of : FeedOrFinish → ℕ
answer_of (fed k) = k.result
answer_of (fed_entries k) = k.result
answer_of (finished k) = k.result
answer_of (finished_entries k) = k.result

abbrev pub asked_by : FeedOrFinish → Asked
asked_by (fed k) = feed k.args.1.0.now
asked_by (fed_entries k) = feed k.args.1.0.now
asked_by (finished k) = finish
asked_by (finished_entries k) = finish

abbrev pub told_of : FeedOrFinish → Made
told_of c =
    record {
      asked = asked_by c;
      report = entries_before c;
      number = number_in (answer_of c);
      count = count_in (answer_of c);
      after = view_of (state_in (words_out c));
      table = table_out c;
      written = entries_after c;
    }

abbrev pub write_told : RealCall writes.ended → Written
write_told k =
    record {
      registry = k.args.0.now;
      table = k.args.1.0.now;
      meter = k.args.1.1.0;
      channel = k.args.1.1.1.0;
      day = k.args.1.1.1.1.0;
      descriptor = k.args.1.1.1.1.1.0.now;
      before = k.args.1.1.1.1.1.1.0.now;
      number = number_in k.result;
      count = count_in k.result;
      after = k.exit.1.1.1.1.1.1.0.now;
    }

abbrev pub page_told : RealCall pages.ended → Paged
page_told k =
    record {
      report = report_in k.args.0.now;
      before = k.args.1.0.now;
      number = number_in k.result;
      count = count_in k.result;
      after = k.exit.1.0.now;
    }

module _ (C : Contracts) where
  abbrev pub met : FeedOrFinish → Type 2
  met (fed k) = Met feeds.ended C.feed k
  met (fed_entries k) = Met feeds-entries.ended C.feed_entries k
  met (finished k) = Met finishes.ended C.finish k
  met (finished_entries k) = Met finishes-entries.ended C.finish_entries k

  -- whoever has the arguments can make each call
  pub record NothingAsked : Type 2 where
    pub fresh : AsksNothing freshes.ended C.fresh
    pub feed : AsksNothing feeds.ended C.feed
    pub feed_entries : AsksNothing feeds-entries.ended C.feed_entries
    pub finish : AsksNothing finishes.ended C.finish
    pub finish_entries : AsksNothing finishes-entries.ended C.finish_entries
    pub estimates : AsksNothing counts.ended C.estimates
    pub write : AsksNothing writes.ended C.write
    pub page : AsksNothing pages.ended C.page

  abbrev pub on_words : Library
  on_words =
      record {
        NothingAsked = NothingAsked;
        State = Words;
        fresh = words_of fresh_state;
        FreshCall = RealCall freshes.ended;
        FreshMet = Met freshes.ended C.fresh;
        number = λ k. number_in k.result;
        made = λ k. k.exit.0.now;
        Call = FeedOrFinish;
        Met = met;
        registry = registry_in;
        before = words_in;
        after = words_out;
        table = table_in;
        table_after = table_out;
        SameReport = SameReport;
        told = told_of;
        Write = RealCall writes.ended;
        WriteMet = Met writes.ended C.write;
        written = write_told;
        Page = RealCall pages.ended;
        PageMet = Met pages.ended C.page;
        paged = page_told;
      }
