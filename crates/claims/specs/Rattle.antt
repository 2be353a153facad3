-- The library as Rattle programs have it: fresh of state, feed and finish of loader, with a report of entries or of words, and write of writer.
-- Assumes nothing.
use Rattle.std.specs.Prelude.{◌≡◌, List}
use denote.Builtin.{u32}
use denote.RattleType.{RattleType}
use mir.Syntax.{Dict}
use Rattle.text.specs.Byte.{Bytes}
use Rattle.cell.specs.Layout.{Words}
use Rattle.report.specs.Outcome.{answers, number_of}
use Rattle.report.specs.Refusal.{done}
use Rattle.report.specs.contracts.Entry as entry
use Rattle.plain.specs.Call.{feed, finish}
use Rattle.plain.specs.Promise.{Made}
use Rattle.state.specs.declared.State.{State}
use Rattle.state.specs.Fresh.{fresh_state}
use Rattle.state.specs.Contract.{fresh_contract}
use Rattle.state.specs.contracts.fresh as freshes
use Rattle.loader.specs.Keeps.{made_of, count_in}
use Rattle.loader.specs.declared.slot.Slot.{Ghosts}
use Rattle.loader.specs.contracts.slot.EntrySlot.TheImpl as entries
use Rattle.loader.specs.contracts.slot.U32Slot.TheImpl as words
use Rattle.loader.specs.contracts.feed as feeds
use Rattle.loader.specs.contracts.finish as finishes
use Rattle.loader.specs.Contract.{feed_contract, finish_contract, feed_bounds, finish_bounds}
use Rattle.estimates.specs.Contract.{estimates_contract}
use Rattle.estimates.specs.contracts.estimates as counts
use Rattle.writer.specs.Contract.{write_contract}
use Rattle.writer.specs.contracts.write as writes
use Rattle.report.specs.declared.listed.Listed.{Ghosts as Listing}
use Rattle.report.specs.contracts.listed.EntryListed.TheImpl as listed_entries
use Rattle.report.specs.contracts.listed.U32Listed.TheImpl as listed_words
use Rattle.page.specs.Contract.{page_contract, page_bounds}
use Rattle.page.specs.contracts.page as pages
use Rattle.calls.specs.RealCall.{RealCall, Met, AsksOnly, AsksNothing}
use Rattle.claims.specs.Library.{Library, Written, Paged}

-- with a report of what T is, by what it says of itself as a slot; where its functions are found is no matter of the contract
module _ (T : RattleType) (slot : Ghosts T.Denot) where
  pub data FeedOrFinish : Type 0 where
    fed : (slot_found drop_found : Dict) → RealCall (feeds.ended T slot slot_found drop_found) → FeedOrFinish
    finished : (slot_found drop_found : Dict) → RealCall (finishes.ended T slot slot_found drop_found) → FeedOrFinish

  abbrev pub met : FeedOrFinish → Type 2
  met (fed i j k) = Met (feeds.ended T slot i j) (feed_contract T slot i j) k
  met (finished i j k) = Met (finishes.ended T slot i j) (finish_contract T slot i j) k

  abbrev pub registry_in : FeedOrFinish → Bytes
  registry_in (fed i j k) = k.args.1.1.0.now
  registry_in (finished i j k) = k.args.1.0.now

  abbrev pub state_in : FeedOrFinish → State
  state_in (fed i j k) = k.args.0.now
  state_in (finished i j k) = k.args.0.now

  abbrev pub state_out : FeedOrFinish → State
  state_out (fed i j k) = k.exit.0.now
  state_out (finished i j k) = k.exit.0.now

  abbrev pub table_in : FeedOrFinish → Words
  table_in (fed i j k) = k.args.1.1.1.0.now
  table_in (finished i j k) = k.args.1.1.0.now

  abbrev pub table_out : FeedOrFinish → Words
  table_out (fed i j k) = k.exit.1.1.1.0.now
  table_out (finished i j k) = k.exit.1.1.0.now

  abbrev pub report_in : FeedOrFinish → List T.Denot
  report_in (fed i j k) = k.args.1.1.1.1.0.now
  report_in (finished i j k) = k.args.1.1.1.0.now

  abbrev pub report_out : FeedOrFinish → List T.Denot
  report_out (fed i j k) = k.exit.1.1.1.1.0.now
  report_out (finished i j k) = k.exit.1.1.1.0.now

  abbrev pub told_of : FeedOrFinish → Made
  told_of (fed i j k) =
      made_of (feed k.args.1.0.now) (slot.entries k.args.1.1.1.1.0.now) k.result k.exit.0.now k.exit.1.1.1.0.now (slot.entries k.exit.1.1.1.1.0.now)
  told_of (finished i j k) =
      made_of finish (slot.entries k.args.1.1.1.0.now) k.result k.exit.0.now k.exit.1.1.0.now (slot.entries k.exit.1.1.1.0.now)

-- a call with a report of entries, or of words
pub data Call : Type 0 where
  with_entries : FeedOrFinish entry.the_row entries.ghosts → Call
  with_words : FeedOrFinish u32 words.ghosts → Call

abbrev pub of_each {n} : {A : Type n} → ((T : RattleType) (slot : Ghosts T.Denot) → FeedOrFinish T slot → A) → Call → A
of_each f (with_entries c) = f entry.the_row entries.ghosts c
of_each f (with_words c) = f u32 words.ghosts c

abbrev pub write_told : RealCall writes.ended → Written
write_told k =
    record {
      registry = k.args.0.now;
      table = k.args.1.0.now;
      meter = k.args.1.1.0.meter;
      channel = k.args.1.1.0.channel;
      day = k.args.1.1.0.day;
      descriptor = k.args.1.1.1.0.now;
      before = k.args.1.1.1.1.0.now;
      number = number_of (answers k.result);
      count = count_in k.result;
      after = k.exit.1.1.1.1.0.now;
    }

-- a call of page, of a report of what T is
module _ (T : RattleType) (listed : Listing T.Denot) where
  pub data PageOf : Type 0 where
    put : (listed_found drop_found : Dict) → RealCall (pages.ended T listed listed_found drop_found) → PageOf

  abbrev pub page_met : PageOf → Type 2
  page_met (put i j k) = Met (pages.ended T listed i j) (page_contract T listed i j) k

  abbrev pub page_told : PageOf → Paged
  page_told (put i j k) =
      record {
        report = listed.entries k.args.0.now;
        before = k.args.1.0.now;
        number = number_of (answers k.result);
        count = count_in k.result;
        after = k.exit.1.0.now;
      }

pub data Page : Type 0 where
  of_entries : PageOf entry.the_row listed_entries.ghosts → Page
  of_words : PageOf u32 listed_words.ghosts → Page

abbrev pub page_of_each {n} : {A : Type n} → ((T : RattleType) (listed : Listing T.Denot) → PageOf T listed → A) → Page → A
page_of_each f (of_entries k) = f entry.the_row listed_entries.ghosts k
page_of_each f (of_words k) = f u32 listed_words.ghosts k

-- whoever has the arguments can make each call
pub record NothingAsked : Type 2 where
  pub fresh : AsksNothing freshes.ended fresh_contract
  pub feed_entries : (i j : Dict) → AsksOnly (feeds.ended entry.the_row entries.ghosts i j) (feed_contract entry.the_row entries.ghosts i j) feed_bounds
  pub feed_words : (i j : Dict) → AsksOnly (feeds.ended u32 words.ghosts i j) (feed_contract u32 words.ghosts i j) feed_bounds
  pub finish_entries : (i j : Dict) → AsksOnly (finishes.ended entry.the_row entries.ghosts i j) (finish_contract entry.the_row entries.ghosts i j) finish_bounds
  pub finish_words : (i j : Dict) → AsksOnly (finishes.ended u32 words.ghosts i j) (finish_contract u32 words.ghosts i j) finish_bounds
  pub estimates : AsksNothing counts.ended estimates_contract
  pub write : AsksNothing writes.ended write_contract
  pub page_entries : (i j : Dict) → AsksOnly (pages.ended entry.the_row listed_entries.ghosts i j) (page_contract entry.the_row listed_entries.ghosts i j) page_bounds
  pub page_words : (i j : Dict) → AsksOnly (pages.ended u32 listed_words.ghosts i j) (page_contract u32 listed_words.ghosts i j) page_bounds

abbrev pub rattle : Library
rattle =
    record {
      NothingAsked = NothingAsked;
      State = State;
      fresh = fresh_state;
      FreshCall = RealCall freshes.ended;
      FreshMet = Met freshes.ended fresh_contract;
      number = λ k. done;
      made = λ k. k.result;
      Call = Call;
      Met = of_each met;
      registry = of_each registry_in;
      before = of_each state_in;
      after = of_each state_out;
      table = of_each table_in;
      table_after = of_each table_out;
      SameReport = of_each (λ T slot c. report_out T slot c ≡ report_in T slot c);
      told = of_each told_of;
      Write = RealCall writes.ended;
      WriteMet = Met writes.ended write_contract;
      written = write_told;
      Page = Page;
      PageMet = page_of_each page_met;
      paged = page_of_each page_told;
    }
