-- The calls of Rattle programs keep the promises, and ask nothing.
-- Assumes nothing.
use mathlib.Core.Path.{◌≡◌, refl, sym, ◌∙◌}
use mathlib.Core.List.{List}
use Prim.Native.Nat.{ℕ}
use base.Logic.{id⊢}
use denote.RattleType.{RattleType}
use denote.Builtin.{u32}
use mir.Syntax.{Dict}
use lib.ListN.{length}
use Rattle.std.specs.Prelude.{Result, Ok, Err, OnOk, true}
use Rattle.report.specs.declared.refusal.Refusal.{Refusal}
use Rattle.state.specs.declared.State.{State}
use Rattle.text.specs.Byte.{Bytes}
use Rattle.text.proofs.Truth.{apart}
use Rattle.report.specs.Outcome.{Outcome, answers, number_of}
use Rattle.report.specs.Refusal.{done}
use Rattle.report.specs.contracts.Entry as entry
use Rattle.plain.specs.Call.{feed, finish}
use Rattle.plain.specs.Rows.{rules_of}
use Rattle.plain.specs.Promise.{Promise}
use Rattle.plain.specs.Claim.{finish_done}
use Rattle.plain.proofs.Refused.{refused_table}
use Rattle.state.specs.Fresh.{fresh_state}
use Rattle.state.specs.View.{view_of}
use Rattle.state.proofs.FreshView.{fresh-view}
use Rattle.loader.specs.Keeps.{Keeps, count_in}
use Rattle.loader.specs.declared.slot.Slot.{Ghosts}
use Rattle.loader.specs.contracts.slot.EntrySlot.TheImpl as entries
use Rattle.loader.specs.contracts.slot.U32Slot.TheImpl as words
use Rattle.report.specs.Output.{output_with}
use Rattle.writer.specs.Write.{Fits, writes as writes_of, length_of}
use Rattle.writer.specs.Contract.{write_contract}
use Rattle.writer.specs.contracts.write as writes
use Rattle.report.specs.declared.Entry.{Entry}
use Rattle.report.specs.declared.listed.Listed.{Ghosts as Listing}
use Rattle.report.specs.contracts.listed.EntryListed.TheImpl as listed_entries
use Rattle.report.specs.contracts.listed.U32Listed.TheImpl as listed_words
use Rattle.page.specs.Page.{pages_in, paged}
use Rattle.page.specs.Laid.{Laid}
use Rattle.page.specs.Contract.{page_contract}
use Rattle.page.specs.contracts.page as pages
use Rattle.page.proofs.Laid.{laid_out}
use Rattle.page.proofs.Asks.{page_entries_asks, page_words_asks}
use Rattle.calls.proofs.Told.{two-told, three-told}
use Rattle.calls.specs.RealCall.{RealCall, Met}
use Rattle.claims.specs.Library.{Written}
use Rattle.claims.specs.Claims.{Unchanged, FinishStartsAnew, EachEntryOnAPage, RefusedPagesNothing}
use Rattle.claims.specs.Rattle.{FeedOrFinish, fed, finished, met, registry_in, state_in, state_out, table_in, table_out, report_in, report_out, told_of, Call, with_entries, with_words, of_each, write_told, put, of_entries, of_words, rattle, NothingAsked}
use Rattle.report.proofs.Refusals.{some-number}
use Rattle.state.proofs.Asks.{fresh_asks}
use Rattle.loader.proofs.Asks.{feed_entries_asks, feed_words_asks, finish_entries_asks, finish_words_asks}
use Rattle.estimates.proofs.Asks.{estimates_asks}
use Rattle.writer.proofs.Asks.{write_asks}
use Rattle.claims.proofs.Answers.{finish-is_done, of_refusal, counted, output-left, unpaged-left, same_report}
use Rattle.claims.proofs.Chains.{Wrote, Keeping}

module _ (T : RattleType) (slot : Ghosts T.Denot) where
  -- what a call tells by its contract
  abbrev Kept : FeedOrFinish T slot → Type 0
  Kept (fed i j k) =
      Keeps slot.entries slot.behind k.args.1.1.0.now k.args.0.now k.args.1.1.1.0.now (feed k.args.1.0.now) k.args.1.1.1.1.0.now k.result k.exit.0.now
      k.exit.1.1.1.0.now k.exit.1.1.1.1.0.now
  Kept (finished i j k) =
      Keeps slot.entries slot.behind k.args.1.0.now k.args.0.now k.args.1.1.0.now finish k.args.1.1.1.0.now k.result k.exit.0.now k.exit.1.1.0.now
      k.exit.1.1.1.0.now

  kept : (c : FeedOrFinish T slot) → met T slot c → Kept c
  kept (fed i j k) m = m (Kept (fed i j k)) (λ w g. id⊢ w.𝓤 _)
  kept (finished i j k) m = m (Kept (finished i j k)) (λ w g. id⊢ w.𝓤 _)

  promise : (c : FeedOrFinish T slot) → met T slot c
      → Promise (rules_of (registry_in T slot c)) (view_of (state_in T slot c)) (table_in T slot c) (told_of T slot c)
  promise (fed i j k) m = (kept (fed i j k) m).promise
  promise (finished i j k) m = (kept (finished i j k) m).promise

  after : (c : FeedOrFinish T slot) → (told_of T slot c).after ≡ view_of (state_out T slot c)
  after (fed i j k) = refl
  after (finished i j k) = refl

  table : (c : FeedOrFinish T slot) → (told_of T slot c).table ≡ table_out T slot c
  table (fed i j k) = refl
  table (finished i j k) = refl

  unchanged-report : ((ts : List T.Denot) → slot.behind 0 ts ≡ ts) → (c : FeedOrFinish T slot) → met T slot c → ¬ ((told_of T slot c).number ≡ done)
      → report_out T slot c ≡ report_in T slot c
  unchanged-report all (fed i j k) m r = same_report slot.behind all k.result k.exit.1.1.1.1.0.now k.args.1.1.1.1.0.now r (kept (fed i j k) m).left
  unchanged-report all (finished i j k) m r = same_report slot.behind all k.result k.exit.1.1.1.0.now k.args.1.1.1.0.now r (kept (finished i j k) m).left

  unchanged-state : (c : FeedOrFinish T slot) → met T slot c → ¬ ((told_of T slot c).number ≡ done) → state_out T slot c ≡ state_in T slot c
  unchanged-state (fed i j k) m r = of_refusal k.result r (kept (fed i j k) m).same
  unchanged-state (finished i j k) m r = of_refusal k.result r (kept (finished i j k) m).same

  unchanged-table : (c : FeedOrFinish T slot) → met T slot c → ¬ ((told_of T slot c).number ≡ done) → table_out T slot c ≡ table_in T slot c
  unchanged-table c m r =
      sym (table c) ∙ refused_table (rules_of (registry_in T slot c)) (view_of (state_in T slot c)) (table_in T slot c) (told_of T slot c) (promise c m) r

unchanged : (c : Call) → of_each met c → ¬ ((of_each told_of c).number ≡ done) → Unchanged rattle c
unchanged (with_entries c) m r =
    record {
      state = unchanged-state entry.the_row entries.ghosts c m r;
      table = unchanged-table entry.the_row entries.ghosts c m r;
      report = unchanged-report entry.the_row entries.ghosts (λ _. refl) c m r;
    }
unchanged (with_words c) m r =
    record {
      state = unchanged-state u32 words.ghosts c m r;
      table = unchanged-table u32 words.ghosts c m r;
      report = unchanged-report u32 words.ghosts (λ _. refl) c m r;
    }

leaves : (answer : Result ℕ Refusal) (after : State) → finish_done finish (number_of (answers answer)) ≡ true → OnOk answer (after ≡ fresh_state) → after ≡ fresh_state
leaves (Ok n) after d h = h
leaves (Err e) after d h = absurd (some-number e (finish-is_done (number_of {A = ℕ} (answers (Err e))) d))

finish_anew : FinishStartsAnew rattle
finish_anew (with_entries (fed i j k)) m d = absurd (apart d)
finish_anew (with_entries (finished i j k)) m d = leaves k.result k.exit.0.now d (kept entry.the_row entries.ghosts (finished i j k) m).fresh
finish_anew (with_words (fed i j k)) m d = absurd (apart d)
finish_anew (with_words (finished i j k)) m d = leaves k.result k.exit.0.now d (kept u32 words.ghosts (finished i j k) m).fresh

-- ---- WRITE

module _ (k : RealCall writes.ended) (m : Met writes.ended write_contract k) where
  abbrev w : Written
  w = write_told k

  abbrev wanted : Outcome Bytes
  wanted = writes_of w.registry w.table w.meter w.channel w.day w.descriptor w.before

  said : (answers k.result ≡ length_of wanted) × (w.after ≡ output_with w.before wanted) × Fits w.table
  said = m _ (λ v g. three-told v (answers k.result ≡ length_of wanted) (w.after ≡ output_with w.before wanted) (Fits w.table))

  wrote : w.number ≡ done → Wrote w
  wrote d = record { count = counted k.result (length_of wanted) said.0 d; after = said.1; fits = said.2 }

  unwritten : ¬ (w.number ≡ done) → w.after ≡ w.before
  unwritten r = said.1 ∙ output-left k.result w.before wanted said.0 r

-- ---- PAGE

module _ (T : RattleType) (listed : Listing T.Denot) (i j : Dict) (k : RealCall (pages.ended T listed i j)) (m : Met (pages.ended T listed i j) (page_contract T listed i j) k) where
  abbrev es : List Entry
  es = listed.entries k.args.0.now

  abbrev room : ℕ
  room = length k.args.1.0.now

  put_said : (answers k.result ≡ pages_in es room) × (k.exit.1.0.now ≡ output_with k.args.1.0.now (paged es room))
  put_said = m _ (λ v g. two-told v (answers k.result ≡ pages_in es room) (k.exit.1.0.now ≡ output_with k.args.1.0.now (paged es room)))

  put_laid : number_of (answers k.result) ≡ done → Laid es (count_in k.result) k.args.1.0.now k.exit.1.0.now
  put_laid d = laid_out es (count_in k.result) k.args.1.0.now k.exit.1.0.now (counted k.result (pages_in es room) put_said.0 d) put_said.1

  put_none : ¬ (number_of (answers k.result) ≡ done) → k.exit.1.0.now ≡ k.args.1.0.now
  put_none r = put_said.1 ∙ unpaged-left es k.args.1.0.now room (answers k.result) put_said.0 r

laid : EachEntryOnAPage rattle
laid (of_entries (put i j k)) m d = put_laid entry.the_row listed_entries.ghosts i j k m d
laid (of_words (put i j k)) m d = put_laid u32 listed_words.ghosts i j k m d

unpaged : RefusedPagesNothing rattle
unpaged (of_entries (put i j k)) m r = put_none entry.the_row listed_entries.ghosts i j k m r
unpaged (of_words (put i j k)) m r = put_none u32 listed_words.ghosts i j k m r

of_promise : (c : Call) → of_each met c → Promise (rules_of (of_each registry_in c)) (view_of (of_each state_in c)) (of_each table_in c) (of_each told_of c)
of_promise (with_entries c) m = promise entry.the_row entries.ghosts c m
of_promise (with_words c) m = promise u32 words.ghosts c m

of_after : (c : Call) → (of_each told_of c).after ≡ view_of (of_each state_out c)
of_after (with_entries c) = after entry.the_row entries.ghosts c
of_after (with_words c) = after u32 words.ghosts c

of_table : (c : Call) → (of_each told_of c).table ≡ of_each table_out c
of_table (with_entries c) = table entry.the_row entries.ghosts c
of_table (with_words c) = table u32 words.ghosts c

nothing_asked : NothingAsked
nothing_asked =
    record {
      fresh = fresh_asks;
      feed_entries = feed_entries_asks;
      feed_words = feed_words_asks;
      finish_entries = finish_entries_asks;
      finish_words = finish_words_asks;
      estimates = estimates_asks;
      write = write_asks;
      page_entries = page_entries_asks;
      page_words = page_words_asks;
    }

pub keeping : Keeping rattle
keeping = record {
  nothing_asked = nothing_asked;
  Good = λ s. Unit {0};
  view = view_of;
  fresh_good = tt;
  fresh_view = fresh-view;
  fresh = λ k m d. m _ (λ w g. id⊢ w.𝓤 _);
  finish = finish_anew;
  good = λ c m g. tt;
  promise = λ c m g. of_promise c m;
  after = of_after;
  table = of_table;
  unchanged = unchanged;
  wrote = wrote;
  unwritten = unwritten;
  laid = laid;
  unpaged = unpaged;
}
