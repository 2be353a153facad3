-- The calls on numbers and slices keep the promises.
-- Assumes nothing.
use mathlib.Core.Path.{◌≡◌, refl, ap, sym, subst, ◌∙◌}
use mathlib.Core.List.{List}
use mathlib.Core.Bool.{Bool, true, false}
use Prim.Native.Nat.{ℕ}
use lib.Dec.{eqb}
use lib.ListN.{length}
use base.Logic.{id⊢}
use borrow.Author.Tests.{eqb-true, eqb-false}
use Rattle.std.specs.Prelude.{Result, Ok, Err, OnOk, OnErr}
use Rattle.text.specs.Byte.{Bytes}
use Rattle.text.proofs.Truth.{apart}
use Rattle.cell.specs.Layout.{Words}
use Rattle.report.specs.Outcome.{Outcome, passed, refused, answers, number_of}
use Rattle.report.specs.Refusal.{done}
use Rattle.report.specs.declared.Entry.{Entry}
use Rattle.report.specs.declared.refusal.Refusal.{Refusal}
use Rattle.plain.specs.Call.{Asked, feed, finish}
use Rattle.plain.specs.Rows.{rules_of}
use Rattle.plain.specs.Promise.{Made, Promise}
use Rattle.plain.specs.Claim.{finish_done}
use Rattle.plain.proofs.Refused.{refused_table}
use Rattle.state.specs.Fresh.{fresh_state}
use Rattle.state.specs.View.{view_of}
use Rattle.state.proofs.FreshView.{fresh-view}
use Rattle.loader.specs.Keeps.{made_of}
use Rattle.loader.specs.Keeps as keeps
use Rattle.report.specs.Words.{itself, report_in}
use Rattle.loader.specs.Report.{left, words_left}
use Rattle.report.specs.Output.{output_with}
use Rattle.writer.specs.Write.{Fits, writes as writes_of, length_of}
use Rattle.statewords.specs.Layout.{state_words, state_in, words_of}
use Rattle.statewords.proofs.FreshWords.{fresh-long, fresh-back}
use Rattle.border.specs.Border.{number_in, count_in, Packs, Freshens, Crosses, Call}
use Rattle.border.specs.Contract.{fresh_contract, feed_contract, feed_entries_contract, finish_contract, finish_entries_contract, estimates_contract, write_contract, page_contract}
use Rattle.border.specs.contracts.fresh as freshes
use Rattle.border.specs.contracts.write as writes
use Rattle.border.specs.contracts.page as pages
use Rattle.page.specs.Page.{pages_in, paged}
use Rattle.page.specs.Laid.{Laid}
use Rattle.page.proofs.Laid.{laid_out}
use Rattle.calls.specs.RealCall.{RealCall, Met}
use Rattle.calls.proofs.Told.{two-told, three-told}
use Rattle.claims.specs.Library.{Written, Paged}
use Rattle.claims.specs.Claims.{Unchanged, FinishStartsAnew}
use Rattle.claims.specs.Border.{Contracts, FeedOrFinish, fed, fed_entries, finished, finished_entries, registry_in, words_in, words_out, table_in, answer_of, told_of, write_told, page_told, met, NothingAsked, on_words}
use Rattle.border.proofs.Asks.{fresh_asks, feed_asks, feed_entries_asks, finish_asks, finish_entries_asks, estimates_asks, write_asks, page_asks}
use Rattle.border.proofs.FreshLeft.{finished as finished_left}
use Rattle.claims.proofs.Answers.{of_refusal, finish-is_done, unpaged-left, same_report}
use Rattle.claims.proofs.Chains.{Wrote, Keeping}

abbrev pub border_contracts : Contracts
border_contracts =
    record {
      fresh = fresh_contract;
      feed = feed_contract;
      feed_entries = feed_entries_contract;
      finish = finish_contract;
      finish_entries = finish_entries_contract;
      estimates = estimates_contract;
      write = write_contract;
      page = page_contract;
    }

-- ---- ANSWERS

packed-number : (answer : Result ℕ Refusal) (r : ℕ) → Packs (answers answer) r → number_in r ≡ number_of (answers answer)
packed-number (Ok n) r p = p.high
packed-number (Err e) r p = p.0.high

packed-count : (answer : Result ℕ Refusal) (r : ℕ) → Packs (answers answer) r → count_in r ≡ keeps.count_in answer
packed-count (Ok n) r p = p.low
packed-count (Err e) r p = p.0.low

-- by whether a state has its length
by-length : {P : Type 0} (n : ℕ) → (n ≡ state_words → P) → (¬ (n ≡ state_words) → P) → P
by-length {P} n right wrong = go (eqb n state_words) refl
  where
    go : (b : Bool) → eqb n state_words ≡ b → P
    go true e = right (eqb-true n state_words e)
    go false e = wrong (eqb-false n state_words e)

-- ---- FEED AND FINISH, whatever the report is made of

module _ {A : Type 0} (entries : List A → List Entry) (behind : ℕ → List A → List A) (reg : Bytes) (asked : Asked) (before after table left : Words)
    (report written : List A) (r : ℕ) where
  abbrev told : Made
  told =
      record {
        asked = asked;
        report = entries report;
        number = number_in r;
        count = count_in r;
        after = view_of (state_in after);
        table = left;
        written = entries written;
      }

  module _ (x : Crosses entries behind reg asked before after table left report written r) where
    given-left : state_in after ≡ x.given
    given-left = go x.answer x.state x.same x.keeps.same
      where
        go : (answer : Result ℕ Refusal) → OnOk answer (state_in after ≡ x.given) → OnErr answer (after ≡ before) → OnErr answer (x.given ≡ state_in before)
            → state_in after ≡ x.given
        go (Ok n) s w g = s
        go (Err e) s w g = ap state_in w ∙ sym g

    told-made : made_of asked (entries report) x.answer x.given left (entries written) ≡ told
    told-made = rw (given-left, packed-number x.answer r x.packs, packed-count x.answer r x.packs) refl

    promised : Promise (rules_of reg) (view_of (state_in before)) table told
    promised = subst (λ m. Promise (rules_of reg) (view_of (state_in before)) table m) told-made x.keeps.promise

  module _ (all : (ts : List A) → behind 0 ts ≡ ts) (k : Call entries behind reg asked before after table left report written r) (refused : ¬ (number_in r ≡ done)) where
    untouched : (after ≡ before) × (left ≡ table) × (written ≡ report)
    untouched = by-length (length before) right (λ h. let w = k.wrong h in (w.1, w.2, w.3))
      where
        right : length before ≡ state_words → (after ≡ before) × (left ≡ table) × (written ≡ report)
        right h =
            let x = k.right h in
            let d : ¬ (number_of (answers x.answer) ≡ done) = λ e. refused (packed-number x.answer r x.packs ∙ e) in (
              of_refusal x.answer d x.same,
              refused_table (rules_of reg) (view_of (state_in before)) table told (promised x) refused,
              same_report behind all x.answer written report d x.keeps.left,
            )

  finished-anew : Call entries behind reg finish before after table left report written r → finish_done finish (number_in r) ≡ true → after ≡ words_of fresh_state
  finished-anew k d =
      let is : number_in r ≡ done = finish-is_done (number_in r) d in
      by-length (length before) (λ h. finished_left entries behind reg before after table left report written r h k is) (λ h. absurd ((k.wrong h).0.1 (sym (k.wrong h).0.0.high ∙ is)))

-- what each call tells by its contract
abbrev Called : FeedOrFinish → Type 0
Called (fed k) =
    Call report_in words_left k.args.1.1.0.now (feed k.args.1.0.now) k.args.0.now k.exit.0.now k.args.1.1.1.0.now k.exit.1.1.1.0.now k.args.1.1.1.1.0.now
    k.exit.1.1.1.1.0.now k.result
Called (fed_entries k) =
    Call itself left k.args.1.1.0.now (feed k.args.1.0.now) k.args.0.now k.exit.0.now k.args.1.1.1.0.now k.exit.1.1.1.0.now k.args.1.1.1.1.0.now
    k.exit.1.1.1.1.0.now k.result
Called (finished k) =
    Call report_in words_left k.args.1.0.now finish k.args.0.now k.exit.0.now k.args.1.1.0.now k.exit.1.1.0.now k.args.1.1.1.0.now k.exit.1.1.1.0.now k.result
Called (finished_entries k) =
    Call itself left k.args.1.0.now finish k.args.0.now k.exit.0.now k.args.1.1.0.now k.exit.1.1.0.now k.args.1.1.1.0.now k.exit.1.1.1.0.now k.result

called : (c : FeedOrFinish) → met border_contracts c → Called c
called (fed k) m = m (Called (fed k)) (λ w g. id⊢ w.𝓤 _)
called (fed_entries k) m = m (Called (fed_entries k)) (λ w g. id⊢ w.𝓤 _)
called (finished k) m = m (Called (finished k)) (λ w g. id⊢ w.𝓤 _)
called (finished_entries k) m = m (Called (finished_entries k)) (λ w g. id⊢ w.𝓤 _)

promise : (c : FeedOrFinish) → met border_contracts c → length (words_in c) ≡ state_words
    → Promise (rules_of (registry_in c)) (view_of (state_in (words_in c))) (table_in c) (told_of c)
promise (fed k) m h = promised report_in words_left _ _ _ _ _ _ _ _ _ ((called (fed k) m).right h)
promise (fed_entries k) m h = promised itself left _ _ _ _ _ _ _ _ _ ((called (fed_entries k) m).right h)
promise (finished k) m h = promised report_in words_left _ _ _ _ _ _ _ _ _ ((called (finished k) m).right h)
promise (finished_entries k) m h = promised itself left _ _ _ _ _ _ _ _ _ ((called (finished_entries k) m).right h)

long : (c : FeedOrFinish) → met border_contracts c → length (words_in c) ≡ state_words → length (words_out c) ≡ state_words
long (fed k) m h = ((called (fed k) m).right h).long ∙ h
long (fed_entries k) m h = ((called (fed_entries k) m).right h).long ∙ h
long (finished k) m h = ((called (finished k) m).right h).long ∙ h
long (finished_entries k) m h = ((called (finished_entries k) m).right h).long ∙ h

unchanged : (c : FeedOrFinish) → met border_contracts c → ¬ (number_in (answer_of c) ≡ done) → Unchanged (on_words border_contracts) c
unchanged (fed k) m r =
    let u = untouched report_in words_left _ _ _ _ _ _ _ _ _ (λ ts. refl) (called (fed k) m) r in record { state = u.0; table = u.1; report = u.2 }
unchanged (fed_entries k) m r =
    let u = untouched itself left _ _ _ _ _ _ _ _ _ (λ ts. refl) (called (fed_entries k) m) r in record { state = u.0; table = u.1; report = u.2 }
unchanged (finished k) m r =
    let u = untouched report_in words_left _ _ _ _ _ _ _ _ _ (λ ts. refl) (called (finished k) m) r in record { state = u.0; table = u.1; report = u.2 }
unchanged (finished_entries k) m r =
    let u = untouched itself left _ _ _ _ _ _ _ _ _ (λ ts. refl) (called (finished_entries k) m) r in record { state = u.0; table = u.1; report = u.2 }

finish_anew : FinishStartsAnew (on_words border_contracts)
finish_anew (fed k) m d = absurd (apart d)
finish_anew (fed_entries k) m d = absurd (apart d)
finish_anew (finished k) m d = finished-anew report_in words_left _ finish _ _ _ _ _ _ _ (called (finished k) m) d
finish_anew (finished_entries k) m d = finished-anew itself left _ finish _ _ _ _ _ _ _ (called (finished_entries k) m) d

-- ---- THE FRESH STATE

fresh_made : (k : RealCall freshes.ended) → Met freshes.ended fresh_contract k → number_in k.result ≡ done → k.exit.0.now ≡ words_of fresh_state
fresh_made k m d =
    by-length (length k.args.0.now) (λ h. (freshens.right h).1) (λ h. absurd ((freshens.wrong h).0.1 (sym (freshens.wrong h).0.0.high ∙ d)))
  where
    freshens : Freshens k.args.0.now k.exit.0.now k.result
    freshens = m (Freshens k.args.0.now k.exit.0.now k.result) (λ w g. id⊢ w.𝓤 _)

-- ---- WRITE

module _ (k : RealCall writes.ended) (m : Met writes.ended write_contract k) where
  abbrev w : Written
  w = write_told k

  abbrev wanted : Outcome Bytes
  wanted = writes_of w.registry w.table w.meter w.channel w.day w.descriptor w.before

  said : Packs (length_of wanted) k.result × (w.after ≡ output_with w.before wanted) × Fits w.table
  said = m _ (λ v g. three-told v (Packs (length_of wanted) k.result) (w.after ≡ output_with w.before wanted) (Fits w.table))

  put : (x : Outcome ℕ) → Packs x k.result → w.number ≡ done → passed w.count ≡ x
  put (passed n) p d = ap passed p.low
  put (refused n) p d = absurd (p.1 (sym p.0.high ∙ d))

  left-alone : (x : Outcome Bytes) → Packs (length_of x) k.result → ¬ (w.number ≡ done) → output_with w.before x ≡ w.before
  left-alone (passed text) p r = absurd (r p.high)
  left-alone (refused n) p r = refl

  wrote : w.number ≡ done → Wrote w
  wrote d = record { count = put (length_of wanted) said.0 d; after = said.1; fits = said.2 }

  unwritten : ¬ (w.number ≡ done) → w.after ≡ w.before
  unwritten r = said.1 ∙ left-alone wanted said.0 r

-- ---- PAGE

module _ (k : RealCall pages.ended) (m : Met pages.ended page_contract k) where
  abbrev p : Paged
  p = page_told k

  abbrev room : ℕ
  room = length p.before

  page_said : Packs (pages_in p.report room) k.result × (p.after ≡ output_with p.before (paged p.report room))
  page_said = m _ (λ v g. two-told v (Packs (pages_in p.report room) k.result) (p.after ≡ output_with p.before (paged p.report room)))

  page_counted : (x : Outcome ℕ) → Packs x k.result → p.number ≡ done → passed p.count ≡ x
  page_counted (passed n) q d = ap passed q.low
  page_counted (refused n) q d = absurd (q.1 (sym q.0.high ∙ d))

  page_refused : (x : Outcome ℕ) → Packs x k.result → ¬ (p.number ≡ done) → ¬ (number_of x ≡ done)
  page_refused (passed n) q r d = r q.high
  page_refused (refused n) q r d = q.1 d

  page_laid : p.number ≡ done → Laid p.report p.count p.before p.after
  page_laid d = laid_out p.report p.count p.before p.after (page_counted (pages_in p.report room) page_said.0 d) page_said.1

  unpaged : ¬ (p.number ≡ done) → p.after ≡ p.before
  unpaged r = page_said.1 ∙ unpaged-left p.report p.before room (pages_in p.report room) refl (page_refused (pages_in p.report room) page_said.0 r)

nothing_asked : NothingAsked border_contracts
nothing_asked =
    record {
      fresh = fresh_asks;
      feed = feed_asks;
      feed_entries = feed_entries_asks;
      finish = finish_asks;
      finish_entries = finish_entries_asks;
      estimates = estimates_asks;
      write = write_asks;
      page = page_asks;
    }

pub keeping : Keeping (on_words border_contracts)
keeping = record {
  nothing_asked = nothing_asked;
  Good = λ s. length s ≡ state_words;
  view = λ s. view_of (state_in s);
  fresh_good = fresh-long;
  fresh_view = ap view_of fresh-back ∙ fresh-view;
  fresh = fresh_made;
  finish = finish_anew;
  good = long;
  promise = promise;
  after = λ c. refl;
  table = λ c. refl;
  unchanged = unchanged;
  wrote = wrote;
  unwritten = unwritten;
  laid = page_laid;
  unpaged = unpaged;
}
