-- Lists of calls are chains of the plain loader's promises, in any library whose calls keep them; and what then holds of the library.
-- Assumes nothing.
use mathlib.Core.Path.{◌≡◌, subst, ◌∙◌}
use mathlib.Core.List.{List, [], ◌∷◌}
use Rattle.text.specs.Byte.{Bytes}
use Rattle.report.specs.Outcome.{passed}
use Rattle.report.specs.Refusal.{done}
use Rattle.cell.specs.Layout.{Words}
use Rattle.plain.specs.Rows.{rules_of}
use Rattle.plain.specs.Call.{fresh}
use Rattle.plain.specs.Promise.{View, view_from, Promise, Chain}
use Rattle.plain.proofs.Demand3.{demand3}
use Rattle.report.specs.Output.{output_with}
use Rattle.writer.specs.Write.{writes, length_of}
use Rattle.writer.proofs.Done.{Done, write_done}
use Rattle.writer.specs.Write.{Fits}
use Rattle.roundtrip.proofs.RoundTrip.{round_trip}
use Rattle.claims.specs.Library.{Library, Written, Linked}
use Rattle.claims.specs.Claims.{calls_told, Unchanged, FreshIsFresh, FinishStartsAnew, EachDayByItself, WrittenReadsBack, EachEntryOnAPage, RefusedPagesNothing, Claims}

-- what a call of Write that was done promises
pub record Wrote (k : Written) : Type 0 where
  pub fits : Fits k.table
  pub count : passed k.count ≡ length_of (writes k.registry k.table k.meter k.channel k.day k.descriptor k.before)
  pub after : k.after ≡ output_with k.before (writes k.registry k.table k.meter k.channel k.day k.descriptor k.before)

-- A library keeps the promises: of its states some are good, the fresh one and those that a call leaves of a good one.
pub record Keeping (L : Library) : Type 3 where
  pub nothing_asked : L.NothingAsked
  pub Good : L.State → Type 0
  pub view : L.State → View
  pub fresh_good : Good L.fresh
  pub fresh_view : view L.fresh ≡ view_from fresh
  pub good : (c : L.Call) → L.Met c → Good (L.before c) → Good (L.after c)
  pub promise : (c : L.Call) → L.Met c → Good (L.before c) → Promise (rules_of (L.registry c)) (view (L.before c)) (L.table c) (L.told c)
  pub after : (c : L.Call) → (L.told c).after ≡ view (L.after c)
  pub table : (c : L.Call) → (L.told c).table ≡ L.table_after c
  pub fresh : FreshIsFresh L
  pub finish : FinishStartsAnew L
  pub unchanged : (c : L.Call) → L.Met c → ¬ ((L.told c).number ≡ done) → Unchanged L c
  pub wrote : (k : L.Write) → L.WriteMet k → (L.written k).number ≡ done → Wrote (L.written k)
  pub unwritten : (k : L.Write) → L.WriteMet k → ¬ ((L.written k).number ≡ done) → (L.written k).after ≡ (L.written k).before
  pub laid : EachEntryOnAPage L
  pub unpaged : RefusedPagesNothing L

module _ (L : Library) (K : Keeping L) where
  chained : (reg : Bytes) (s : L.State) (t : Words) (cs : List L.Call) → K.Good s → Linked L reg s t cs → Chain (rules_of reg) (K.view s) t (calls_told L cs)
  unfolding Linked Chain
  chained reg s t [] g h = tt
  chained reg s t (c ∷ cs) g h =
      let here : K.Good (L.before c) = rw h.2 g in
      let p : Promise (rules_of reg) (K.view s) t (L.told c)
      = subst (λ u. Promise (rules_of reg) (K.view s) u (L.told c)) h.3
      (subst (λ x. Promise (rules_of reg) (K.view x) (L.table c) (L.told c)) h.2
      (subst (λ r. Promise (rules_of r) (K.view (L.before c)) (L.table c) (L.told c)) h.1 (K.promise c h.0 here))) in
      (p, rw (K.after c, K.table c) (chained reg (L.after c) (L.table_after c) cs (K.good c h.0 here) h.4))

  fresh_chained : (reg : Bytes) (t : Words) (cs : List L.Call) → Linked L reg L.fresh t cs → Chain (rules_of reg) (view_from fresh) t (calls_told L cs)
  fresh_chained reg t cs h = subst (λ v. Chain (rules_of reg) v t (calls_told L cs)) K.fresh_view (chained reg L.fresh t cs K.fresh_good h)

  pub each_day_by_itself : EachDayByItself L
  each_day_by_itself reg t cs h = demand3 reg t (calls_told L cs) (fresh_chained reg t cs h)

  pub written_reads_back : WrittenReadsBack L
  written_reads_back k met ok loads cleared none cs h only taken =
      let w : Written = L.written k in
      let wrote : Wrote w = K.wrote k met ok in
      let put : Done w.registry w.table w.meter w.channel w.day w.descriptor w.before w.after w.count
      = write_done w.registry w.table w.meter w.channel w.day w.descriptor w.before w.after w.count wrote.count wrote.after in
      record {
        words = put.words;
        cell = put.cell;
        reads_back =
            round_trip w.registry w.table w.meter w.channel w.day w.descriptor put.words put.text
            (record { fits = wrote.fits; cell = put.cell; written = put.written; loads = loads }) cleared none (calls_told L cs)
            (fresh_chained w.registry cleared cs h) only (taken ∙ put.put);
      }

  pub claims : Claims L
  claims = record {
    nothing_asked = K.nothing_asked;
    refused = K.unchanged;
    refused_writes = K.unwritten;
    fresh = K.fresh;
    finish = K.finish;
    each_day_by_itself = each_day_by_itself;
    written_reads_back = written_reads_back;
    each_entry_on_a_page = K.laid;
    refused_pages = K.unpaged;
  }
