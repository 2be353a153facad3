-- A call that was refused leaves the table as it was, by what it promises.
-- Assumes nothing.
use mathlib.Core.Path.{◌≡◌, refl, ap, ◌∙◌}
use mathlib.Core.List.{List, []}
use mathlib.Core.Bool.{cond}
use Prim.Native.Nat.{ℕ, zero, suc}
use lib.ListN.{length}
use Rattle.cell.specs.Layout.{Words}
use Rattle.report.specs.Refusal.{done, bad_state}
use Rattle.plain.specs.Rows.{Rules}
use Rattle.plain.specs.Table.{load_all}
use Rattle.plain.specs.Loader.{Event, loads_of}
use Rattle.plain.specs.Call.{Asked, feed, finish, refused_by, done_call}
use Rattle.plain.specs.Promise.{View, Coded, Made, call_of, overfull, code_number, code_call, Promise}

module _ (R : Rules) (s : View) (t : Words) (m : Made) (p : Promise R s t m) (refused : ¬ (m.number ≡ done)) where
  coded : Coded
  coded = code_call R (length t) s (call_of m)

  done-number : (a : Asked) → (done_call R s.plain a).number ≡ done
  unfolding done_call
  done-number (feed piece) = refl
  done-number finish = refl

  no-events : coded.events ≡ []
  unfolding coded code_call code_number
  no-events = go (cond (overfull s) bad_state (refused_by R (length t) s.plain.taken (call_of m))) p.number
    where
      go : (n : ℕ) → m.number ≡ (code_number R n s m.asked).number → (code_number R n s m.asked).events ≡ []
      go zero e = absurd (refused (e ∙ done-number m.asked))
      go (suc n) e = refl

  pub refused_table : m.table ≡ t
  unfolding coded load_all loads_of
  refused_table = p.table ∙ ap (λ (es : List Event). load_all R t (loads_of es)) no-events
