-- The words that a finish leaves.
-- Assumes nothing.
use mathlib.Core.Path.{◌≡◌, sym, ap, ◌∙◌}
use mathlib.Core.List.{List}
use Prim.Native.Nat.{ℕ}
use lib.ListN.{length}
use Rattle.std.specs.Prelude.{Result, Ok, Err, OnOk}
use Rattle.text.specs.Byte.{Bytes}
use Rattle.cell.specs.Layout.{Words}
use Rattle.report.specs.Refusal.{done}
use Rattle.report.specs.Outcome.{answers}
use Rattle.report.specs.declared.Entry.{Entry}
use Rattle.report.specs.declared.refusal.Refusal.{Refusal}
use Rattle.plain.specs.Call.{finish}
use Rattle.state.specs.declared.State.{State}
use Rattle.state.specs.Fresh.{fresh_state}
use Rattle.report.proofs.Refusals.{some-number}
use Rattle.statewords.specs.Layout.{state_words, words_of}
use Rattle.border.specs.Border.{number_in, Packs, Crosses, Call}

-- after a finish that answered that it is done they are those of the fresh state
module _ {A : Type 0} (entries : List A → List Entry) (behind : ℕ → List A → List A) where
  pub finished : (reg : Bytes) (before after t table : Words) (report written : List A) (r : ℕ) → length before ≡ state_words
      → Call entries behind reg finish before after t table report written r → number_in r ≡ done → after ≡ words_of fresh_state
  finished reg before after t table report written r long call is =
      let x : Crosses entries behind reg finish before after t table report written r = call.right long in
      go x.answer x.given x.packs x.keeps.fresh x.words
    where
      go : (answer : Result ℕ Refusal) (given : State) → Packs (answers answer) r → OnOk answer (given ≡ fresh_state)
          → OnOk answer (after ≡ words_of given) → after ≡ words_of fresh_state
      go (Ok n) given packs fresh words = words ∙ ap words_of fresh
      go (Err e) given packs fresh words = absurd (some-number e (sym packs.0.high ∙ is))
