-- A call on a state of the right length crosses as the call behind it was answered.
-- Assumes nothing.
use mathlib.Core.Path.{◌≡◌}
use mathlib.Core.List.{List}
use Prim.Native.Nat.{ℕ}
use lib.ListN.{length}
use Rattle.std.specs.Prelude.{Result, OnOk, OnErr}
use Rattle.text.specs.Byte.{Bytes}
use Rattle.cell.specs.Layout.{Words}
use Rattle.report.specs.Outcome.{answers}
use Rattle.report.specs.declared.Entry.{Entry}
use Rattle.report.specs.declared.refusal.Refusal.{Refusal}
use Rattle.plain.specs.Call.{Asked}
use Rattle.state.specs.declared.State.{State}
use Rattle.loader.specs.Keeps.{Keeps}
use Rattle.statewords.specs.Layout.{state_words, state_in, words_of}
use Rattle.border.specs.Border.{Packs, Call}

module _ {A : Type 0} (entries : List A → List Entry) (behind : ℕ → List A → List A) where
  pub crosses : (reg : Bytes) (asked : Asked) (before t : Words) (report : List A) (table : Words) (written : List A) (after : Words)
      (answer : Result ℕ Refusal) (given : State)
      → Keeps entries behind reg (state_in before) t asked report answer given table written → length before ≡ state_words
      → OnOk answer (after ≡ words_of given) → OnOk answer (state_in after ≡ given) → OnErr answer (after ≡ before) → length after ≡ length before
      → (r : ℕ) → Packs (answers answer) r → Call entries behind reg asked before after t table report written r
  crosses reg asked before t report table written after answer given k right words state same long r packs =
      record {
        right = λ _. record { answer = answer; given = given; keeps = k; packs = packs; words = words; state = state; same = same; long = long };
        wrong = λ h. absurd (h right);
      }
