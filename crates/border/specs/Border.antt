-- What the calls of the border promise: what the calls behind them do, on the state that the words are.
-- Assumes nothing.
use Rattle.std.specs.Prelude.{◌≡◌, List, ℕ, Result, OnOk, OnErr, ◌/◌, ◌%◌, ◌^◌, length}
use Rattle.text.specs.Byte.{Bytes}
use Rattle.cell.specs.Layout.{Words, word_bits}
use Rattle.report.specs.Outcome.{Outcome, passed, refused, answers}
use Rattle.report.specs.Refusal.{done, bad_state}
use Rattle.report.specs.declared.Entry.{Entry}
use Rattle.report.specs.declared.refusal.Refusal.{Refusal}
use Rattle.plain.specs.Call.{Asked}
use Rattle.state.specs.declared.State.{State}
use Rattle.state.specs.Fresh.{fresh_state}
use Rattle.loader.specs.Keeps.{Keeps}
use Rattle.statewords.specs.Layout.{state_words, state_in, words_of}

-- one number for an answer: the number returned in the high half, the count or length in the low one
abbrev pub number_in : ℕ → ℕ
number_in r = r / 2 ^ word_bits

abbrev pub count_in : ℕ → ℕ
count_in r = r % 2 ^ word_bits

pub record Halves (number count r : ℕ) : Type 0 where
  pub high : number_in r ≡ number
  pub low : count_in r ≡ count

-- a refusal's number is never that of a call that was done
abbrev pub Packs : Outcome ℕ → ℕ → Type 0
Packs (passed n) r = Halves done n r
Packs (refused number) r = Halves number 0 r × ¬ (number ≡ done)

-- a run of the right length becomes the words of the fresh state; another is refused and left
pub record Freshens (before after : Words) (r : ℕ) : Type 0 where
  pub right : length before ≡ state_words → Packs (passed 0) r × (after ≡ words_of fresh_state)
  pub wrong : ¬ (length before ≡ state_words) → Packs (refused bad_state) r × (after ≡ before)

-- The call behind it, on the state that the words are, answered so: where it is done the words are those of the state that it left, and are that state; a
-- refusal leaves the very words. A report is told by its entries, whatever it is made of.
pub record Crosses {A : Type 0} (entries : List A → List Entry) (behind : ℕ → List A → List A) (reg : Bytes) (asked : Asked) (before after t table : Words)
    (report written : List A) (r : ℕ) : Type 0 where
  pub answer : Result ℕ Refusal
  pub given : State
  pub keeps : Keeps entries behind reg (state_in before) t asked report answer given table written
  pub packs : Packs (answers answer) r
  pub words : OnOk answer (after ≡ words_of given)
  pub state : OnOk answer (state_in after ≡ given)
  pub same : OnErr answer (after ≡ before)
  pub long : length after ≡ length before

-- a state of another length is refused 1, and nothing changes
pub record Call {A : Type 0} (entries : List A → List Entry) (behind : ℕ → List A → List A) (reg : Bytes) (asked : Asked) (before after t table : Words)
    (report written : List A) (r : ℕ) : Type 0 where
  pub right : length before ≡ state_words → Crosses entries behind reg asked before after t table report written r
  pub wrong : ¬ (length before ≡ state_words) → Packs (refused bad_state) r × (after ≡ before) × (table ≡ t) × (written ≡ report)
