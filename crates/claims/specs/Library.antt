-- A library of the calls, as programs have it: what a call takes and leaves, in document 01's terms. Rattle.antt and Border.antt are the two that there are.
-- Assumes nothing.
use Rattle.std.specs.Prelude.{◌≡◌, List, [], ◌∷◌, ℕ}
use Rattle.text.specs.Byte.{Bytes}
use Rattle.cell.specs.Layout.{Words}
use Rattle.report.specs.declared.Entry.{Entry}
use Rattle.plain.specs.Promise.{Made}

-- a call of Write as it was made and as it came back; meter, channel and window day are from 0
pub record Written : Type 0 where
  pub registry : Bytes
  pub table : Words
  pub meter : ℕ
  pub channel : ℕ
  pub day : ℕ
  pub descriptor : Bytes
  pub before : Bytes
  pub number : ℕ
  pub count : ℕ
  pub after : Bytes

-- a call of page as it was made and as it came back
pub record Paged : Type 0 where
  pub report : List Entry
  pub before : Bytes
  pub number : ℕ
  pub count : ℕ
  pub after : Bytes

pub record Library : Type 3 where
  -- no call asks anything of a caller but its arguments, Estimates, Write and page included
  pub NothingAsked : Type 2
  -- what is kept between calls, and the fresh one
  pub State : Type 0
  pub fresh : State
  -- a call of fresh, and that it met its contract
  pub FreshCall : Type 0
  pub FreshMet : FreshCall → Type 2
  pub number : FreshCall → ℕ
  pub made : FreshCall → State
  -- a call of feed or finish
  pub Call : Type 0
  pub Met : Call → Type 2
  pub registry : Call → Bytes
  pub before : Call → State
  pub after : Call → State
  pub table : Call → Words
  pub table_after : Call → Words
  -- the report's places, whatever they are made of, as they were
  pub SameReport : Call → Type 0
  -- the same call in the plain loader's terms
  pub told : Call → Made
  -- a call of Write
  pub Write : Type 0
  pub WriteMet : Write → Type 2
  pub written : Write → Written
  -- a call of page
  pub Page : Type 0
  pub PageMet : Page → Type 2
  pub paged : Page → Paged

-- A list of calls over one registry: each met its contract, and gets the state as the one before it left it, and the table.
unfoldable pub Linked : (L : Library) → Bytes → L.State → Words → List L.Call → Type 2
Linked L reg s t [] = Unit {2}
Linked L reg s t (c ∷ cs) =
    L.Met c × (L.registry c ≡ reg) × (L.before c ≡ s) × (L.table c ≡ t) × Linked L reg (L.after c) (L.table_after c) cs
