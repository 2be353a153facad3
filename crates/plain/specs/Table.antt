-- The table after a list of loads, and the reads of one cell. Document 01, "Registry and cells" and "For demand 3".
-- Assumes nothing.
use Rattle.std.specs.Prelude.{◌≡◌, List, [], ◌∷◌, ◌++◌, true, false, cond, ◌&&◌, Bool, ℕ, eqb}
use Rattle.cell.specs.Layout.{Words}
use Rattle.cell.specs.Read.{stamp_in}
use Rattle.reads.specs.Load.{holds_none, is_later, loaded}
use Rattle.plain.specs.Rows.{Load, Rules}

module _ (R : Rules) where
  -- A load for a cell that the registry has not changes nothing. From a fresh state there is none.
  unfoldable pub load_one : Words → Load → Words
  load_one table l = cond (R.has_cell l) (loaded table (R.cell_of l) l.words) table

  unfoldable pub load_all : Words → List Load → Words
  load_all table [] = table
  load_all table (l ∷ ls) = load_all (load_one table l) ls

  unfoldable pub is_for : ℕ → Load → Bool
  is_for c l = R.has_cell l && eqb (R.cell_of l) c

  -- the reads loaded for cell number c, in order of loading
  unfoldable pub reads_for : ℕ → List Load → List Words
  reads_for c [] = []
  reads_for c (l ∷ ls) = cond (is_for c l) (l.words ∷ reads_for c ls) (reads_for c ls)

-- of the reads for a cell, what it held comes first, if its word 0 is not 0
unfoldable pub candidates : Words → List Words → List Words
candidates held reads = cond (holds_none held) reads (held ∷ reads)

-- b's stamp is later than a's
abbrev pub Later : Words → Words → Type 0
Later a b = is_later (stamp_in b) (stamp_in a) ≡ true

abbrev pub NotLater : Words → Words → Type 0
NotLater a b = is_later (stamp_in b) (stamp_in a) ≡ false

unfoldable pub Each : (Words → Type 0) → List Words → Type 0
Each P [] = Unit {0}
Each P (x ∷ xs) = P x × Each P xs

-- r is the first of the latest-stamped of `reads`: later than each before it, and none after it is later than r
pub record FirstLatest (reads : List Words) (r : Words) : Type 0 where
  pub before : List Words
  pub after : List Words
  pub split : reads ≡ before ++ (r ∷ after)
  pub above : Each (λ x. Later x r) before
  pub not_below : Each (λ x. NotLater r x) after

-- if there is none, the cell stays as it was
abbrev pub SettledBy : List Words → Words → Words → Type 0
SettledBy [] held now = now ≡ held
SettledBy (x ∷ xs) held now = FirstLatest (x ∷ xs) now

-- a cell that held `held` holds `now` once `reads` were loaded for it
unfoldable pub Settled : Words → List Words → Words → Type 0
Settled held reads now = SettledBy (candidates held reads) held now
