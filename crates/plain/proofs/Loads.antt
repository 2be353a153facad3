-- The table after a list of loads: as long as before, and each cell holds what it held with the reads loaded for it, one after another.
-- Assumes nothing.
use mathlib.Core.Bool.{Bool, true, false, cond, ◌&&◌}
use mathlib.Core.List.{List, [], ◌∷◌, ◌++◌}
use mathlib.Core.Path.{◌≡◌, refl, ap, sym, ◌∙◌}
use Prim.Native.Nat.{ℕ, ◌+◌, ◌*◌, ◌<◌, ◌≤◌}
use native.Mathlib.Omega.{arith}
use lib.Dec.{eqb}
use lib.ListN.{length}
use borrow.Author.Tests.{eqb-true, eqb-false}
use Rattle.reads.proofs.Frame.{load_here, load_other, load-length}
use Rattle.cell.specs.Layout.{Words, width}
use Rattle.reads.specs.Load.{cell_at, merge, loaded}
use Rattle.plain.specs.Rows.{Load, Rules}
use Rattle.plain.specs.Table.{load_one, load_all, is_for, reads_for}
use Rattle.plain.proofs.Lawful.{Lawful}

-- the reads loaded one after another into what a cell held
unfoldable pub merge_all : Words → List Words → Words
merge_all held [] = held
merge_all held (r ∷ rs) = merge_all (merge held r) rs

-- reads that fill their cells
abbrev pub AllWide : List Load → Type 0
AllWide [] = Unit {0}
AllWide (l ∷ ls) = (length l.words ≡ width) × AllWide ls

module _ (R : Rules) (L : Lawful R) where
  fits : (t : Words) (c : ℕ) → R.cells * width ≤ length t → c < R.cells → c * width + width ≤ length t
  fits t c h b = omega (arith, h, b)

  one-length : (t : Words) (l : Load) → R.cells * width ≤ length t → length l.words ≡ width → length (load_one R t l) ≡ length t
  unfolding load_one
  one-length t l h w = go (R.has_cell l) refl
    where
      go : (b : Bool) → R.has_cell l ≡ b → length (cond b (loaded t (R.cell_of l) l.words) t) ≡ length t
      go true e = load-length t (R.cell_of l) l.words (fits t (R.cell_of l) h (L.within l e)) w
      go false e = refl

  one_cell : (t : Words) (l : Load) (c : ℕ) → R.cells * width ≤ length t → length l.words ≡ width → c < R.cells
      → cell_at (load_one R t l) c ≡ cond (is_for R c l) (merge (cell_at t c) l.words) (cell_at t c)
  unfolding load_one is_for
  one_cell t l c h w b = go (R.has_cell l) refl (eqb (R.cell_of l) c) refl
    where
      go : (p : Bool) → R.has_cell l ≡ p → (q : Bool) → eqb (R.cell_of l) c ≡ q
          → cell_at (cond p (loaded t (R.cell_of l) l.words) t) c ≡ cond (p && q) (merge (cell_at t c) l.words) (cell_at t c)
      go true e true f =
          let same : R.cell_of l ≡ c = eqb-true (R.cell_of l) c f in
          rw same (load_here t c l.words (fits t c h b) w)
      go true e false f =
          load_other t (R.cell_of l) l.words (fits t (R.cell_of l) h (L.within l e)) w c
          (λ s. eqb-false (R.cell_of l) c f (sym s)) (fits t c h b)
      go false e q f = refl

  pub all-length : (t : Words) (ls : List Load) → R.cells * width ≤ length t → AllWide ls → length (load_all R t ls) ≡ length t
  unfolding load_all
  all-length t [] h w = refl
  all-length t (l ∷ ls) h w =
      all-length (load_one R t l) ls (rw (one-length t l h w.0) h) w.1 ∙ one-length t l h w.0

  pub all-cell : (t : Words) (ls : List Load) (c : ℕ) → R.cells * width ≤ length t → AllWide ls → c < R.cells
      → cell_at (load_all R t ls) c ≡ merge_all (cell_at t c) (reads_for R c ls)
  unfolding load_all merge_all reads_for
  all-cell t [] c h w b = refl
  all-cell t (l ∷ ls) c h w b =
      all-cell (load_one R t l) ls c (rw (one-length t l h w.0) h) w.1 b ∙ rw (one_cell t l c h w.0 b) (go (is_for R c l))
    where
      go : (q : Bool) → merge_all (cond q (merge (cell_at t c) l.words) (cell_at t c)) (reads_for R c ls)
          ≡ merge_all (cell_at t c) (cond q (l.words ∷ reads_for R c ls) (reads_for R c ls))
      go true = refl
      go false = refl

  pub reads_append : (c : ℕ) (k l : List Load) → reads_for R c (k ++ l) ≡ reads_for R c k ++ reads_for R c l
  unfolding reads_for
  reads_append c [] l = refl
  reads_append c (x ∷ k) l = go (is_for R c x) (reads_append c k l)
    where
      go : (b : Bool) → reads_for R c (k ++ l) ≡ reads_for R c k ++ reads_for R c l
          → cond b (x.words ∷ reads_for R c (k ++ l)) (reads_for R c (k ++ l)) ≡ cond b (x.words ∷ reads_for R c k) (reads_for R c k) ++ reads_for R c l
      go true h = ap (λ r. x.words ∷ r) h
      go false h = h
