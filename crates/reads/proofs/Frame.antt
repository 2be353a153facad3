-- The table after a load: cell c is the one that wins, and no other word changes.
-- Assumes nothing.
use mathlib.Core.Path.{◌≡◌, refl, sym, ◌∙◌}
use mathlib.Core.List.{◌++◌, append_assoc}
use mathlib.Core.Bool.{Bool, true, false, cond, ◌||◌}
use Prim.Native.Nat.{ℕ, ◌+◌, ◌-◌, ◌*◌, ◌≤◌, ◌<◌}
use native.Mathlib.Omega.{arith}
use lib.Dec.{ltb}
use lib.ListN.{length, take, drop, take-append-drop, length-append, length-drop}
use lib.Seq.{take_at, drop_at, take-append-le, take-take, take-add, drop-drop, length-take-le}
use borrow.Rule.Slice.PartMut.{put_mid, Post-is}
use borrow.Author.Tests.{ltb-true, ltb-false}
use Rattle.text.proofs.Left.{drop-take}
use Rattle.cell.specs.Layout.{Words, width}
use Rattle.cell.specs.Read.{stamp_in}
use Rattle.reads.specs.Load.{cell_at, put_cell, holds_none, is_later, merge, loaded}

-- ---- the code

-- a cell put back where it stood changes nothing
put_back : (t : Words) (c : ℕ) → put_cell t c (cell_at t c) ≡ t
unfolding put_cell cell_at
put_back t c = rw (← take-add (c * width) width t) (take-append-drop (c * width + width) t)

size : (c : ℕ) → c * width + width - c * width ≡ width
size c = omega arith

-- the words of a cell, as the code cuts them
pub lent : (t : Words) (c : ℕ) → take (c * width + width - c * width) (drop (c * width) t) ≡ cell_at t c
unfolding cell_at
lent t c = rw (size c)

-- what the code does where the read loses and where it wins
module _ (t : Words) (c : ℕ) (old read : Words) (wins : Bool) (is : old ≡ cell_at t c) (e : wins ≡ (holds_none old || is_later (stamp_in read) (stamp_in old))) where
  pub load_kept : wins ≡ false → t ≡ loaded t c read
  unfolding loaded merge
  load_kept h = sym (rw (← is, sym e ∙ h, is) (put_back t c))

  pub load-put : (back : Words) → wins ≡ true → back ≡ read → put_mid (c * width) (c * width + width - c * width) t back ≡ loaded t c read
  unfolding loaded merge put_cell
  load-put back h g =
      rw (← is, sym e ∙ h, g, Post-is (c * width) (c * width + width) t (omega arith))
      (sym (append_assoc (take (c * width) t) read (drop (c * width + width) t)))

-- ---- the whole table

-- a cell, cut off on its right first
cell-part : (t : Words) (d : ℕ) → take width (drop (d * width) t) ≡ drop (d * width) (take (d * width + width) t)
cell-part t d = sym (rw (size d) at (drop-take (d * width) (d * width + width) t))

pub cell-length : (t : Words) (c : ℕ) → c * width + width ≤ length t → length (cell_at t c) ≡ width
unfolding cell_at
cell-length t c h = length-take-le width (drop (c * width) t) (simp length-drop (omega arith))

module _ (t : Words) (c : ℕ) (r : Words) (h : c * width + width ≤ length t) (n : length r ≡ width) where
  won_length : length (merge (cell_at t c) r) ≡ width
  unfolding merge
  won_length = go (holds_none (cell_at t c) || is_later (stamp_in r) (stamp_in (cell_at t c)))
    where
      go : (x : Bool) → length (cond x r (cell_at t c)) ≡ width
      go true = n
      go false = cell-length t c h

  before-length : length (take (c * width) t) ≡ c * width
  before-length = length-take-le (c * width) t (omega arith)

  to-length : length (take (c * width) t ++ merge (cell_at t c) r) ≡ c * width + width
  to-length = simp length-append (omega (arith, before-length, won_length))

  pub load-length : length (loaded t c r) ≡ length t
  unfolding loaded put_cell
  load-length =
      length-append (take (c * width) t ++ merge (cell_at t c) r) (drop (c * width + width) t)
      ∙ omega (arith, to-length, length-drop (c * width + width) t)

  pub load_here : cell_at (loaded t c r) c ≡ merge (cell_at t c) r
  unfolding cell_at
  load_here = go (merge (cell_at t c) r) won_length (unfold loaded put_cell in refl)
    where
      go : (m : Words) → length m ≡ width → loaded t c r ≡ take (c * width) t ++ m ++ drop (c * width + width) t
          → cell_at (loaded t c r) c ≡ m
      go m l e =
          let tail : Words = drop (c * width + width) t in
          rw (e, append_assoc, drop_at (take (c * width) t) (m ++ tail) (c * width) before-length) (take_at m tail width l)

  -- the words before the cell, and those behind it
  pub load-before : (i : ℕ) → i ≤ c * width → take i (loaded t c r) ≡ take i t
  unfolding loaded put_cell
  load-before i l =
      rw append_assoc
      (take-append-le i (take (c * width) t) (merge (cell_at t c) r ++ drop (c * width + width) t) (omega (arith, before-length))
      ∙ take-take i (c * width) t l)

  behind : drop (c * width + width) (loaded t c r) ≡ drop (c * width + width) t
  unfolding loaded put_cell
  behind = drop_at (take (c * width) t ++ merge (cell_at t c) r) (drop (c * width + width) t) (c * width + width) to-length

  pub load_past : (i : ℕ) → c * width + width ≤ i → drop i (loaded t c r) ≡ drop i t
  load_past i l =
      let end : ℕ = c * width + width in
      let e : end + (i - end) ≡ i = omega arith in
      let part : (s : Words) → drop i s ≡ drop (i - end) (drop end s) = λ s. sym (rw e at (drop-drop (i - end) end s)) in
      part (loaded t c r) ∙ rw behind (sym (part t))

  pub load_other : (d : ℕ) → (d ≡ c → ⊥) → d * width + width ≤ length t → cell_at (loaded t c r) d ≡ cell_at t d
  unfolding cell_at
  load_other d o l = go (ltb d c) refl
    where
      go : (x : Bool) → ltb d c ≡ x → take width (drop (d * width) (loaded t c r)) ≡ take width (drop (d * width) t)
      go true e =
          let b : d < c = ltb-true d c e in
          cell-part (loaded t c r) d ∙ rw (load-before (d * width + width) (omega arith)) (sym (cell-part t d))
      go false e =
          let b : c ≤ d = ltb-false d c e in
          let b' : c < d = omega arith in
          rw (load_past (d * width) (omega arith))
