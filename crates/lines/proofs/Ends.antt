-- Bytes of a piece without an LF: more of them, by a stride or by one; and an empty line.
-- Assumes nothing.
use mathlib.Core.Path.{◌≡◌, sym, ap, ◌∙◌}
use Rattle.std.proofs.Common.{Some}
use mathlib.Core.List.{[], ◌∷◌, ◌++◌}
use mathlib.Core.Bool.{true, false}
use Prim.Native.Nat.{ℕ, suc, ◌+◌, ◌-◌, ◌<◌, ◌≤◌}
use native.Mathlib.Omega.{arith}
use lib.Dec.{eqb}
use lib.ListN.{length, take, drop, get_or, length-append, length-drop}
use lib.Seq.{take-add, drop-drop, drop-cons, take-append_seam, drop-append_seam, length-take-le}
use Rattle.std.proofs.lemmas.List.{get_or-take, get_or-drop}
use borrow.Author.Tests.{eqb-true}
use Rattle.text.specs.Byte.{Bytes, every}
use Rattle.text.proofs.Left.{left-whole}
use Rattle.text.proofs.Class.{every_append, every_from}
use Rattle.lines.specs.Line.{LF, CR, not_lf, drop_cr}
use Rattle.lines.specs.End.{between, NoneTo, LineEnd, EndIn, LineAt, EmptyAt}

-- a part of the piece, in two
pub between-add : (piece : Bytes) (at mid end : ℕ) → at ≤ mid → mid ≤ end → between at end piece ≡ between at mid piece ++ between mid end piece
between-add piece at mid end h g =
    let n : end - at ≡ mid - at + (end - mid) = omega arith in
    let m : at + (mid - at) ≡ mid = omega arith in
    let e : drop (mid - at) (drop at piece) ≡ drop mid piece = drop-drop (mid - at) at piece ∙ ap (λ i. drop i piece) m in
    rw n (take-add (mid - at) (end - mid) (drop at piece) ∙ rw e)

pub none_here : (piece : Bytes) (at : ℕ) → at ≤ length piece → NoneTo piece at at
unfolding every
none_here piece at h =
    let z : at - at ≡ 0 = omega arith in
    record { behind = omega arith; within = h; clean = rw z }

module _ (piece : Bytes) (at e : ℕ) (n : NoneTo piece at e) where
  pub none_more : (end : ℕ) → e ≤ end → end ≤ length piece → every not_lf (between e end piece) ≡ true → NoneTo piece at end
  none_more end h g clean =
      record {
        behind = omega (arith, n.behind);
        within = g;
        clean = rw (between-add piece at e end n.behind h) (every_append not_lf (between at e piece) (between e end piece) n.clean clean);
      }

  -- a stride without one
  module _ (part rest : Bytes) (size : ℕ) (left : drop e piece ≡ part ++ rest) (whole : length part ≡ size) where
    stride-part : between e (e + size) piece ≡ part
    stride-part =
        let s : e + size - e ≡ length part = omega arith in
        rw (s, left) (take-append_seam part rest)

    pub stride_left : drop (e + size) piece ≡ rest
    stride_left =
        let s : e + size ≡ e + length part = omega arith in
        rw s (sym (drop-drop (length part) e piece) ∙ rw left (drop-append_seam part rest))

    pub stride_none : every not_lf part ≡ true → NoneTo piece at (e + size)
    stride_none clean = none_more (e + size) (omega arith) (omega (arith, ap length left, length-append {A = ℕ}, length-drop {A = ℕ}, n.within)) (rw stride-part clean)

  -- what is left of the piece has its first LF at a place, or none
  module _ (rest : Bytes) (left : rest ≡ between e (length piece) piece) where
    left_drop : rest ≡ drop e piece
    left_drop = left ∙ left-whole piece e

    left_size : e + length rest ≡ length piece
    left_size = omega (arith, ap length left_drop, length-drop e piece, n.within)

    none_among : (i : ℕ) → i ≤ length rest → ((k : ℕ) → k < i → eqb (get_or rest k 0) LF ≡ false) → NoneTo piece at (e + i)
    none_among i h other =
        let s : e + i - e ≡ i = omega arith in
        let l : length (take i rest) ≡ i = length-take-le i rest h in
        none_more (e + i) (omega arith) (omega (arith, left_size))
        (rw (s, ← left_drop)
        (every_from not_lf (take i rest) (λ k b.
        let m : k < i = omega (arith, l, b) in
        rw (get_or-take i rest k 0 m, other k m))))

    pub lf_at : (i : ℕ) → i < length rest → eqb (get_or rest i 0) LF ≡ true → ((k : ℕ) → k < i → eqb (get_or rest k 0) LF ≡ false) → EndIn piece at (Some (e + i))
    lf_at i h found other =
        (omega (arith, h, left_size), record { none = none_among i (omega arith) other; ends = λ _. sym (get_or-drop e piece i 0) ∙ rw left_drop at (eqb-true _ _ found) })

    pub no_lf : ((k : ℕ) → k < length rest → eqb (get_or rest k 0) LF ≡ false) → NoneTo piece at (length piece)
    no_lf other = rw left_size at (none_among (length rest) (omega arith) other)

-- a line with its LF
pub with_lf : (piece : Bytes) (at end : ℕ) → LineEnd piece at end → end < length piece → between at (suc end) piece ≡ between at end piece ++ (LF ∷ [])
with_lf piece at end e h =
    let n : suc end - end ≡ 1 = omega arith in
    between-add piece at end (suc end) e.none.behind (omega arith) ∙ rw (n, drop-cons piece end 0 h, e.ends h)

-- ---- AN EMPTY LINE

-- by what is left of the piece at a place
module _ (piece : Bytes) (at : ℕ) (left : Bytes) (is : left ≡ between at (length piece) piece) where
  behind-drop : left ≡ drop at piece
  behind-drop = is ∙ left-whole piece at

  left_at : (i : ℕ) → get_or piece (at + i) 0 ≡ get_or left i 0
  left_at i = sym (get_or-drop at piece i 0) ∙ rw behind-drop

  pub empty-lf : 1 ≤ length left → get_or left 0 0 ≡ LF → EmptyAt piece at 1
  unfolding every drop_cr
  empty-lf h e =
      let none : at - at ≡ 0 = omega arith in
      let z : at + 0 ≡ at = omega arith in
      record {
        line = record { some = omega arith; within = omega (arith, h, ap length behind-drop, length-drop at piece); ends = left_at 0 ∙ e; clean = rw (z, none) };
        empty = rw (z, none);
      }

  pub empty-CR-LF : 2 ≤ length left → get_or left 0 0 ≡ CR → get_or left 1 0 ≡ LF → EmptyAt piece at 2
  unfolding every drop_cr
  empty-CR-LF h c e =
      let fits : at + 2 ≤ length piece = omega (arith, h, ap length behind-drop, length-drop at piece) in
      let one : at + 1 - at ≡ 1 = omega arith in
      let z : at + 0 ≡ at = omega arith in
      let first : get_or piece at 0 ≡ CR = rw z at (left_at 0 ∙ c) in
      let part : between at (at + 1) piece ≡ CR ∷ [] = rw (one, drop-cons piece at 0 (omega arith), first) in
      record { line = record { some = omega arith; within = fits; ends = left_at 1 ∙ e; clean = rw part }; empty = rw part }

-- ---- A LINE WITH ITS LF

pub line-between : (piece : Bytes) (at size : ℕ) → LineAt piece at size → between at (at + size) piece ≡ between at (at + (size - 1)) piece ++ (LF ∷ [])
line-between piece at size h =
    let end : at + size ≡ suc (at + (size - 1)) = omega (arith, h.some) in
    let n : suc (at + (size - 1)) - (at + (size - 1)) ≡ 1 = omega arith in
    rw end
    (between-add piece at (at + (size - 1)) (suc (at + (size - 1))) (omega arith) (omega arith)
    ∙ rw (n, drop-cons piece (at + (size - 1)) 0 (omega (arith, h.some, h.within)), h.ends))
