-- Where a scan stands after some bytes: what is kept, how many lines were read; and the kind of the first line that is not empty.
-- Assumes nothing.
use mathlib.Core.Bool.{Bool, true, false, cond}
use mathlib.Core.List.{List, [], ◌∷◌, ◌++◌}
use mathlib.Core.Logic.{inl, inr}
use mathlib.Core.Path.{◌≡◌, refl, ◌∙◌}
use Prim.Native.Nat.{ℕ, suc, ◌+◌, ◌≤◌}
use native.Mathlib.Omega.{arith}
use lib.Dec.{eqb}
use lib.ListN.{length}
use Rattle.text.specs.Byte.{Bytes}
use Rattle.lines.specs.Line.{LF, Line, ended_line}
use Rattle.lines.specs.declared.line.Kind.{Kind}
use Rattle.lines.specs.declared.line.Kind.TheVariants.{Empty, Opener, Detail, Other}
use Rattle.plain.specs.Claim.{lines_from, line_count, line_kind, is_filled, filled, first_kind, Whole}
use Rattle.plain.specs.Loader.{OpenUnit, Scan, scan, byte_to, scan_to}
use Rattle.plain.specs.Rows.{Rules}

-- the first of two kinds that is not that of an empty line
abbrev pub or_kind : Kind → Kind → Kind
or_kind Empty k = k
or_kind Opener k = Opener
or_kind Detail k = Detail
or_kind Other k = Other

pub first-filled : (l : Line) (ls : List Line) → first_kind (filled (l ∷ ls)) ≡ or_kind (line_kind l) (first_kind (filled ls))
unfolding filled first_kind
first-filled l ls = go (line_kind l) refl
  where
    go : (k : Kind) → line_kind l ≡ k → first_kind (cond (is_filled k) (l ∷ filled ls) (filled ls)) ≡ or_kind k (first_kind (filled ls))
    go Empty e = refl
    go Opener e = e
    go Detail e = e
    go Other e = e

pub or_kind_assoc : (a b c : Kind) → or_kind a (or_kind b c) ≡ or_kind (or_kind a b) c
or_kind_assoc Empty b c = refl
or_kind_assoc Opener b c = refl
or_kind_assoc Detail b c = refl
or_kind_assoc Other b c = refl

-- the bytes kept after s
unfoldable pub kept_of : Bytes → Bytes → Bytes
kept_of k [] = k
kept_of k (b ∷ s) = cond (eqb b LF) (kept_of [] s) (kept_of (k ++ (b ∷ [])) s)

kept_snoc : (k s : Bytes) → kept_of k (s ++ (LF ∷ [])) ≡ []
unfolding kept_of
kept_snoc k [] = refl
kept_snoc k (b ∷ s) = go (eqb b LF) (kept_snoc [] s) (kept_snoc (k ++ (b ∷ [])) s)
  where
    go : (c : Bool) → kept_of [] (s ++ (LF ∷ [])) ≡ [] → kept_of (k ++ (b ∷ [])) (s ++ (LF ∷ [])) ≡ []
        → cond c (kept_of [] (s ++ (LF ∷ []))) (kept_of (k ++ (b ∷ [])) (s ++ (LF ∷ []))) ≡ []
    go true h g = h
    go false h g = g

pub kept_whole : (s : Bytes) → Whole s → kept_of [] s ≡ []
unfolding kept_of
kept_whole s (inl e) = rw e
kept_whole s (inr p) = rw p.1 (kept_snoc [] p.0)

-- no more lines than bytes
pub lines_le : (k x : Bytes) → length (lines_from k x) ≤ length x
unfolding lines_from
lines_le k [] = omega arith
lines_le k (b ∷ x) = go (eqb b LF) (lines_le [] x) (lines_le (k ++ (b ∷ [])) x)
  where
    go : (c : Bool) → length (lines_from [] x) ≤ length x → length (lines_from (k ++ (b ∷ [])) x) ≤ length x
        → length (cond c (ended_line k ∷ lines_from [] x) (lines_from (k ++ (b ∷ [])) x)) ≤ suc (length x)
    go true h g = omega arith
    go false h g = omega arith

module _ (R : Rules) where
  -- where the scan stands after bytes
  pub kept-scan : (s : Scan) (x : Bytes) → (scan_to R s x).kept ≡ kept_of s.kept x
  unfolding scan_to kept_of byte_to
  kept-scan s [] = refl
  kept-scan s (b ∷ x) = kept-scan (byte_to R (eqb b LF) s b) x ∙ go (eqb b LF)
    where
      go : (c : Bool) → kept_of (byte_to R c s b).kept x ≡ cond c (kept_of [] x) (kept_of (s.kept ++ (b ∷ [])) x)
      go true = refl
      go false = refl

  pub lines-scan : (s : Scan) (x : Bytes) → (scan_to R s x).lines ≡ s.lines + length (lines_from s.kept x)
  unfolding scan_to lines_from byte_to
  lines-scan s [] = omega arith
  lines-scan s (b ∷ x) = lines-scan (byte_to R (eqb b LF) s b) x ∙ go (eqb b LF)
    where
      go : (c : Bool) → (byte_to R c s b).lines + length (lines_from (byte_to R c s b).kept x)
          ≡ s.lines + length (cond c (ended_line s.kept ∷ lines_from [] x) (lines_from (s.kept ++ (b ∷ [])) x))
      go true = omega arith
      go false = refl

  -- after whole lines: nothing kept, so many lines more
  pub whole-scan : (n : ℕ) (w : OpenUnit) (x : Bytes) → Whole x
      → scan_to R (scan [] n w) x ≡ scan [] (n + line_count x) (scan_to R (scan [] n w) x).unit
  whole-scan n w x h = λ i.
      scan ((kept-scan (scan [] n w) x ∙ kept_whole x h) i) (lines-scan (scan [] n w) x i) (scan_to R (scan [] n w) x).unit
