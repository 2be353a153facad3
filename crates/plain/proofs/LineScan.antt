-- A scan a line at a time: over bytes with no LF in them they are kept, and an LF behind them has the line read.
-- Assumes nothing.
use mathlib.Core.Bool.{Bool, true, false, not}
use mathlib.Core.List.{[], ◌∷◌, ◌++◌, append_assoc, append-nil}
use mathlib.Core.Path.{◌≡◌, refl, sym, ap, ◌∙◌}
use Prim.Native.Nat.{ℕ, suc}
use lib.Dec.{eqb}
use Rattle.text.specs.Byte.{Bytes, every}
use Rattle.text.proofs.Truth.{and_left, and_right}
use Rattle.lines.specs.Line.{LF, not_lf, NoLf, ended_line}
use Rattle.plain.specs.Rows.{Rules}
use Rattle.plain.specs.Loader.{OpenUnit, scan, step_line, byte_to, byte_events, scan_to, scan_events, file_from}
use Rattle.plain.proofs.Pieces.{scan_to-append, scan_events-append, file-append}

not_lf_lem : (b : ℕ) (s : Bytes) → NoLf (b ∷ s) → eqb b LF ≡ false
unfolding every
not_lf_lem b s h = go (eqb b LF) (and_left (not (eqb b LF)) (every not_lf s) h)
  where
    go : (c : Bool) → not c ≡ true → c ≡ false
    go true e = sym e
    go false e = refl

rest-lf : (b : ℕ) (s : Bytes) → NoLf (b ∷ s) → NoLf s
unfolding every
rest-lf b s h = and_right (not (eqb b LF)) (every not_lf s) h

module _ (R : Rules) (n : ℕ) (u : OpenUnit) where
  pub kept-scan-to : (k s : Bytes) → NoLf s → scan_to R (scan k n u) s ≡ scan (k ++ s) n u
  unfolding scan_to byte_to
  kept-scan-to k [] h = ap (λ r. scan r n u) (sym (append-nil k))
  kept-scan-to k (b ∷ s) h =
      rw (not_lf_lem b s h) (kept-scan-to (k ++ (b ∷ [])) s (rest-lf b s h) ∙ ap (λ r. scan r n u) (append_assoc k (b ∷ []) s))

  pub kept-scan-events : (k s : Bytes) → NoLf s → scan_events R (scan k n u) s ≡ []
  unfolding scan_events byte_events byte_to
  kept-scan-events k [] h = refl
  kept-scan-events k (b ∷ s) h = rw (not_lf_lem b s h) (kept-scan-events (k ++ (b ∷ [])) s (rest-lf b s h))

  module _ (k s : Bytes) (h : NoLf s) where
    pub line-scan-to : scan_to R (scan k n u) (s ++ (LF ∷ [])) ≡ scan [] (suc n) (step_line R (suc n) (ended_line (k ++ s)) u).unit
    unfolding scan_to byte_to
    line-scan-to =
        scan_to-append R (scan k n u) s (LF ∷ []) ∙ ap (λ t. scan_to R t (LF ∷ [])) (kept-scan-to k s h)

    pub line-scan-events : scan_events R (scan k n u) (s ++ (LF ∷ [])) ≡ (step_line R (suc n) (ended_line (k ++ s)) u).events
    unfolding scan_events byte_events
    line-scan-events =
        scan_events-append R (scan k n u) s (LF ∷ [])
        ∙ rw (kept-scan-events k s h, kept-scan-to k s h) (append-nil (step_line R (suc n) (ended_line (k ++ s)) u).events)

    -- the file behind it goes on from there
    pub line-file : (rest : Bytes) → file_from R (scan k n u) (s ++ (LF ∷ []) ++ rest)
        ≡ (step_line R (suc n) (ended_line (k ++ s)) u).events ++ file_from R (scan [] (suc n) (step_line R (suc n) (ended_line (k ++ s)) u).unit) rest
    line-file rest = file-append R (scan k n u) (s ++ (LF ∷ [])) rest ∙ rw (line-scan-events, line-scan-to)
