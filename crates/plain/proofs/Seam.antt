-- The two seams: an opener closes whatever unit is open; and a record that waits, which no detail line follows, loads at once or later, with the same events.
-- Assumes nothing.
use mathlib.Core.Bool.{Bool, true, false, cond}
use mathlib.Core.List.{[], ◌∷◌, ◌++◌, append_assoc, append-nil}
use mathlib.Core.Logic.{◌⊎◌, inl, inr}
use mathlib.Core.Path.{◌≡◌, refl, sym, ◌∙◌}
use Prim.Native.Nat.{ℕ, suc}
use native.Mathlib.Omega.{arith}
use lib.Dec.{eqb}
use lib.ListN.{length, drop}
use Rattle.text.proofs.Equal.{starts_whole}
use Rattle.text.specs.Byte.{Bytes, starts_with}
use Rattle.lines.specs.Line.{LF, Line, ended_line, last_line, opener_bytes, drop_cr, kind_of}
use Rattle.lines.specs.declared.line.Kind.{Kind}
use Rattle.lines.specs.declared.line.Kind.TheVariants.{Empty, Opener, Detail, Other}
use Rattle.plain.specs.Claim.{lines_from, filled, first_kind, Whole}
use Rattle.plain.specs.Loader.{OpenUnit, no_unit, waits, loading, close, scan, step_kind, step_line, byte_to, byte_events, scan_to, scan_events, end_at, end_events, file_from}
use Rattle.plain.specs.Rows.{Record, Rules}
use Rattle.plain.proofs.Lines.{or_kind, first-filled, or_kind_assoc, kept_of, kept_whole}
use Rattle.plain.proofs.Pieces.{file-cons, file-nil}

-- what begins with p is p and a rest
pub starts_split : (p s : Bytes) → starts_with p s ≡ true → (r : Bytes) × (s ≡ p ++ r)
starts_split p s h = (drop (length p) s, starts_whole p s h)

-- an opener's first bytes make it one, however it ends
opener_ended : (k : Bytes) → kind_of (ended_line (opener_bytes ++ k)).body ≡ Opener
unfolding kind_of ended_line drop_cr starts_with
opener_ended [] = refl
opener_ended (b ∷ k) = refl

opener-last : (k : Bytes) → kind_of (last_line (opener_bytes ++ k)).body ≡ Opener
unfolding kind_of last_line starts_with
opener-last k = refl

-- the kind of the first line that is not empty, the one that the end of the file ends counted
abbrev or_last : Bytes → Kind
or_last [] = Empty
or_last (b ∷ k) = kind_of (last_line (b ∷ k)).body

pub first_all : Bytes → Bytes → Kind
first_all k [] = or_last k
first_all k (b ∷ s) = cond (eqb b LF) (or_kind (kind_of (ended_line k).body) (first_all [] s)) (first_all (k ++ (b ∷ [])) s)

first_all_opener : (k s : Bytes) → first_all (opener_bytes ++ k) s ≡ Opener
unfolding first_all
first_all_opener k [] = opener-last k
first_all_opener k (b ∷ s) = go (eqb b LF) (first_all_opener (k ++ (b ∷ [])) s)
  where
    go : (c : Bool) → first_all (opener_bytes ++ (k ++ (b ∷ []))) s ≡ Opener
        → cond c (or_kind (kind_of (ended_line (opener_bytes ++ k)).body) (first_all [] s)) (first_all (opener_bytes ++ k ++ (b ∷ [])) s) ≡ Opener
    go true h = rw (opener_ended k)
    go false h = h

first_all_append : (k x y : Bytes) → first_all k (x ++ y) ≡ or_kind (first_kind (filled (lines_from k x))) (first_all (kept_of k x) y)
unfolding first_all kept_of lines_from
first_all_append k [] y = unfold filled first_kind in refl
first_all_append k (b ∷ x) y = go (eqb b LF) (first_all_append [] x y) (first_all_append (k ++ (b ∷ [])) x y)
  where
    go : (c : Bool) → first_all [] (x ++ y) ≡ or_kind (first_kind (filled (lines_from [] x))) (first_all (kept_of [] x) y)
        → first_all (k ++ (b ∷ [])) (x ++ y) ≡ or_kind (first_kind (filled (lines_from (k ++ (b ∷ [])) x))) (first_all (kept_of (k ++ (b ∷ [])) x) y)
        → cond c (or_kind (kind_of (ended_line k).body) (first_all [] (x ++ y))) (first_all (k ++ (b ∷ [])) (x ++ y))
        ≡ or_kind (first_kind (filled (cond c (ended_line k ∷ lines_from [] x) (lines_from (k ++ (b ∷ [])) x))))
        (first_all (cond c (kept_of [] x) (kept_of (k ++ (b ∷ [])) x)) y)
    go true h g =
        rw (h, first-filled (ended_line k) (lines_from [] x))
        (or_kind_assoc (kind_of (ended_line k).body) (first_kind (filled (lines_from [] x))) (first_all (kept_of [] x) y))
    go false h g = g

orKind-detail : (a b : Kind) → ¬ (a ≡ Detail) → ¬ (b ≡ Detail) → ¬ (or_kind a b ≡ Detail)
orKind-detail Empty b h g = g
orKind-detail Opener b h g = h
orKind-detail Detail b h g = h
orKind-detail Other b h g = h

first-opens : (b : Bytes) → (b ≡ []) ⊎ (starts_with opener_bytes b ≡ true) → ¬ (first_all [] b ≡ Detail)
unfolding first_all
first-opens b (inl e) h = let z : Empty ≡ Detail = rw e at h in absurd (let y : ◌≡◌ {A = ℕ} 0 1 = cc in omega arith)
first-opens b (inr e) h =
    let t : (r : Bytes) × (b ≡ opener_bytes ++ r) = starts_split opener_bytes b e in
    let q : first_all [] (opener_bytes ++ t.0) ≡ Opener = first_all_opener [] t.0 in
    let z : first_all [] (opener_bytes ++ t.0) ≡ Detail = rw t.1 at h in
    let y : Opener ≡ Detail = sym q ∙ z in
    absurd (let v : ◌≡◌ {A = ℕ} 0 1 = cc in omega arith)

pub first_seam : (x b : Bytes) → Whole x → ¬ (first_kind (filled (lines_from [] x)) ≡ Detail) → (b ≡ []) ⊎ (starts_with opener_bytes b ≡ true)
    → ¬ (first_all [] (x ++ b) ≡ Detail)
first_seam x b hx hf hb =
    rw (first_all_append [] x b, kept_whole x hx)
    (orKind-detail (first_kind (filled (lines_from [] x))) (first_all [] b) hf (first-opens b hb))

module _ (R : Rules) where
  opener_line : (n : ℕ) (l : Line) (w : OpenUnit) → kind_of l.body ≡ Opener
      → (step_line R n l w).events ≡ close n w ++ (step_line R n l no_unit).events
  unfolding step_line step_kind close
  opener_line n l w h = rw h

  opener_next : (n : ℕ) (l : Line) (w : OpenUnit) → kind_of l.body ≡ Opener → (step_line R n l w).unit ≡ (step_line R n l no_unit).unit
  unfolding step_line step_kind
  opener_next n l w h = rw h

  module _ (m : ℕ) (w : OpenUnit) where
    open_end : (k : Bytes) → end_at R (opener_bytes ++ k) m w ≡ close (suc m) w ++ end_at R (opener_bytes ++ k) m no_unit
    unfolding end_at
    open_end k = rw (opener_line (suc m) (last_line (opener_bytes ++ k)) w (opener-last k), opener_next (suc m) (last_line (opener_bytes ++ k)) w (opener-last k), append_assoc)

    open_step : (k : Bytes) (b : ℕ) (s : Bytes) (c : Bool)
        → file_from R (scan (opener_bytes ++ (k ++ (b ∷ []))) m w) s
        ≡ close (suc m) w ++ file_from R (scan (opener_bytes ++ (k ++ (b ∷ []))) m no_unit) s
        → byte_events R c (scan (opener_bytes ++ k) m w) ++ file_from R (byte_to R c (scan (opener_bytes ++ k) m w) b) s
        ≡ close (suc m) w
        ++ (byte_events R c (scan (opener_bytes ++ k) m no_unit) ++ file_from R (byte_to R c (scan (opener_bytes ++ k) m no_unit) b) s)
    unfolding byte_events byte_to
    open_step k b s true h =
        rw (
          opener_line (suc m) (ended_line (opener_bytes ++ k)) w (opener_ended k),
          opener_next (suc m) (ended_line (opener_bytes ++ k)) w (opener_ended k),
          append_assoc,
        )
    open_step k b s false h = h

    open_file : (k s : Bytes) → file_from R (scan (opener_bytes ++ k) m w) s ≡ close (suc m) w ++ file_from R (scan (opener_bytes ++ k) m no_unit) s
    open_file k [] = rw (file-nil R (scan (opener_bytes ++ k) m w), file-nil R (scan (opener_bytes ++ k) m no_unit)) (open_end k)
    open_file k (b ∷ s) =
        rw (file-cons R (scan (opener_bytes ++ k) m w) b s, file-cons R (scan (opener_bytes ++ k) m no_unit) b s)
        (open_step k b s (eqb b LF) (open_file (k ++ (b ∷ [])) s))

    -- what begins with an opener, or is empty, first closes the open unit
    pub opens : (s : Bytes) → (s ≡ []) ⊎ (starts_with opener_bytes s ≡ true)
        → file_from R (scan [] m w) s ≡ close (suc m) w ++ file_from R (scan [] m no_unit) s
    unfolding file_from scan_to scan_events end_events end_at byte_to byte_events close
    opens s (inl e) = rw e (sym (append-nil (close (suc m) w)))
    opens s (inr e) =
        let t : (r : Bytes) × (s ≡ opener_bytes ++ r) = starts_split opener_bytes s e in
        rw t.1 (open_file [] t.0)

  -- A record that waits loads, unless a detail line is the next that is not empty; the rest goes as if it had loaded before.
  module _ (f la : ℕ) (r : Record) where
    wait_kind-end : (c : Kind) (n q : ℕ) (l : Line) → ¬ (c ≡ Detail)
        → (step_kind R c n l (waits f la r)).events ++ close q (step_kind R c n l (waits f la r)).unit
        ≡ loading f la r ∷ ((step_kind R c n l no_unit).events ++ close q (step_kind R c n l no_unit).unit)
    unfolding step_kind close
    wait_kind-end Empty n q l h = refl
    wait_kind-end Opener n q l h = refl
    wait_kind-end Detail n q l h = absurd (h refl)
    wait_kind-end Other n q l h = refl

    wait_kind : (c : Kind) (n : ℕ) (l : Line) (s : Bytes) → ¬ (or_kind c (first_all [] s) ≡ Detail)
        → (¬ (first_all [] s ≡ Detail) → file_from R (scan [] n (waits f la r)) s ≡ loading f la r ∷ file_from R (scan [] n no_unit) s)
        → (step_kind R c n l (waits f la r)).events ++ file_from R (scan [] n (step_kind R c n l (waits f la r)).unit) s
        ≡ loading f la r ∷ ((step_kind R c n l no_unit).events ++ file_from R (scan [] n (step_kind R c n l no_unit).unit) s)
    unfolding step_kind close
    wait_kind Empty n l s h ih = ih h
    wait_kind Opener n l s h ih = refl
    wait_kind Detail n l s h ih = absurd (h refl)
    wait_kind Other n l s h ih = refl

    wait_end : (k : Bytes) (n : ℕ) → ¬ (or_last k ≡ Detail) → end_at R k n (waits f la r) ≡ loading f la r ∷ end_at R k n no_unit
    unfolding end_at close step_line
    wait_end [] n h = refl
    wait_end (b ∷ k) n h = wait_kind-end (kind_of (last_line (b ∷ k)).body) (suc n) (suc (suc n)) (last_line (b ∷ k)) h

    wait_step : (k : Bytes) (n b : ℕ) (s : Bytes) (c : Bool)
        → ¬ (cond c (or_kind (kind_of (ended_line k).body) (first_all [] s)) (first_all (k ++ (b ∷ [])) s) ≡ Detail)
        → (¬ (first_all [] s ≡ Detail) → file_from R (scan [] (suc n) (waits f la r)) s ≡ loading f la r ∷ file_from R (scan [] (suc n) no_unit) s)
        → (¬ (first_all (k ++ (b ∷ [])) s ≡ Detail)
        → file_from R (scan (k ++ (b ∷ [])) n (waits f la r)) s ≡ loading f la r ∷ file_from R (scan (k ++ (b ∷ [])) n no_unit) s)
        → byte_events R c (scan k n (waits f la r)) ++ file_from R (byte_to R c (scan k n (waits f la r)) b) s
        ≡ loading f la r ∷ (byte_events R c (scan k n no_unit) ++ file_from R (byte_to R c (scan k n no_unit) b) s)
    unfolding byte_events byte_to step_line
    wait_step k n b s true h ih jh = wait_kind (kind_of (ended_line k).body) (suc n) (ended_line k) s h ih
    wait_step k n b s false h ih jh = jh h

    pub wait_file : (k s : Bytes) (n : ℕ) → ¬ (first_all k s ≡ Detail)
        → file_from R (scan k n (waits f la r)) s ≡ loading f la r ∷ file_from R (scan k n no_unit) s
    unfolding first_all
    wait_file k [] n h = rw (file-nil R (scan k n (waits f la r)), file-nil R (scan k n no_unit)) (wait_end k n h)
    wait_file k (b ∷ s) n h =
        rw (file-cons R (scan k n (waits f la r)) b s, file-cons R (scan k n no_unit) b s)
        (wait_step k n b s (eqb b LF) h (wait_file [] s (suc n)) (wait_file (k ++ (b ∷ [])) s n))
