-- Keeping the first 201 bytes of a line is keeping enough: they tell its kind, and that it is long.
-- Assumes nothing.
use mathlib.Core.Bool.{Bool, true, false}
use mathlib.Core.List.{[], ◌∷◌, ◌++◌}
use mathlib.Core.Logic.{◌⊎◌, inl, inr}
use mathlib.Core.Path.{◌≡◌, refl, ap, sym, ◌∙◌}
use Prim.Native.Nat.{ℕ, zero, suc, ◌<◌, ◌≤◌, min}
use native.Mathlib.Nat.{not-suc-le-zero, le_of_suc-le-suc}
use native.Mathlib.Omega.{arith}
use lib.Dec.{eqb, leb}
use lib.ListN.{length, take, length-take}
use lib.Seq.{take-take, take_all, take-append-le}
use borrow.Author.Tests.{lt-ltb, leb-true, leb-false}
use Rattle.text.specs.Byte.{Bytes, starts_with}
use Rattle.lines.proofs.Lines.{ended-long, last-long}
use Rattle.lines.specs.Line.{LF, Line, ended_line, last_line, opener_bytes, detail_bytes, drop_cr, kind_of, line_limit, is_long, kept_limit}
use Rattle.lines.specs.declared.line.Kind.{Kind}
use Rattle.lines.specs.declared.line.Kind.TheVariants.{Empty, Opener, Detail, Other}
use Rattle.plain.specs.Loader.{OpenUnit, no_unit, takes_rows, waits, skips, Scan, step_kind, step_line, byte_to, byte_events, scan_to, scan_events, end_at, end_events}
use Rattle.plain.specs.Rows.{Rules}
use Rattle.plain.proofs.Lawful.{Lawful}

-- as many bytes as tell the prefix
starts_take : (n : ℕ) (p s : Bytes) → length p ≤ n → starts_with p s ≡ starts_with p (take n s)
unfolding starts_with
starts_take n p s h = rw (take-take (length p) n s h)

take-drop_cr : (n : ℕ) (k : Bytes) → n < length k → take n (drop_cr k) ≡ take n k
unfolding drop_cr
take-drop_cr zero k h = refl
take-drop_cr (suc n) [] h = absurd (not-suc-le-zero h)
take-drop_cr (suc n) (b ∷ []) h = absurd (not-suc-le-zero (le_of_suc-le-suc h))
take-drop_cr (suc n) (b ∷ (c ∷ k)) h = ap (λ r. b ∷ r) (take-drop_cr n (c ∷ k) (le_of_suc-le-suc h))

-- as many bytes as tell the kind of a line
abbrev kind_size : ℕ
kind_size = length opener_bytes

kind-take : (s : Bytes) → kind_of s ≡ kind_of (take kind_size s)
unfolding kind_of
kind-take [] = refl
kind-take (b ∷ s) = rw (starts_take kind_size opener_bytes (b ∷ s) (omega arith), starts_take kind_size detail_bytes (b ∷ s) (omega arith))

-- one is the other, or both are long and begin alike
abbrev pub Alike : Bytes → Bytes → Type 0
Alike k j = take kept_limit k ≡ take kept_limit j

alike_cases : (k j : Bytes) → Alike k j → (k ≡ j) ⊎ ((kept_limit ≤ length k) × (kept_limit ≤ length j))
alike_cases k j h = go (leb kept_limit (length k)) refl (leb kept_limit (length j)) refl
  where
    m : min kept_limit (length k) ≡ min kept_limit (length j)
    m = sym (length-take kept_limit k) ∙ ap length h ∙ length-take kept_limit j

    go : (p : Bool) → leb kept_limit (length k) ≡ p → (q : Bool) → leb kept_limit (length j) ≡ q → (k ≡ j) ⊎ ((kept_limit ≤ length k) × (kept_limit ≤ length j))
    go true e true f = inr (leb-true kept_limit (length k) e, leb-true kept_limit (length j) f)
    go true e false f = absurd (omega (arith, m, leb-true kept_limit (length k) e, leb-false kept_limit (length j) f))
    go false e q f =
        let l : length k < kept_limit = leb-false kept_limit (length k) e in
        inl (sym (take_all kept_limit k (omega arith)) ∙ h ∙ take_all kept_limit j (omega (arith, m)))

pub alike-snoc : (k j : Bytes) (b : ℕ) → Alike k j → Alike (k ++ (b ∷ [])) (j ++ (b ∷ []))
alike-snoc k j b h = go (alike_cases k j h)
  where
    go : (k ≡ j) ⊎ ((kept_limit ≤ length k) × (kept_limit ≤ length j)) → Alike (k ++ (b ∷ [])) (j ++ (b ∷ []))
    go (inl e) = rw e
    go (inr l) = take-append-le kept_limit k (b ∷ []) l.0 ∙ h ∙ sym (take-append-le kept_limit j (b ∷ []) l.1)

kind-last : (k j : Bytes) → Alike k j → kind_of k ≡ kind_of j
kind-last k j h =
    kind-take k ∙ ap kind_of (sym (take-take kind_size kept_limit k (omega arith)) ∙ ap (take kind_size) h ∙ take-take kind_size kept_limit j (omega arith)) ∙ sym (kind-take j)

kind-ended : (k j : Bytes) → Alike k j → kept_limit ≤ length k → kept_limit ≤ length j → kind_of (drop_cr k) ≡ kind_of (drop_cr j)
kind-ended k j h lk lj =
    kind-take (drop_cr k)
    ∙ ap kind_of (take-drop_cr kind_size k (omega arith) ∙ sym (take-take kind_size kept_limit k (omega arith)) ∙ ap (take kind_size) h ∙ take-take kind_size kept_limit j (omega arith) ∙ sym (take-drop_cr kind_size j (omega arith)))
    ∙ sym (kind-take (drop_cr j))

module _ (R : Rules) (L : Lawful R) where
  -- two long lines of one kind do the same
  long-kind : (c : Kind) (n : ℕ) (l m : Line) (u : OpenUnit) → is_long l ≡ true → is_long m ≡ true → step_kind R c n l u ≡ step_kind R c n m u
  unfolding step_kind
  long-kind Empty n l m u h g = refl
  long-kind Opener n l m u h g = rw (L.long_one l h, L.long_one m g)
  long-kind Detail n l m no_unit h g = refl
  long-kind Detail n l m (takes_rows f rows) h g = rw (L.long_next rows l h, L.long_next rows m g)
  long-kind Detail n l m (waits f la r) h g = refl
  long-kind Detail n l m skips h g = refl
  long-kind Other n l m no_unit h g = refl
  long-kind Other n l m (takes_rows f rows) h g = rw (L.long_next rows l h, L.long_next rows m g)
  long-kind Other n l m (waits f la r) h g = refl
  long-kind Other n l m skips h g = refl

  long-line : (n : ℕ) (l m : Line) (u : OpenUnit) → is_long l ≡ true → is_long m ≡ true → kind_of l.body ≡ kind_of m.body
      → step_line R n l u ≡ step_line R n m u
  unfolding step_line
  long-line n l m u h g e = ap (λ c. step_kind R c n l u) e ∙ long-kind (kind_of m.body) n l m u h g

  ended_alike : (n : ℕ) (k j : Bytes) (w : OpenUnit) → Alike k j → step_line R n (ended_line k) w ≡ step_line R n (ended_line j) w
  unfolding ended_line
  ended_alike n k j w h = go (alike_cases k j h)
    where
      go : (k ≡ j) ⊎ ((kept_limit ≤ length k) × (kept_limit ≤ length j)) → step_line R n (ended_line k) w ≡ step_line R n (ended_line j) w
      go (inl e) = ap (λ s. step_line R n (ended_line s) w) e
      go (inr l) =
          long-line n (ended_line k) (ended_line j) w (ended-long k ∙ lt-ltb line_limit (length k) l.0) (ended-long j ∙ lt-ltb line_limit (length j) l.1) (kind-ended k j h l.0 l.1)

  last_alike : (n : ℕ) (k j : Bytes) (w : OpenUnit) → Alike k j → step_line R n (last_line k) w ≡ step_line R n (last_line j) w
  unfolding last_line
  last_alike n k j w h = go (alike_cases k j h)
    where
      go : (k ≡ j) ⊎ ((kept_limit ≤ length k) × (kept_limit ≤ length j)) → step_line R n (last_line k) w ≡ step_line R n (last_line j) w
      go (inl e) = ap (λ s. step_line R n (last_line s) w) e
      go (inr l) =
          long-line n (last_line k) (last_line j) w (last-long k ∙ lt-ltb line_limit (length k) l.0) (last-long j ∙ lt-ltb line_limit (length j) l.1) (kind-last k j h)

  -- two scans alike: all but bytes past the 201st of the line that is kept
  pub record AlikeScan (s t : Scan) : Type 0 where
    pub kept : Alike s.kept t.kept
    pub lines : s.lines ≡ t.lines
    pub unit : s.unit ≡ t.unit

  pub byte_alike : (c : Bool) (s t : Scan) (b : ℕ) → AlikeScan s t → AlikeScan (byte_to R c s b) (byte_to R c t b)
  unfolding byte_to
  byte_alike true s t b h =
      record {
        kept = refl;
        lines = ap suc h.lines;
        unit = rw (h.lines, h.unit) (ap (λ x. x.unit) (ended_alike (suc t.lines) s.kept t.kept t.unit h.kept));
      }
  byte_alike false s t b h = record { kept = alike-snoc s.kept t.kept b h.kept; lines = h.lines; unit = h.unit }

  pub byte_events_alike : (c : Bool) (s t : Scan) → AlikeScan s t → byte_events R c s ≡ byte_events R c t
  unfolding byte_events
  byte_events_alike true s t h = rw (h.lines, h.unit) (ap (λ x. x.events) (ended_alike (suc t.lines) s.kept t.kept t.unit h.kept))
  byte_events_alike false s t h = refl

  pub scan_alike : (s t : Scan) (x : Bytes) → AlikeScan s t → AlikeScan (scan_to R s x) (scan_to R t x)
  unfolding scan_to
  scan_alike s t [] h = h
  scan_alike s t (b ∷ x) h = scan_alike (byte_to R (eqb b LF) s b) (byte_to R (eqb b LF) t b) x (byte_alike (eqb b LF) s t b h)

  pub events_alike : (s t : Scan) (x : Bytes) → AlikeScan s t → scan_events R s x ≡ scan_events R t x
  unfolding scan_events
  events_alike s t [] h = refl
  events_alike s t (b ∷ x) h =
      rw (byte_events_alike (eqb b LF) s t h, events_alike (byte_to R (eqb b LF) s b) (byte_to R (eqb b LF) t b) x (byte_alike (eqb b LF) s t b h))

  end_alike : (k j : Bytes) (n : ℕ) (w : OpenUnit) → Alike k j → end_at R k n w ≡ end_at R j n w
  unfolding end_at
  end_alike [] [] n w h = refl
  end_alike [] (c ∷ j) n w h = absurd (let z : ◌≡◌ {A = ℕ} 0 1 = cc in omega arith)
  end_alike (b ∷ k) [] n w h = absurd (let z : ◌≡◌ {A = ℕ} 0 1 = cc in omega arith)
  end_alike (b ∷ k) (c ∷ j) n w h = rw (last_alike (suc n) (b ∷ k) (c ∷ j) w h)

  pub finish_alike : (s t : Scan) → AlikeScan s t → end_events R s ≡ end_events R t
  unfolding end_events
  finish_alike s t h = rw (h.lines, h.unit) (end_alike s.kept t.kept t.lines t.unit h.kept)
