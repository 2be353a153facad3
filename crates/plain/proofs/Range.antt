-- The first lines of a scan's events lie among the lines scanned; so the events of a stretch are told by their first lines.
-- Assumes nothing.
use mathlib.Core.Bool.{Bool, true, false, cond, and-false}
use mathlib.Core.List.{List, [], ◌∷◌, ◌++◌}
use mathlib.Core.Path.{◌≡◌, refl, ap}
use Prim.Native.Nat.{ℕ, suc, ◌+◌, ◌<◌, ◌≤◌}
use native.Mathlib.Omega.{arith}
use lib.Dec.{ltb}
use borrow.Author.Tests.{lt-ltb, le-ltb, le-leb, lt-leb}
use Rattle.text.specs.Byte.{Bytes}
use Rattle.plain.specs.Claim.{raise, begun_in, events_in}
use Rattle.plain.specs.Loader.{OpenUnit, Event, close, Scan, scan_to, scan_events, end_events, file_from}
use Rattle.plain.specs.Rows.{Load, Rows, Row, refused_with, goes_on, complete, Rules}
use Rattle.plain.proofs.Invariant.{EventsOk, UnitOk, RowOk, ok_append, close_ok, scan_ok, finish_ok}
use Rattle.plain.proofs.Lines.{lines-scan}
use Rattle.plain.proofs.Raise.{raise_events}

abbrev pub In : ℕ → ℕ → ℕ → Type 0
In a z f = (a < f) × (f ≤ z)

abbrev pub AnyRows : Rows → Type 0
AnyRows rows = Unit {0}

abbrev pub AnyLoad : Load → Type 0
AnyLoad l = Unit {0}

any_row : (a z : ℕ) (x : Row) → RowOk (In a z) AnyRows AnyLoad x
any_row a z (refused_with v m d) = tt
any_row a z (goes_on rows) = tt
any_row a z (complete r) = tt

-- first lines above a, up to z
abbrev pub Within : ℕ → ℕ → List Event → Type 0
Within a z es = EventsOk (In a z) AnyRows AnyLoad es

abbrev pub UnitWithin : ℕ → ℕ → OpenUnit → Type 0
UnitWithin a z w = UnitOk (In a z) AnyRows AnyLoad w

pub within-append : (a z : ℕ) (d e : List Event) → Within a z d → Within a z e → Within a z (d ++ e)
within-append a z d e h g = ok_append (In a z) AnyRows AnyLoad d e h g

pub close-within : (a z n : ℕ) (w : OpenUnit) → UnitWithin a z w → Within a z (close n w)
close-within a z n w h = close_ok (In a z) AnyRows AnyLoad n w h

module _ (R : Rules) where
  pub scan-within : (a z : ℕ) (s : Scan) (x : Bytes) → a ≤ s.lines → (scan_to R s x).lines ≤ z → UnitWithin a z s.unit
      → Within a z (scan_events R s x) × UnitWithin a z (scan_to R s x).unit
  scan-within a z s x h g k =
      scan_ok (In a z) AnyRows AnyLoad R (λ l. any_row a z (R.row_one l)) (λ rows l d. any_row a z (R.row_next rows l)) s x (λ n p q. omega arith) k

  -- a whole file's first lines are above the lines before it
  pub file-within : (a : ℕ) (s : Scan) (x : Bytes) → a ≤ s.lines → UnitWithin a (suc (scan_to R s x).lines) s.unit
      → Within a (suc (scan_to R s x).lines) (file_from R s x)
  unfolding file_from
  file-within a s x h k =
      let t : Scan = scan_to R s x in
      let z : ℕ = suc t.lines in
      let p : Within a z (scan_events R s x) × UnitWithin a z t.unit = scan-within a z s x h (omega arith) k in
      within-append a z (scan_events R s x) (end_events R t) p.0
      (finish_ok (In a z) AnyRows AnyLoad R (λ l. any_row a z (R.row_one l)) (λ rows l d. any_row a z (R.row_next rows l)) t
      (omega (arith, lines-scan R s x)) p.1)

module _ (a x : ℕ) where
  pub in_append : (d e : List Event) → events_in a x (d ++ e) ≡ events_in a x d ++ events_in a x e
  unfolding events_in
  in_append [] e = refl
  in_append (v ∷ d) e = go (begun_in a x v.entry) (in_append d e)
    where
      go : (c : Bool) → events_in a x (d ++ e) ≡ events_in a x d ++ events_in a x e
          → cond c (v ∷ events_in a x (d ++ e)) (events_in a x (d ++ e)) ≡ cond c (v ∷ events_in a x d) (events_in a x d) ++ events_in a x e
      go true h = ap (λ r. v ∷ r) h
      go false h = h

  pub in_below : (y : ℕ) (d : List Event) → Within y a d → events_in a x d ≡ []
  unfolding events_in begun_in
  in_below y [] h = refl
  in_below y (v ∷ d) h = rw (le-ltb a v.entry.first h.0.0.1) (in_below y d h.1)

  pub in_all : (d : List Event) → Within a (a + x) d → events_in a x d ≡ d
  unfolding events_in begun_in
  in_all [] h = refl
  in_all (v ∷ d) h = rw (lt-ltb a v.entry.first h.0.0.0, le-leb v.entry.first (a + x) h.0.0.1, in_all d h.1)

  pub in_above : (z : ℕ) (d : List Event) → Within 0 z d → events_in a x (raise_events (a + x) d) ≡ []
  unfolding events_in begun_in raise
  in_above z [] h = refl
  in_above z (v ∷ d) h = rw (lt-leb (a + x + v.entry.first) (a + x) (omega arith), and-false (ltb a (a + x + v.entry.first))) (in_above z d h.1)
