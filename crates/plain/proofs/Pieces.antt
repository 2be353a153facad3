-- Bytes scanned in pieces are the bytes scanned at once.
-- Assumes nothing.
use mathlib.Core.List.{List, [], ◌∷◌, ◌++◌, map, append_assoc}
use mathlib.Core.Option.{Option, none, some}
use mathlib.Core.Path.{◌≡◌, refl, ap}
use Prim.Native.Nat.{ℕ}
use lib.Dec.{eqb}
use Rattle.text.specs.Byte.{Bytes}
use Rattle.lines.specs.Line.{LF}
use Rattle.cell.specs.Layout.{Words}
use Rattle.plain.specs.Loader.{Event, Scan, entries_of, with_load, loads_of, byte_to, byte_events, scan_to, scan_events, end_at, end_events, file_from}
use Rattle.plain.specs.Rows.{Load, Rules}
use Rattle.plain.specs.Table.{load_one, load_all}

pub map-append : {A B : Type 0} (f : A → B) (s t : List A) → map f (s ++ t) ≡ map f s ++ map f t
map-append f [] t = refl
map-append f (x ∷ s) t = ap (λ r. f x ∷ r) (map-append f s t)

with_append : (o : Option Load) (k l : List Load) → with_load o (k ++ l) ≡ with_load o k ++ l
with_append none k l = refl
with_append (some x) k l = refl

module _ (R : Rules) where
  pub scan_to-append : (s : Scan) (p q : Bytes) → scan_to R s (p ++ q) ≡ scan_to R (scan_to R s p) q
  unfolding scan_to
  scan_to-append s [] q = refl
  scan_to-append s (b ∷ p) q = scan_to-append (byte_to R (eqb b LF) s b) p q

  pub scan_events-append : (s : Scan) (p q : Bytes) → scan_events R s (p ++ q) ≡ scan_events R s p ++ scan_events R (scan_to R s p) q
  unfolding scan_to scan_events
  scan_events-append s [] q = refl
  scan_events-append s (b ∷ p) q = rw (scan_events-append (byte_to R (eqb b LF) s b) p q, append_assoc)

  pub file-append : (s : Scan) (p q : Bytes) → file_from R s (p ++ q) ≡ scan_events R s p ++ file_from R (scan_to R s p) q
  unfolding file_from
  file-append s p q = rw (scan_events-append s p q, scan_to-append s p q, append_assoc)

  pub file-cons : (s : Scan) (b : ℕ) (q : Bytes) → file_from R s (b ∷ q) ≡ byte_events R (eqb b LF) s ++ file_from R (byte_to R (eqb b LF) s b) q
  unfolding file_from scan_to scan_events
  file-cons s b q = rw append_assoc

  pub entries-append : (d e : List Event) → entries_of (d ++ e) ≡ entries_of d ++ entries_of e
  unfolding entries_of
  entries-append d e = map-append (λ x. x.entry) d e

  pub loads-append : (d e : List Event) → loads_of (d ++ e) ≡ loads_of d ++ loads_of e
  unfolding loads_of
  loads-append [] e = refl
  loads-append (x ∷ d) e = rw (loads-append d e) (with_append x.load (loads_of d) (loads_of e))

  pub file-nil : (s : Scan) → file_from R s [] ≡ end_at R s.kept s.lines s.unit
  unfolding file_from scan_to scan_events end_events
  file-nil s = refl

  pub load_all-append : (t : Words) (k l : List Load) → load_all R t (k ++ l) ≡ load_all R (load_all R t k) l
  unfolding load_all
  load_all-append t [] l = refl
  load_all-append t (x ∷ k) l = load_all-append (load_one R t x) k l
