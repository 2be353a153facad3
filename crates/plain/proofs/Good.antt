-- What is loaded fills its cell; a unit that takes rows holds no more detail rows than there can be.
-- Assumes nothing.
use mathlib.Core.Bool.{Bool, true, false, cond}
use mathlib.Core.List.{List, [], ◌∷◌, ◌++◌}
use mathlib.Core.Option.{Option, none, some}
use Prim.Native.Nat.{ℕ}
use Rattle.text.specs.Byte.{Bytes}
use Rattle.plain.specs.Loader.{OpenUnit, Event, Scan, with_load, loads_of, scan_to, scan_events, end_events}
use Rattle.plain.specs.Rows.{Load, Row, refused_with, goes_on, complete, Rules}
use Rattle.plain.specs.Table.{is_for, reads_for, Each}
use Rattle.plain.proofs.Invariant.{OptionOk, EventsOk, UnitOk, RowOk, ok_append, scan_ok, finish_ok}
use Rattle.plain.proofs.Latest.{Held}
use Rattle.plain.proofs.Lawful.{GoodLoad, GoodRows, GoodRow, Lawful}
use Rattle.plain.proofs.Loads.{AllWide}

module _ (R : Rules) where
  abbrev AnyLine : ℕ → Type 0
  AnyLine n = Unit {0}

  abbrev pub GoodOption : Option Load → Type 0
  GoodOption o = OptionOk AnyLine (GoodRows R) (GoodLoad R) o

  abbrev pub GoodEvents : List Event → Type 0
  GoodEvents es = EventsOk AnyLine (GoodRows R) (GoodLoad R) es

  abbrev pub GoodUnit : OpenUnit → Type 0
  GoodUnit w = UnitOk AnyLine (GoodRows R) (GoodLoad R) w

  pub good-append : (d e : List Event) → GoodEvents d → GoodEvents e → GoodEvents (d ++ e)
  good-append d e h g = ok_append AnyLine (GoodRows R) (GoodLoad R) d e h g

  row_ok : (x : Row) → GoodRow R x → RowOk AnyLine (GoodRows R) (GoodLoad R) x
  row_ok (refused_with v m d) h = tt
  row_ok (goes_on rows) h = h
  row_ok (complete r) h = h

  module _ (L : Lawful R) where
    pub scan_good : (s : Scan) (x : Bytes) → GoodUnit s.unit → GoodEvents (scan_events R s x) × GoodUnit (scan_to R s x).unit
    scan_good s x g =
        scan_ok AnyLine (GoodRows R) (GoodLoad R) R (λ l. row_ok (R.row_one l) (L.one l)) (λ rows l d. row_ok (R.row_next rows l) (L.next rows l d)) s x (λ n h k. tt) g

    pub finish-good : (s : Scan) → GoodUnit s.unit → GoodEvents (end_events R s)
    finish-good s g =
        finish_ok AnyLine (GoodRows R) (GoodLoad R) R (λ l. row_ok (R.row_one l) (L.one l)) (λ rows l d. row_ok (R.row_next rows l) (L.next rows l d)) s tt g

  -- what good events load
  with_wide : (o : Option Load) (ls : List Load) → GoodOption o → AllWide ls → AllWide (with_load o ls)
  with_wide none ls h g = g
  with_wide (some l) ls h g = (h.wide, g)

  pub good-wide : (es : List Event) → GoodEvents es → AllWide (loads_of es)
  unfolding loads_of
  good-wide [] h = tt
  good-wide (e ∷ es) h = with_wide e.load (loads_of es) h.0.1 (good-wide es h.1)

  with_held : (c : ℕ) (o : Option Load) (ls : List Load) → GoodOption o → Each Held (reads_for R c ls) → Each Held (reads_for R c (with_load o ls))
  unfolding reads_for Each
  with_held c none ls h g = g
  with_held c (some l) ls h g = go (is_for R c l)
    where
      go : (b : Bool) → Each Held (cond b (l.words ∷ reads_for R c ls) (reads_for R c ls))
      go true = (h.held, g)
      go false = g

  pub good-held : (c : ℕ) (es : List Event) → GoodEvents es → Each Held (reads_for R c (loads_of es))
  unfolding loads_of reads_for Each
  good-held c [] h = tt
  good-held c (e ∷ es) h = with_held c e.load (loads_of es) h.0.1 (good-held c es h.1)
