-- One walk through the scan for every invariant of this shape: what holds of a unit's first line, of its rows, and of what it loads.
-- Assumes nothing.
use mathlib.Core.Bool.{Bool, true, false}
use mathlib.Core.List.{List, [], ◌∷◌, ◌++◌}
use mathlib.Core.Option.{Option, none, some}
use Prim.Native.Nat.{ℕ, suc, ◌<◌, ◌≤◌}
use native.Mathlib.Omega.{arith}
use lib.Dec.{eqb}
use Rattle.text.specs.Byte.{Bytes}
use Rattle.lines.specs.Line.{LF, Line, ended_line, last_line, kind_of}
use Rattle.lines.specs.declared.line.Kind.{Kind}
use Rattle.lines.specs.declared.line.Kind.TheVariants.{Empty, Opener, Detail, Other}
use Rattle.plain.specs.Loader.{OpenUnit, no_unit, takes_rows, waits, skips, Event, Step, close, settle, Scan, step_kind, step_line, byte_to, byte_events, scan_to, scan_events, end_at, end_events}
use Rattle.plain.specs.Rows.{Load, Rows, Row, refused_with, goes_on, complete, Rules}
use Rattle.plain.proofs.Lines.{lines-scan}

-- U of first lines, D of rows, O of loads
module _ (U : ℕ → Type 0) (D : Rows → Type 0) (O : Load → Type 0) where
  abbrev pub OptionOk : Option Load → Type 0
  OptionOk none = Unit {0}
  OptionOk (some l) = O l

  abbrev pub EventsOk : List Event → Type 0
  EventsOk [] = Unit {0}
  EventsOk (e ∷ es) = (U e.entry.first × OptionOk e.load) × EventsOk es

  abbrev pub UnitOk : OpenUnit → Type 0
  UnitOk no_unit = Unit {0}
  UnitOk (takes_rows f rows) = U f × D rows
  UnitOk (waits f l r) = U f × O r.load
  UnitOk skips = Unit {0}

  abbrev pub RowOk : Row → Type 0
  RowOk (refused_with v m d) = Unit {0}
  RowOk (goes_on rows) = D rows
  RowOk (complete r) = O r.load

  abbrev StepOk : Step → Type 0
  StepOk s = EventsOk s.events × UnitOk s.unit

  pub ok_append : (d e : List Event) → EventsOk d → EventsOk e → EventsOk (d ++ e)
  ok_append [] e h g = g
  ok_append (x ∷ d) e h g = (h.0, ok_append d e h.1 g)

  pub close_ok : (n : ℕ) (w : OpenUnit) → UnitOk w → EventsOk (close n w)
  unfolding close
  close_ok n no_unit h = tt
  close_ok n (takes_rows f rows) h = ((h.0, tt), tt)
  close_ok n (waits f l r) h = (h, tt)
  close_ok n skips h = tt

  settle_ok : (f n : ℕ) (x : Row) → U f → RowOk x → StepOk (settle f n x)
  unfolding settle
  settle_ok f n (refused_with v m d) u h = (((u, tt), tt), tt)
  settle_ok f n (goes_on rows) u h = (tt, (u, h))
  settle_ok f n (complete r) u h = (tt, (u, h))

  module _ (R : Rules) (one : (l : Line) → RowOk (R.row_one l)) (next : (rows : Rows) (l : Line) → D rows → RowOk (R.row_next rows l)) where
    kind_ok : (c : Kind) (n : ℕ) (l : Line) (w : OpenUnit) → U n → UnitOk w → StepOk (step_kind R c n l w)
    unfolding step_kind
    kind_ok Empty n l w u g = (tt, g)
    kind_ok Opener n l w u g =
        let s : StepOk (settle n n (R.row_one l)) = settle_ok n n (R.row_one l) u (one l) in
        (ok_append (close n w) (settle n n (R.row_one l)).events (close_ok n w g) s.0, s.1)
    kind_ok Detail n l no_unit u g = (((u, tt), tt), tt)
    kind_ok Detail n l (takes_rows f rows) u g = settle_ok f n (R.row_next rows l) g.0 (next rows l g.1)
    kind_ok Detail n l (waits f la r) u g = (((g.0, tt), tt), tt)
    kind_ok Detail n l skips u g = (tt, tt)
    kind_ok Other n l no_unit u g = (((u, tt), tt), tt)
    kind_ok Other n l (takes_rows f rows) u g = settle_ok f n (R.row_next rows l) g.0 (next rows l g.1)
    kind_ok Other n l (waits f la r) u g = ((g, ((u, tt), tt)), tt)
    kind_ok Other n l skips u g = (tt, tt)

    line_ok : (n : ℕ) (l : Line) (w : OpenUnit) → U n → UnitOk w → StepOk (step_line R n l w)
    unfolding step_line
    line_ok n l w u g = kind_ok (kind_of l.body) n l w u g

    byte_ok : (c : Bool) (s : Scan) (b : ℕ) → ((n : ℕ) → s.lines < n → n ≤ (byte_to R c s b).lines → U n) → UnitOk s.unit
        → EventsOk (byte_events R c s) × UnitOk (byte_to R c s b).unit
    unfolding byte_events byte_to
    byte_ok true s b u g = line_ok (suc s.lines) (ended_line s.kept) s.unit (u (suc s.lines) (omega arith) (omega arith)) g
    byte_ok false s b u g = (tt, g)

    byte-lines : (c : Bool) (s : Scan) (b : ℕ) → s.lines ≤ (byte_to R c s b).lines
    unfolding byte_to
    byte-lines true s b = omega arith
    byte-lines false s b = omega arith

    pub scan_ok : (s : Scan) (x : Bytes) → ((n : ℕ) → s.lines < n → n ≤ (scan_to R s x).lines → U n) → UnitOk s.unit
        → EventsOk (scan_events R s x) × UnitOk (scan_to R s x).unit
    unfolding scan_to scan_events
    scan_ok s [] u g = (tt, g)
    scan_ok s (b ∷ x) u g =
        let c : Bool = eqb b LF in
        let t : Scan = byte_to R c s b in
        let m : t.lines ≤ (scan_to R t x).lines = omega (arith, lines-scan R t x) in
        let p : EventsOk (byte_events R c s) × UnitOk t.unit = byte_ok c s b (λ n h k. u n h (omega arith)) g in
        let q : EventsOk (scan_events R t x) × UnitOk (scan_to R t x).unit = scan_ok t x (λ n h k. u n (omega (arith, byte-lines c s b)) k) p.1 in
        (ok_append (byte_events R c s) (scan_events R t x) p.0 q.0, q.1)

    end_ok : (k : Bytes) (n : ℕ) (w : OpenUnit) → U (suc n) → UnitOk w → EventsOk (end_at R k n w)
    unfolding end_at
    end_ok [] n w u q = close_ok (suc n) w q
    end_ok (b ∷ k) n w u q =
        let s : Step = step_line R (suc n) (last_line (b ∷ k)) w in
        let p : StepOk s = line_ok (suc n) (last_line (b ∷ k)) w u q in
        ok_append s.events (close (suc (suc n)) s.unit) p.0 (close_ok (suc (suc n)) s.unit p.1)

    pub finish_ok : (s : Scan) → U (suc s.lines) → UnitOk s.unit → EventsOk (end_events R s)
    unfolding end_events
    finish_ok s u g = end_ok s.kept s.lines s.unit u g
