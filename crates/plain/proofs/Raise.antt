-- A file that stands k lines further down has the same events, k lines further down.
-- Assumes nothing.
use mathlib.Core.Bool.{Bool, true, false}
use mathlib.Core.List.{List, [], ◌∷◌, map}
use mathlib.Core.Path.{◌≡◌, refl, ap}
use Prim.Native.Nat.{ℕ, suc, ◌+◌}
use native.Mathlib.Nat.{add-suc}
use lib.Dec.{eqb}
use Rattle.text.specs.Byte.{Bytes}
use Rattle.lines.specs.Line.{LF, Line, ended_line, last_line, kind_of}
use Rattle.lines.specs.declared.line.Kind.{Kind}
use Rattle.lines.specs.declared.line.Kind.TheVariants.{Empty, Opener, Detail, Other}
use Rattle.plain.specs.Claim.{raise}
use Rattle.plain.specs.Loader.{OpenUnit, no_unit, takes_rows, waits, skips, Event, Step, close, settle, Scan, scan, step_kind, step_line, byte_to, byte_events, end_at, file_from}
use Rattle.plain.specs.Rows.{Row, refused_with, goes_on, complete, Rules}
use Rattle.plain.proofs.Pieces.{map-append, file-cons, file-nil}

module _ (k : ℕ) where
  abbrev pub raise_unit : OpenUnit → OpenUnit
  raise_unit no_unit = no_unit
  raise_unit (takes_rows f rows) = takes_rows (k + f) rows
  raise_unit (waits f l r) = waits (k + f) (k + l) r
  raise_unit skips = skips

  abbrev pub raise_event : Event → Event
  raise_event e = record { entry = raise k e.entry; load = e.load }

  abbrev pub raise_events : List Event → List Event
  raise_events es = map raise_event es

  abbrev pub raise_step : Step → Step
  raise_step s = record { unit = raise_unit s.unit; events = raise_events s.events }

  abbrev pub raise_scan : Scan → Scan
  raise_scan s = scan s.kept (k + s.lines) (raise_unit s.unit)

  close-raise : (n : ℕ) (w : OpenUnit) → close (k + n) (raise_unit w) ≡ raise_events (close n w)
  unfolding close raise
  close-raise n no_unit = refl
  close-raise n (takes_rows f rows) = refl
  close-raise n (waits f l r) = refl
  close-raise n skips = refl

  settle-raise : (f n : ℕ) (a : Row) → settle (k + f) (k + n) a ≡ raise_step (settle f n a)
  unfolding settle raise
  settle-raise f n (refused_with v m d) = refl
  settle-raise f n (goes_on rows) = refl
  settle-raise f n (complete r) = refl

  module _ (R : Rules) where
    kind-raise : (c : Kind) (n : ℕ) (l : Line) (w : OpenUnit) → step_kind R c (k + n) l (raise_unit w) ≡ raise_step (step_kind R c n l w)
    unfolding step_kind raise
    kind-raise Empty n l w = refl
    kind-raise Opener n l w = rw (settle-raise n n (R.row_one l), close-raise n w, map-append raise_event (close n w) (settle n n (R.row_one l)).events)
    kind-raise Detail n l no_unit = refl
    kind-raise Detail n l (takes_rows f rows) = settle-raise f n (R.row_next rows l)
    kind-raise Detail n l (waits f l' r) = refl
    kind-raise Detail n l skips = refl
    kind-raise Other n l no_unit = refl
    kind-raise Other n l (takes_rows f rows) = settle-raise f n (R.row_next rows l)
    kind-raise Other n l (waits f l' r) = refl
    kind-raise Other n l skips = refl

    line-raise : (n : ℕ) (l : Line) (w : OpenUnit) → step_line R (k + n) l (raise_unit w) ≡ raise_step (step_line R n l w)
    unfolding step_line
    line-raise n l w = kind-raise (kind_of l.body) n l w

    -- the loader asks for `suc` of the lines so far
    suc-raise : (n : ℕ) (l : Line) (w : OpenUnit) → step_line R (suc (k + n)) l (raise_unit w) ≡ raise_step (step_line R (suc n) l w)
    suc-raise n l w = rw (← add-suc k n) (line-raise (suc n) l w)

    byte_to-raise : (c : Bool) (s : Scan) (b : ℕ) → byte_to R c (raise_scan s) b ≡ raise_scan (byte_to R c s b)
    unfolding byte_to
    byte_to-raise true s b = rw (suc-raise s.lines (ended_line s.kept) s.unit, add-suc k s.lines)
    byte_to-raise false s b = refl

    byte_events-raise : (c : Bool) (s : Scan) → byte_events R c (raise_scan s) ≡ raise_events (byte_events R c s)
    unfolding byte_events
    byte_events-raise true s = ap (λ x. x.events) (suc-raise s.lines (ended_line s.kept) s.unit)
    byte_events-raise false s = refl

    end-raise : (kept : Bytes) (n : ℕ) (w : OpenUnit) → end_at R kept (k + n) (raise_unit w) ≡ raise_events (end_at R kept n w)
    unfolding end_at
    end-raise [] n w = rw (← add-suc k n) (close-raise (suc n) w)
    end-raise (b ∷ kept) n w =
        let st : Step = step_line R (suc n) (last_line (b ∷ kept)) w in
        rw (
          suc-raise n (last_line (b ∷ kept)) w,
          ← add-suc k n,
          ← add-suc k (suc n),
          close-raise (suc (suc n)) st.unit,
          map-append raise_event st.events (close (suc (suc n)) st.unit),
        )

    pub file-raise : (s : Scan) (f : Bytes) → file_from R (raise_scan s) f ≡ raise_events (file_from R s f)
    file-raise s [] = rw (file-nil R (raise_scan s), file-nil R s) (end-raise s.kept s.lines s.unit)
    file-raise s (b ∷ f) =
        let c : Bool = eqb b LF in
        rw (
          file-cons R (raise_scan s) b f,
          file-cons R s b f,
          byte_events-raise c s,
          byte_to-raise c s b,
          file-raise (byte_to R c s b) f,
          map-append raise_event (byte_events R c s) (file_from R (byte_to R c s b) f),
        )
