-- A report of 2 + (piece length div 2) entries holds what a feed writes, and one of 2 what finish writes.
-- Assumes nothing.
use mathlib.Core.Bool.{Bool, true, false}
use mathlib.Core.List.{[], ◌∷◌, ◌++◌}
use mathlib.Core.Path.{◌≡◌, refl}
use Prim.Native.Nat.{ℕ, suc, ◌+◌, ◌*◌, ◌≤◌}
use native.Mathlib.Omega.{arith}
use lib.Dec.{eqb}
use lib.ListN.{length, length-append}
use Rattle.text.specs.Byte.{Bytes}
use Rattle.lines.specs.Line.{LF, Line, ended_line, last_line, drop_cr, kind_of}
use Rattle.lines.specs.declared.line.Kind.{Kind}
use Rattle.lines.specs.declared.line.Kind.TheVariants.{Empty, Opener, Detail, Other}
use Rattle.plain.specs.Call.{room_for}
use Rattle.plain.specs.Loader.{OpenUnit, no_unit, takes_rows, waits, skips, Step, close, settle, Scan, step_kind, step_line, byte_to, byte_events, scan_to, scan_events, end_at, end_events}
use Rattle.plain.specs.Rows.{Row, refused_with, goes_on, complete, Rules}

-- a unit whose verdict is still to fall
abbrev pending : OpenUnit → ℕ
pending no_unit = 0
pending (takes_rows f rows) = 1
pending (waits f l r) = 1
pending skips = 0

-- a line that is begun
abbrev begun : Bytes → ℕ
begun [] = 0
begun (b ∷ k) = 1

abbrev units : Kind → ℕ
units Empty = 0
units Opener = 1
units Detail = 1
units Other = 1

pending_le : (w : OpenUnit) → pending w ≤ 1
pending_le no_unit = omega arith
pending_le (takes_rows f rows) = omega arith
pending_le (waits f l r) = omega arith
pending_le skips = omega arith

begun_le : (k : Bytes) → begun k ≤ 1
begun_le [] = omega arith
begun_le (b ∷ k) = omega arith

units-le : (c : Kind) → units c ≤ 1
units-le Empty = omega arith
units-le Opener = omega arith
units-le Detail = omega arith
units-le Other = omega arith

units_ended : (k : Bytes) → units (kind_of (ended_line k).body) ≤ begun k
unfolding kind_of ended_line drop_cr
units_ended [] = omega arith
units_ended (b ∷ k) = units-le (kind_of (drop_cr (b ∷ k)))

close-room : (n : ℕ) (w : OpenUnit) → length (close n w) ≡ pending w
unfolding close
close-room n no_unit = refl
close-room n (takes_rows f rows) = refl
close-room n (waits f l r) = refl
close-room n skips = refl

settle-room : (f n : ℕ) (x : Row) → length (settle f n x).events + pending (settle f n x).unit ≡ 1
unfolding settle
settle-room f n (refused_with v m d) = refl
settle-room f n (goes_on rows) = refl
settle-room f n (complete r) = refl

module _ (R : Rules) where
  kind-room : (c : Kind) (n : ℕ) (l : Line) (w : OpenUnit)
      → length (step_kind R c n l w).events + pending (step_kind R c n l w).unit ≤ pending w + units c
  unfolding step_kind
  kind-room Empty n l w = omega arith
  kind-room Opener n l w = simp length-append (omega (arith, close-room n w, settle-room n n (R.row_one l)))
  kind-room Detail n l no_unit = omega arith
  kind-room Detail n l (takes_rows f rows) = omega (arith, settle-room f n (R.row_next rows l))
  kind-room Detail n l (waits f la r) = omega arith
  kind-room Detail n l skips = omega arith
  kind-room Other n l no_unit = omega arith
  kind-room Other n l (takes_rows f rows) = omega (arith, settle-room f n (R.row_next rows l))
  kind-room Other n l (waits f la r) = omega arith
  kind-room Other n l skips = omega arith

  line-room : (n : ℕ) (l : Line) (w : OpenUnit)
      → length (step_line R n l w).events + pending (step_line R n l w).unit ≤ pending w + units (kind_of l.body)
  unfolding step_line
  line-room n l w = kind-room (kind_of l.body) n l w

  -- twice the entries, against the bytes: a unit takes_rows two bytes, of which one may be kept from before
  byte-room : (c : Bool) (s : Scan) (b : ℕ)
      → 2 * length (byte_events R c s) + 2 * pending (byte_to R c s b).unit + begun (byte_to R c s b).kept
      ≤ 2 * pending s.unit + begun s.kept + 1
  unfolding byte_events byte_to
  byte-room true s b = omega (arith, line-room (suc s.lines) (ended_line s.kept) s.unit, units_ended s.kept, begun_le s.kept)
  byte-room false s b = omega (arith, begun_le (s.kept ++ (b ∷ [])))

  scan-room : (s : Scan) (x : Bytes)
      → 2 * length (scan_events R s x) + 2 * pending (scan_to R s x).unit + begun (scan_to R s x).kept
      ≤ 2 * pending s.unit + begun s.kept + length x
  unfolding scan_events scan_to
  scan-room s [] = omega arith
  scan-room s (b ∷ x) =
      let t : Scan = byte_to R (eqb b LF) s b in
      simp length-append (omega (arith, byte-room (eqb b LF) s b, scan-room t x))

  pub feed-room : (s : Scan) (x : Bytes) → length (scan_events R s x) ≤ room_for (length x)
  feed-room s x = omega (arith, scan-room s x, pending_le s.unit, begun_le s.kept)

  end-room : (k : Bytes) (n : ℕ) (w : OpenUnit) → length (end_at R k n w) ≤ room_for 0
  unfolding end_at
  end-room [] n w = omega (arith, close-room (suc n) w, pending_le w)
  end-room (b ∷ k) n w =
      let l : Line = last_line (b ∷ k) in
      let s : Step = step_line R (suc n) l w in
      simp length-append (omega (arith, line-room (suc n) l w, close-room (suc (suc n)) s.unit, pending_le w, units-le (kind_of l.body)))

  pub finish-room : (s : Scan) → length (end_events R s) ≤ room_for 0
  unfolding end_events
  finish-room s = end-room s.kept s.lines s.unit
