-- The clock times that stop a day: what callers ask of them, and that row one's day is then the day that start and stop share.
-- Assumes nothing.
use mathlib.Core.Path.{◌≡◌, refl}
use mathlib.Core.Bool.{Bool, true, false}
use Prim.Native.Nat.{ℕ, ◌+◌, ◌*◌, ◌<◌}
use native.Mathlib.Omega.{arith}
use lib.Dec.{eqb}
use borrow.Author.Tests.{eq-eqb, eqb-true, lt-ltb}
use Rattle.calendar.specs.Clock.{is_clock}
use Rattle.text.specs.Byte.{Bytes, ascii, equals}
use Rattle.text.proofs.Truth.{or_right}
use Rattle.report.specs.Outcome.{passed}
use Rattle.headers.specs.Time.{day_stop, last_second, time_of, is_below, stops_day, is_whole_day}
use Rattle.headers.specs.One.{day_of}

pub day_stop_stops : stops_day day_stop ≡ true
unfolding stops_day
day_stop_stops = refl

-- what holds of each holds of a time that stops a day
stop_by : (P : ℕ → Type 0) → P day_stop → P last_second → (clock : ℕ) → stops_day clock ≡ true → P clock
unfolding stops_day
stop_by P p q clock h = by_test (eqb clock day_stop) refl
  where
    by_test : (t : Bool) → eqb clock day_stop ≡ t → P clock
    by_test true e = rw (eqb-true clock day_stop e) p
    by_test false e = rw (eqb-true clock last_second (or_right (eqb clock day_stop) (eqb clock last_second) h e)) q

pub stop_clock : (clock : ℕ) → stops_day clock ≡ true → is_clock clock ≡ true
unfolding is_clock
stop_clock = stop_by (λ clock. is_clock clock ≡ true) refl refl

stop_late : (clock : ℕ) → stops_day clock ≡ true → 0 < clock
stop_late = stop_by (λ clock. 0 < clock) (omega arith) (omega arith)

pub day_spanned : (start stop : Bytes) (date clock : ℕ) → time_of start ≡ passed (record { date = date; clock = 0 }) → time_of stop ≡ passed (record { date = date; clock = clock })
    → stops_day clock ≡ true → day_of start stop (ascii "Y") (ascii "N") ≡ passed date
unfolding day_of equals is_below is_whole_day
day_spanned start stop date clock from to h =
    let late = stop_late clock h in
    rw (from, to, lt-ltb (date * 1000000 + 0) (date * 1000000 + clock) (omega arith), eq-eqb date date refl, h)
