-- The registry checks pass what is written of a meter and a window day, and give both back.
-- Assumes nothing.
use mathlib.Core.Path.{◌≡◌, refl}
use mathlib.Core.Bool.{true}
use Rattle.std.specs.Prelude.{Some}
use Prim.Native.Nat.{ℕ, ◌+◌, ◌-◌, ◌<◌, ◌≤◌}
use native.Mathlib.Omega.{arith}
use borrow.Author.Tests.{le-leb, lt-ltb}
use Rattle.calendar.specs.Day.{last_day, date_of}
use Rattle.calendar.proofs.Laws.{date_real, number_of_date}
use Rattle.text.specs.Byte.{Bytes}
use Rattle.text.specs.Identifier.{esi_id_size}
use Rattle.text.proofs.Equal.{equals_refl}
use Rattle.report.specs.Outcome.{passed}
use Rattle.padded.specs.Padding.{pad, unpad}
use Rattle.padded.proofs.Unpad.{pad-unpad}
use Rattle.registry.specs.Entry.{owner_size}
use Rattle.registry.specs.Registry.{is_registry, meters_of, window_is}
use Rattle.registry.specs.Index.{meter_at, find_meter}
use Rattle.registry.specs.declared.entry.Window.{Window}
use Rattle.registry.proofs.Halves.{found-only}
use Rattle.registry.proofs.Laws.{meter-formed, sound-window}
use Rattle.checks.specs.Check.{Passed, has_flag, in_window, flag_checks, day_in, meter_checks, judge}
use Rattle.cells.specs.Address.{meter_count, day_count}
use Rattle.roundtrip.specs.RoundTrip.{loading_flags}

-- the day with this number is in the window
day-back : (w : Window) (d : ℕ) → w.first + w.days ≤ last_day + 1 → d < w.days → day_in w (date_of (w.first + d)) ≡ passed d
unfolding day_in in_window
day-back w d ends h =
    let low : w.first + d ≤ last_day = omega arith in
    let back : w.first + d - w.first ≡ d = omega arith in
    rw (
      date_real (w.first + d) low,
      number_of_date (w.first + d) low,
      le-leb w.first (w.first + d) (omega arith),
      lt-ltb (w.first + d) (w.first + w.days) (omega arith),
      back,
    )

flags-right : flag_checks loading_flags ≡ passed tt
unfolding flag_checks has_flag
flags-right = refl

module _ (reg : Bytes) (m d : ℕ) (sound : is_registry reg ≡ true) (known : m < meter_count reg) (inside : d < day_count reg)
    (loads : (meter_at reg m).flags ≡ loading_flags) where
  found : find_meter (pad esi_id_size (unpad (meter_at reg m).id)) (meters_of reg) ≡ Some m
  found =
      rw (pad-unpad esi_id_size (meter_at reg m).id (meter-formed reg m known).id-size)
      (found-only reg (meter_at reg m).id m known (equals_refl (meter_at reg m).id))

  checks : meter_checks (window_is reg) (meter_at reg m) (pad owner_size (unpad (meter_at reg m).owner)) (date_of ((window_is reg).first + d)) ≡ passed d
  unfolding meter_checks
  checks =
      rw (pad-unpad owner_size (meter_at reg m).owner (meter-formed reg m known).owner-size, equals_refl (meter_at reg m).owner, loads, flags-right)
      (day-back (window_is reg) d (sound-window reg sound).ends inside)

  pub meter-back : judge reg (pad esi_id_size (unpad (meter_at reg m).id)) (pad owner_size (unpad (meter_at reg m).owner)) (date_of ((window_is reg).first + d))
      ≡ Passed m d
  unfolding judge
  meter-back = rw (found, checks)
