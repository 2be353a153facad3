-- A record that passed the checks: its meter is one of the registry's, its day one of the window's.
-- Assumes nothing.
use mathlib.Core.Path.{◌≡◌, refl, ap, ◌∙◌}
use mathlib.Core.Bool.{◌&&◌}
use Prim.Native.Nat.{ℕ, ◌+◌, ◌-◌, ◌<◌}
use native.Mathlib.Omega.{arith}
use lib.ListN.{length}
use lib.Dec.{leb, ltb}
use borrow.Author.Tests.{leb-true, ltb-true}
use Rattle.calendar.specs.Date.{is_date}
use Rattle.calendar.specs.Day.{day_number}
use Rattle.text.specs.Byte.{Bytes, equals}
use Rattle.text.proofs.Truth.{and_left, and_right}
use Rattle.report.specs.Outcome.{Outcome, passed, refused, require}
use Rattle.report.specs.Verdict.{not_owner, outside_window}
use Rattle.report.proofs.Passing.{then_passed, require-passed}
use Rattle.registry.specs.Registry.{meters_of, window_is}
use Rattle.registry.specs.Index.{meter_at, find_meter}
use Rattle.registry.specs.declared.entry.Window.{Window}
use Rattle.std.specs.Prelude.{Option, Some, None}
use Rattle.registry.proofs.Halves.{found-meter}
use Rattle.checks.specs.Check.{in_window, flag_checks, day_in, meter_checks, Passed, of_meter, by_meter, judge}

day-within : (w : Window) (date d : ℕ) → day_in w date ≡ passed d → d < w.days
unfolding day_in in_window
day-within w date d e =
    let p = then_passed (require (in_window w date) outside_window) d (passed (day_number date - w.first)) e in
    let inside = require-passed (in_window w date) outside_window p.0 p.1 in
    let q : ◌≡◌ {A = Outcome ℕ} (passed (day_number date - w.first)) (passed d) = p.2 in
    let is : day_number date - w.first ≡ d = cc in
    let from = leb w.first (day_number date) in
    let to = ltb (day_number date) (w.first + w.days) in
    omega (
      arith,
      leb-true w.first (day_number date) (and_right (is_date date) from (and_left (is_date date && from) to inside)),
      ltb-true (day_number date) (w.first + w.days) (and_right (is_date date && from) to inside),
    )

module _ (reg id sender : Bytes) (date m d : ℕ) where
  -- the meter is found, and its checks give the window day
  abbrev pub Judged : Type 0
  Judged = (find_meter id (meters_of reg) ≡ Some m) × (meter_checks (window_is reg) (meter_at reg m) sender date ≡ passed d)

  pub judged : judge reg id sender date ≡ Passed m d → Judged
  unfolding judge
  judged = by-found (find_meter id (meters_of reg)) refl
    where
      by-checks : (n : ℕ) (o : Outcome ℕ) → find_meter id (meters_of reg) ≡ Some n
          → meter_checks (window_is reg) (meter_at reg n) sender date ≡ o → of_meter n o ≡ Passed m d → Judged
      by-checks n (passed x) f q e =
          let a : n ≡ m = cc in
          let b : x ≡ d = cc in
          (f ∙ ap Some a, rw (← a, ← b) q)
      by-checks n (refused v) f q e = absurd (let z : ◌≡◌ {A = ℕ} 0 1 = cc in omega arith)

      by-found : (f : Option ℕ) → find_meter id (meters_of reg) ≡ f → by_meter f reg sender date ≡ Passed m d → Judged
      by-found None f e = absurd (let z : ◌≡◌ {A = ℕ} 0 1 = cc in omega arith)
      by-found (Some n) f e = by-checks n (meter_checks (window_is reg) (meter_at reg n) sender date) f refl e

  pub judged-within : judge reg id sender date ≡ Passed m d → (m < length (meters_of reg)) × (d < (window_is reg).days)
  unfolding meter_checks
  judged-within e =
      let j : Judged = judged e in
      let owner = then_passed (require (equals (meter_at reg m).owner sender) not_owner) d _ j.1 in
      let flags = then_passed (flag_checks (meter_at reg m).flags) d (day_in (window_is reg) date) owner.2 in
      ((found-meter id (meters_of reg) m j.0).0, day-within (window_is reg) date d flags.2)
