-- What a call returns: refusal 1 by the state's view, 2 to 5 by the registry and the lengths; and what a call that is not refused has.
-- Assumes nothing.
use mathlib.Core.Path.{◌≡◌, refl, sym, ◌∙◌}
use mathlib.Core.Bool.{Bool, true, false, cond, not, ◌||◌}
use Prim.Native.Nat.{ℕ, ◌+◌, ◌-◌, ◌<◌, ◌≤◌, ◌*◌}
use native.Mathlib.Omega.{arith}
use lib.Dec.{leb, ltb}
use lib.ListN.{length}
use borrow.Author.Tests.{lt-ltb, le-ltb, ltb-false, leb-true, leb-false, not-true}
use Rattle.lines.specs.Line.{kept_limit}
use Rattle.text.specs.Byte.{Bytes}
use Rattle.text.proofs.Truth.{apart}
use Rattle.registry.specs.Registry.{is_registry}
use Rattle.cell.specs.Layout.{width}
use Rattle.cells.specs.Address.{cells_of}
use Rattle.report.specs.Refusal.{done, bad_state, bad_registry, short_table, short_report, too_many_bytes}
use Rattle.plain.specs.Rows.{rules_of, max_details}
use Rattle.report.specs.Outcome.{Outcome, passed, number_of, require, ◌>>◌}
use Rattle.report.proofs.Passing.{test-passed}
use Rattle.cells.specs.Sound.{for_table}
use Rattle.plain.specs.Call.{byte_limit, room_for, refused_at, Asked, piece_of}
use Rattle.plain.specs.Promise.{details_in, overfull}
use Rattle.plain.proofs.Calls.{Allowed, allowed}
use Rattle.plain.proofs.Rules.{lawful}
use Rattle.units.specs.Answer.{unit_of}
use Rattle.records.specs.declared.Parts.{Parts}
use Rattle.state.specs.declared.State.{State}
use Rattle.state.specs.View.{view_of}
use Rattle.state.specs.Refused.{number_for}

or_right : (a b c d : Bool) → (((a || b) || c) || d) ≡ (a || (b || (c || d)))
or_right true b c d = refl
or_right false true c d = refl
or_right false false true d = refl
or_right false false false d = refl

-- 1, as the code tests it
pub overfull-tested : (s : State) (x : ℕ) → ((r : Parts) → x ≡ details_in (unit_of s.scan.unit r))
    → (((ltb kept_limit s.scan.held || ltb byte_limit s.taken) || ltb max_details x) || ltb s.taken s.scan.lines) ≡ overfull (view_of s)
unfolding overfull view_of
overfull-tested s x e =
    or_right (ltb kept_limit s.scan.held) (ltb byte_limit s.taken) (ltb max_details x) (ltb s.taken s.scan.lines)
    ∙ rw (e s.scan.parts)

-- ---- WHAT A STATE HOLDS that is not overfull

pub record Fits (s : State) : Type 0 where
  pub held : s.scan.held ≤ kept_limit
  pub taken : s.taken ≤ byte_limit
  pub details : details_in (unit_of s.scan.unit s.scan.parts) ≤ max_details
  pub lines : s.scan.lines ≤ s.taken

or_none : (a b c d : Bool) → (a || (b || (c || d))) ≡ false → (a ≡ false) × (b ≡ false) × (c ≡ false) × (d ≡ false)
or_none false false false false h = (refl, refl, refl, refl)
or_none true b c d h = absurd (apart (sym h))
or_none false true c d h = absurd (apart (sym h))
or_none false false true d h = absurd (apart (sym h))
or_none false false false true h = absurd (apart (sym h))

pub not_full : (s : State) → overfull (view_of s) ≡ false → Fits s
unfolding overfull view_of
not_full s h =
    let all = or_none (ltb kept_limit s.scan.held) (ltb byte_limit s.taken) (ltb max_details (details_in (unit_of s.scan.unit s.scan.parts)))
    (ltb s.taken s.scan.lines) h in
    record {
      held = ltb-false _ _ all.0;
      taken = ltb-false _ _ all.1;
      details = ltb-false _ _ all.2;
      lines = ltb-false _ _ all.3;
    }

-- so let the first test pass
pub tested-taken : (s : State) (full : Bool) → full ≡ overfull (view_of s) → passed tt ≡ require (not full) bad_state → s.taken ≤ byte_limit
tested-taken s full is e = (not_full s (sym is ∙ not-true full (test-passed (not full) bad_state e))).taken

-- ---- THE TESTS, one after the other

-- what is tested by its opposite
opposite : (a b c d : ℕ) → (a ≤ b → c ≤ d) → (b < a → d < c) → ltb d c ≡ not (leb a b)
opposite a b c d passes fails = go (leb a b) refl
  where
    go : (t : Bool) → leb a b ≡ t → ltb d c ≡ not t
    go true e = le-ltb d c (passes (leb-true a b e))
    go false e = lt-ltb d c (fails (leb-false a b e))

in_order : (p q r t : Bool)
    → cond (not p) bad_registry (cond q short_table (cond (not r) short_report (cond (not t) too_many_bytes done)))
    ≡ number_of (require p bad_registry >> require (not q) short_table >> (require r short_report >> require t too_many_bytes))
in_order false q r t = refl
in_order true true r t = refl
in_order true false false t = refl
in_order true false true false = refl
in_order true false true true = refl

module _ (s : State) (reg : Bytes) (size room n : ℕ) where
  abbrev tests : Outcome (Unit {0})
  tests = do
    require (not (overfull (view_of s))) bad_state
    for_table (is_registry reg) (cells_of reg) size
    require (leb (room_for n) room) short_report
    require (leb n (byte_limit - s.taken)) too_many_bytes

  pub number-tested : number_for s reg size room n ≡ number_of tests
  unfolding number_for refused_at rules_of for_table
  number-tested = go (overfull (view_of s)) refl
    where
      go : (full : Bool) → overfull (view_of s) ≡ full → number_for s reg size room n ≡ number_of tests
      go true e = rw e
      go false e =
          rw (
            e,
            opposite (room_for n) room (room_for n) room (λ h. h) (λ h. h),
            opposite n (byte_limit - s.taken) (s.taken + n) byte_limit (λ h. omega (arith, (not_full s e).taken)) (λ h. omega arith),
          )
          (in_order (is_registry reg) (ltb size (cells_of reg * width)) (leb (room_for n) room) (leb n (byte_limit - s.taken)))

-- ---- A CALL THAT IS NOT REFUSED

module _ (s : State) (reg : Bytes) (size room : ℕ) (a : Asked) (e : done ≡ number_for s reg size room (length (piece_of a))) where
  -- neither 1 nor 2 to 5
  not_overfull : overfull (view_of s) ≡ false
  unfolding number_for
  not_overfull = go (overfull (view_of s)) e
    where
      go : (b : Bool) → done ≡ cond b bad_state (refused_at (rules_of reg) size s.taken room (length (piece_of a))) → b ≡ false
      go true h = absurd (omega (arith, h))
      go false h = refl

  pub fits-state : Fits s
  fits-state = not_full s not_overfull

  pub is-allowed : Allowed (rules_of reg) (lawful reg) size s.taken (record { asked = a; room = room })
  unfolding number_for
  is-allowed = allowed (rules_of reg) (lawful reg) size s.taken (record { asked = a; room = room }) (sym (rw not_overfull at e))

  pub few_bytes : s.taken + length (piece_of a) ≤ byte_limit
  few_bytes = is-allowed.few

  pub room_enough : room_for (length (piece_of a)) ≤ room
  room_enough = is-allowed.room
