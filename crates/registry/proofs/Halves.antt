-- The meter with an ESI ID among ascending meters: by halves, and by a hint. And what an entry's bytes tell of its meter.
-- Assumes nothing.
use mathlib.Core.Path.{◌≡◌, refl, sym, ap, ◌∙◌}
use mathlib.Core.List.{List, [], ◌∷◌}
use mathlib.Core.Bool.{Bool, true, false, cond}
use mathlib.Core.Logic.{⊎_elim}
use Prim.Native.Nat.{ℕ, zero, suc, ◌+◌, ◌-◌, ◌/◌, ◌≤◌, ◌<◌}
use native.Mathlib.Nat.{eq-or-lt_of_le}
use native.Mathlib.Omega.{arith}
use lib.Dec.{ltb}
use lib.ListN.{length, get_or}
use borrow.Author.Tests.{ltb-true, ltb-false}
use Rattle.text.specs.Byte.{Bytes, equals}
use Rattle.text.proofs.Equal.{equals_path}
use Rattle.padded.specs.Order.{order}
use Rattle.std.specs.declared.cmp.Ordering.{Ordering}
use Rattle.std.specs.declared.cmp.Ordering.TheVariants.{Less, Equal, Greater}
use Rattle.padded.proofs.Bytewise.{equal_by, flipped, order_trans}
use Rattle.registry.specs.Registry.{Meter, meters_of}
use Rattle.registry.specs.Index.{no_meter, meter_at, find_meter, onward}
use Rattle.std.specs.Prelude.{Option, Some, None}
use Rattle.registry.proofs.Laws.{meters_ascend}

-- ---- THE FIRST METER WITH AN ESI ID

module _ (id : Bytes) where
  found_at : (ms : List Meter) (i : ℕ) → i < length ms → ((k : ℕ) → k < i → equals (get_or ms k no_meter).id id ≡ false)
      → equals (get_or ms i no_meter).id id ≡ true → find_meter id ms ≡ Some i
  unfolding find_meter
  found_at [] i l f e = absurd (omega arith)
  found_at (m ∷ ms) zero l f e = rw e
  found_at (m ∷ ms) (suc i) l f e =
      rw (f 0 (omega arith)) (ap onward (found_at ms i (omega arith) (λ k h. f (suc k) (omega arith)) e))

  not_found : (ms : List Meter) → ((k : ℕ) → k < length ms → equals (get_or ms k no_meter).id id ≡ false) → find_meter id ms ≡ None
  unfolding find_meter
  not_found [] f = refl
  not_found (m ∷ ms) f = rw (f 0 (omega arith)) (ap onward (not_found ms (λ k h. f (suc k) (omega arith))))

  -- it is one of the meters, and has that ESI ID
  pub found-meter : (ms : List Meter) (i : ℕ) → find_meter id ms ≡ Some i → (i < length ms) × (equals (get_or ms i no_meter).id id ≡ true)
  unfolding find_meter
  found-meter [] i e = let n : ◌≡◌ {A = ℕ} 0 1 = cc in absurd (omega arith)
  found-meter (m ∷ ms) i e = go (equals m.id id) refl (find_meter id ms) e (found-meter ms)
    where
      go : (t : Bool) → equals m.id id ≡ t → (f : Option ℕ) → cond t (Some 0) (onward f) ≡ Some i
          → ((j : ℕ) → f ≡ Some j → (j < length ms) × (equals (get_or ms j no_meter).id id ≡ true))
          → (i < suc (length ms)) × (equals (get_or (m ∷ ms) i no_meter).id id ≡ true)
      go true q f h ih = let z : i ≡ 0 = cc in rw z (omega arith, q)
      go false q (Some j) h ih = let z : i ≡ suc j = cc in rw z (omega (arith, (ih j refl).0), (ih j refl).1)
      go false q None h ih = let n : ◌≡◌ {A = ℕ} 0 1 = cc in absurd (omega arith)

  -- where it is unknown, no meter has it
  pub unknown_meter_lem : (ms : List Meter) → find_meter id ms ≡ None → (k : ℕ) → k < length ms → equals (get_or ms k no_meter).id id ≡ false
  unfolding find_meter
  unknown_meter_lem [] e k l = absurd (omega arith)
  unknown_meter_lem (m ∷ ms) e k l = go (equals m.id id) refl (find_meter id ms) e (unknown_meter_lem ms) k l
    where
      go : (t : Bool) → equals m.id id ≡ t → (f : Option ℕ) → cond t (Some 0) (onward f) ≡ None
          → (f ≡ None → (k : ℕ) → k < length ms → equals (get_or ms k no_meter).id id ≡ false)
          → (k : ℕ) → k < suc (length ms) → equals (get_or (m ∷ ms) k no_meter).id id ≡ false
      go true q f h ih k l = let n : ◌≡◌ {A = ℕ} 0 1 = cc in absurd (omega arith)
      go false q (Some j) h ih k l = let n : ◌≡◌ {A = ℕ} 0 1 = cc in absurd (omega arith)
      go false q None h ih zero l = q
      go false q None h ih (suc k) l = ih refl k (omega arith)

-- A METER WITH THIS ESI ID is the one, for there is no other.
pub found-only : (reg id : Bytes) (i : ℕ) → i < length (meters_of reg) → equals (meter_at reg i).id id ≡ true → find_meter id (meters_of reg) ≡ Some i
found-only reg id i l e =
    let f : (meter_at reg i).id ≡ id = equals_path (meter_at reg i).id id e in
    found_at id (meters_of reg) i l (λ k h. equal_by (meter_at reg k).id id Less (rw f at (meters_ascend reg k i h l))) e

-- the hint is right
pub hint_right : (reg : Bytes) (i : ℕ) → i < length (meters_of reg) → (t id : Bytes) → t ≡ (meter_at reg i).id → (r : Bool) → r ≡ equals t id → r ≡ true
    → Some i ≡ find_meter id (meters_of reg)
hint_right reg i l t id et r er g = sym (found-only reg id i l (rw et at (sym er ∙ g)))

-- ---- BY HALVES

-- every meter before `low` comes before the ESI ID, and every one from `high` on after it
pub record Bracket (reg id : Bytes) (low high : ℕ) : Type 0 where
  pub low-to : low ≤ high
  pub high-to : high ≤ length (meters_of reg)
  pub before : (k : ℕ) → k < low → order (meter_at reg k).id id ≡ Less
  pub after : (k : ℕ) → high ≤ k → k < length (meters_of reg) → order (meter_at reg k).id id ≡ Greater

pub bracket_all : (reg id : Bytes) (count : ℕ) → length (meters_of reg) ≡ count → Bracket reg id 0 count
bracket_all reg id count n = record {
  low-to = omega arith;
  high-to = omega (arith, n);
  before = λ k h. absurd (omega arith);
  after = λ k h l. absurd (omega (arith, n));
}

-- the middle of a part that is not empty
pub middle-from : (low high : ℕ) → low < high → low ≤ low + (high - low) / 2
middle-from low high h = omega arith

pub middle-below : (low high : ℕ) → low < high → low + (high - low) / 2 < high
middle-below low high h = omega arith

module _ (reg id : Bytes) (low high : ℕ) (b : Bracket reg id low high) where
  pub middle-within : low < high → low + (high - low) / 2 < length (meters_of reg)
  middle-within h = omega (arith, b.high-to)

  -- the ends have met
  pub bracket_none : high ≤ low → None ≡ find_meter id (meters_of reg)
  bracket_none h = sym (not_found id (meters_of reg) (λ k l. go k l (ltb k low) refl))
    where
      go : (k : ℕ) → k < length (meters_of reg) → (x : Bool) → ltb k low ≡ x → equals (meter_at reg k).id id ≡ false
      go k l true e = equal_by (meter_at reg k).id id Less (b.before k (ltb-true k low e))
      go k l false e = equal_by (meter_at reg k).id id Greater (b.after k (omega (arith, ltb-false k low e)) l)

  module _ (m : ℕ) (lm : low ≤ m) (mh : m < high) (t : Bytes) (et : t ≡ (meter_at reg m).id) (o : Ordering) (eo : o ≡ order t id) where
    here : order (meter_at reg m).id id ≡ o
    here = sym (eo ∙ rw et)

    pub bracket_found : o ≡ Equal → Some m ≡ find_meter id (meters_of reg)
    bracket_found e = sym (found-only reg id m (omega (arith, b.high-to)) (equal_by (meter_at reg m).id id Equal (here ∙ e)))

    pub bracket_up : o ≡ Less → Bracket reg id (m + 1) high
    bracket_up e = record {
      low-to = omega arith;
      high-to = b.high-to;
      before = λ k h. ⊎_elim
          (λ (q : k ≡ m). rw q (here ∙ e))
          (λ (q : k < m). order_trans (meter_at reg k).id (meter_at reg m).id id
          (meters_ascend reg k m q (omega (arith, b.high-to))) (here ∙ e))
          (eq-or-lt_of_le (let g : k ≤ m = omega arith in g));
      after = b.after;
    }

    pub bracket_down : o ≡ Greater → Bracket reg id low m
    bracket_down e = record {
      low-to = lm;
      high-to = omega (arith, b.high-to);
      before = b.before;
      after = λ k h l. ⊎_elim
          (λ (q : m ≡ k). rw q at (here ∙ e))
          (λ (q : m < k). flipped id (meter_at reg k).id Less
          (order_trans id (meter_at reg m).id (meter_at reg k).id
          (flipped (meter_at reg m).id id Greater (here ∙ e)) (meters_ascend reg m k q l)))
          (eq-or-lt_of_le h);
    }
