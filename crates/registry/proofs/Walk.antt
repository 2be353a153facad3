-- The walk over a registry's entries: what the loop of `Index::of` keeps, how each entry moves it on, and the index at its end.
-- Assumes nothing.
use mathlib.Core.Path.{◌≡◌, refl, sym, ap, ◌∙◌}
use mathlib.Core.List.{List, [], ◌∷◌, ◌++◌, append_assoc, append-nil}
use mathlib.Core.Bool.{Bool, true, false, ◌&&◌}
use mathlib.Core.Logic.{⊎_elim}
use Rattle.std.specs.Prelude.{Option, Some, None, IfSome, IsSome, is_some}
use Prim.Native.Nat.{ℕ, zero, suc, ◌+◌, ◌≤◌, ◌<◌}
use native.Mathlib.Nat.{eq-or-lt_of_le}
use native.Mathlib.Omega.{arith}
use lib.ListN.{length, take, drop, get_or, set, length-append, length-drop, length-set, get_or-append}
use lib.Seq.{drop-drop, get_or-drop, get_or_at, get_or-set_same, get_or-set_other}
use lib.Dec.{ltb}
use borrow.Author.Tests.{ltb-true}
use Rattle.text.specs.Byte.{Bytes}
use Rattle.text.specs.Identifier.{esi_id_size}
use Rattle.text.proofs.Left.{left-cons, left-none}
use Rattle.text.proofs.Truth.{and_left, and_right}
use Rattle.padded.specs.Order.{below}
use Rattle.registry.specs.Entry.{window_size, owner_size, meter_size, start_of, entry_kind}
use Rattle.registry.specs.Registry.{Meter, Seen, max_meters, none_seen, with_owner, with_meter, in_order, meter_of, before, entries, start_with, registry_of, no_window, is_registry, meters_of, window_is}
use Rattle.registry.specs.Index.{bytes_at, seen_at, no_meter, no_place, MeterAt, OwnerAt, Indexes}
use Rattle.registry.specs.declared.Place.{Place}
use Rattle.registry.specs.declared.entry.Window.{Window}
use Rattle.registry.specs.declared.entry.Kind.{Kind}
use Rattle.registry.specs.declared.entry.Kind.TheVariants.{Owner, Meter as AMeter}
use Rattle.registry.proofs.Entries.{text-length}
use Rattle.registry.proofs.Opening.{start_fits}
use Rattle.registry.proofs.Reading.{owner-body, meter-body}
use Rattle.registry.proofs.Laws.{unsound_meters, unsound-window}

-- ---- one entry on

-- the bytes of the entry before are passed
skip : (n : ℕ) (s : Seen) (b : Bytes) → n ≤ length b → entries n s b ≡ entries 0 s (drop n b)
unfolding entries
skip zero s b h = refl
skip (suc n) s [] h = absurd (omega arith)
skip (suc n) s (x ∷ b) h = skip n s b (omega arith)

module _ (reg : Bytes) (at : ℕ) (h : at < length reg) where
  -- of an entry with a body of n bytes
  behind : (n : ℕ) (s : Seen) → at + n < length reg → entries n s (drop (at + 1) reg) ≡ entries 0 s (drop (at + (n + 1)) reg)
  behind n s l =
      let e : at + 1 + n ≡ at + (n + 1) = omega arith in
      skip n s (drop (at + 1) reg) (rw (length-drop (at + 1) reg) (omega arith)) ∙ rw (drop-drop n (at + 1) reg, e)

  kind-here : (k : Option Kind) → entry_kind (drop at reg) ≡ k → entry_kind (get_or reg at 0 ∷ drop (at + 1) reg) ≡ k
  kind-here k e = rw (left-cons reg at h) at e

  owner-fits : entry_kind (drop at reg) ≡ Some Owner → at + owner_size < length reg
  owner-fits e =
      omega (arith, rw (length-drop (at + 1) reg) at (owner-body (get_or reg at 0) (drop (at + 1) reg) (kind-here (Some Owner) e)).whole)

  meter-fits : entry_kind (drop at reg) ≡ Some AMeter → at + meter_size < length reg
  meter-fits e =
      omega (arith, rw (length-drop (at + 1) reg) at (meter-body (get_or reg at 0) (drop (at + 1) reg) (kind-here (Some AMeter) e)).whole)

  module _ (s : Seen) where
    at_broken : entry_kind (drop at reg) ≡ None → entries 0 s (drop at reg) ≡ None
    unfolding entries
    at_broken e = rw (left-cons reg at h, kind-here None e)

    at-owner : entry_kind (drop at reg) ≡ Some Owner → entries 0 s (drop at reg) ≡ entries 0 (with_owner (drop (at + 1) reg) s) (drop (at + (owner_size + 1)) reg)
    unfolding entries
    at-owner e = rw (left-cons reg at h, kind-here (Some Owner) e) (behind owner_size (with_owner (drop (at + 1) reg) s) (owner-fits e))

    at-meter : entry_kind (drop at reg) ≡ Some AMeter → in_order s (drop (at + 1) reg) ≡ true
        → entries 0 s (drop at reg) ≡ before (meter_of s (drop (at + 1) reg)) (entries 0 (with_meter (drop (at + 1) reg) s) (drop (at + (meter_size + 1)) reg))
    unfolding entries
    at-meter e o =
        rw (left-cons reg at h, kind-here (Some AMeter) e, o)
        (ap (before (meter_of s (drop (at + 1) reg))) (behind meter_size (with_meter (drop (at + 1) reg) s) (meter-fits e)))

    at_disorder : entry_kind (drop at reg) ≡ Some AMeter → in_order s (drop (at + 1) reg) ≡ false → entries 0 s (drop at reg) ≡ None
    unfolding entries
    at_disorder e o = rw (left-cons reg at h, kind-here (Some AMeter) e, o)

-- ---- WHAT THE LOOP KEEPS

-- the meters of the entries passed, before those of the rest
abbrev after : List Meter → Option (List Meter) → Option (List Meter)
after done None = None
after done (Some ms) = Some (done ++ ms)

after_none : (x : Option (List Meter)) → after [] x ≡ x
after_none None = refl
after_none (Some ms) = refl

after-before : (done : List Meter) (m : Meter) (x : Option (List Meter)) → after done (before m x) ≡ after (done ++ (m ∷ [])) x
after-before done m None = refl
after-before done m (Some ms) = ap {B = Option (List Meter)} Some (sym (append_assoc done (m ∷ []) ms))

pub record Walked (reg : Bytes) (window : Window) (places : List Place) (at : ℕ) (owner last : Option ℕ) (count : ℕ) : Type 0 where
  pub start : start_of reg ≡ Some window
  pub done : List Meter
  pub rest : entries (window_size + 1) none_seen reg ≡ after done (entries 0 (seen_at reg owner last count) (drop at reg))
  pub counted : length done ≡ count
  pub within : at ≤ length reg
  pub owner-whole : IfSome owner (λ p. p + owner_size < length reg)
  pub last-whole : IfSome last (λ p. p + meter_size < length reg)
  pub size : length places ≡ max_meters
  pub most : count ≤ max_meters
  pub meter-at : (m : ℕ) → m < count → MeterAt reg (get_or places m no_place).meter (get_or done m no_meter)
  pub owner_at : (m : ℕ) → m < count → OwnerAt reg (get_or places m no_place).owner (get_or done m no_meter)

-- behind the window the walk begins
pub walk_start : (reg : Bytes) (s : Option Window) (w : Window) (places : List Place) → s ≡ start_of reg → s ≡ Some w → length places ≡ max_meters
    → Walked reg w places (window_size + 1) None None 0
walk_start reg s w places es e size =
    let f : start_of reg ≡ Some w = sym es ∙ e in
    record {
      start = f;
      done = [];
      rest = skip (window_size + 1) none_seen reg (start_fits reg w f) ∙ sym (after_none (entries 0 none_seen (drop (window_size + 1) reg)));
      counted = refl;
      within = start_fits reg w f;
      owner-whole = tt;
      last-whole = tt;
      size = size;
      most = omega arith;
      meter-at = λ m h. absurd (omega arith);
      owner_at = λ m h. absurd (omega arith);
    }

-- one more place, of one more meter
module _ (P : Place → Meter → Type 0) (places : List Place) (done : List Meter) {count : ℕ} (place : Place) (m : Meter) (n : length done ≡ count)
    (room : count < length places) (each : (i : ℕ) → i < count → P (get_or places i no_place) (get_or done i no_meter)) (new : P place m) where
  one_more_lem : (i : ℕ) → i < count + 1 → P (get_or (set places count place) i no_place) (get_or (done ++ (m ∷ [])) i no_meter)
  one_more_lem i l = ⊎_elim last_one earlier (eq-or-lt_of_le (let k : i ≤ count = omega arith in k))
    where
      last_one : i ≡ count → P (get_or (set places count place) i no_place) (get_or (done ++ (m ∷ [])) i no_meter)
      last_one q = rw (q, get_or-set_same places count place no_place room, get_or_at done m [] no_meter count n) new

      earlier : i < count → P (get_or (set places count place) i no_place) (get_or (done ++ (m ∷ [])) i no_meter)
      earlier q =
          let d : i ≡ count → ⊥ = λ r. omega arith in
          rw (get_or-set_other places count i place no_place d, get_or-append done (m ∷ []) no_meter i (omega arith)) (each i q)

nothing : (s : Option Window) → start_with s None ≡ None
nothing None = refl
nothing (Some w) = refl

broken : (reg : Bytes) → registry_of reg ≡ None → is_registry reg ≡ false
unfolding is_registry
broken reg e = rw e

-- ---- WHETHER A METER MAY STAND at a place, as the code tests it

pub order-tested : (reg : Bytes) (owner last : Option ℕ) (count at : ℕ) → IfSome owner (λ p. p + owner_size < length reg)
    → (b : Bool) → b ≡ below (bytes_at esi_id_size reg last) (take esi_id_size (drop (at + 1) reg))
    → ((is_some owner && ltb count max_meters) && b) ≡ in_order (seen_at reg owner last count) (drop (at + 1) reg)
unfolding in_order
order-tested reg None last count at whole b e = refl
order-tested reg (Some p) last count at whole b e = rw (text-length reg p owner_size whole, e)

-- where it may, there is an owner, and room
module _ (reg : Bytes) (owner last : Option ℕ) (count at : ℕ) (o : in_order (seen_at reg owner last count) (drop (at + 1) reg) ≡ true) where
  abbrev owned : Bool
  owned = ltb 0 (length (bytes_at owner_size reg owner))

  tests : (owned && ltb count max_meters) ≡ true
  unfolding in_order
  tests = and_left (owned && ltb count max_meters) (below (bytes_at esi_id_size reg last) (take esi_id_size (drop (at + 1) reg))) o

  pub order-room : count < max_meters
  order-room = ltb-true count max_meters (and_right owned (ltb count max_meters) tests)

  pub order-owner : IsSome owner
  order-owner = go owner (and_left owned (ltb count max_meters) tests)
    where
      go : (x : Option ℕ) → ltb 0 (length (bytes_at owner_size reg x)) ≡ true → IsSome x
      go None e = absurd cc
      go (Some p) e = refl

module _ {reg : Bytes} {window : Window} {places : List Place} {at : ℕ} {owner last : Option ℕ} {count : ℕ} (w : Walked reg window places at owner last count)
    (h : at < length reg) (kind : Option Kind) (ek : kind ≡ entry_kind (drop at reg)) where
  -- a broken rule at a later entry breaks the registry
  stopped : entries 0 (seen_at reg owner last count) (drop at reg) ≡ None → is_registry reg ≡ false
  unfolding registry_of
  stopped e = broken reg (ap (start_with (start_of reg)) (w.rest ∙ ap (after w.done) e) ∙ nothing (start_of reg))

  pub walk_broken : kind ≡ None → is_registry reg ≡ false
  walk_broken e = stopped (at_broken reg at h (seen_at reg owner last count) (sym ek ∙ e))

  -- AN OWNER
  pub walk_owner : (k : Kind) → kind ≡ Some k → k ≡ Owner → Walked reg window places (at + (owner_size + 1)) (Some at) last count
  walk_owner k es e =
      let o : entry_kind (drop at reg) ≡ Some Owner = sym ek ∙ es ∙ ap Some e in
      record {
        start = w.start;
        done = w.done;
        rest = w.rest ∙ ap (after w.done) (at-owner reg at h (seen_at reg owner last count) o);
        counted = w.counted;
        within = omega (arith, owner-fits reg at h o);
        owner-whole = owner-fits reg at h o;
        last-whole = w.last-whole;
        size = w.size;
        most = w.most;
        meter-at = w.meter-at;
        owner_at = w.owner_at;
      }

  -- A METER
  module _ (k : Kind) (es : kind ≡ Some k) (em : k ≡ AMeter) where
    is-meter : entry_kind (drop at reg) ≡ Some AMeter
    is-meter = sym ek ∙ es ∙ ap Some em

    pub meter-whole : at + meter_size < length reg
    meter-whole = meter-fits reg at h is-meter

    disordered : in_order (seen_at reg owner last count) (drop (at + 1) reg) ≡ false → is_registry reg ≡ false
    disordered f = stopped (at_disorder reg at h (seen_at reg owner last count) is-meter f)

    module _ (b : Bool) (eb : b ≡ in_order (seen_at reg owner last count) (drop (at + 1) reg)) where
      pub walk_disorder : b ≡ false → is_registry reg ≡ false
      walk_disorder f = disordered (sym eb ∙ f)

      module _ (p : ℕ) (eo : owner ≡ Some p) (hb : b ≡ true) where
        order : in_order (seen_at reg owner last count) (drop (at + 1) reg) ≡ true
        order = sym eb ∙ hb

        room : count < max_meters
        room = order-room reg owner last count at order

        here : MeterAt reg at (meter_of (seen_at reg owner last count) (drop (at + 1) reg))
        here =
            let n : at + 1 + esi_id_size ≡ at + meter_size = omega arith in
            record {
              whole = omega (arith, meter-whole);
              id = refl;
              flags = get_or-drop (at + 1) reg esi_id_size 0 ∙ ap (λ (i : ℕ). get_or reg i 0) n;
            }

        theirs : OwnerAt reg p (meter_of (seen_at reg owner last count) (drop (at + 1) reg))
        theirs = let l : p + owner_size < length reg = rw eo at w.owner-whole in record { whole = omega arith; owner = rw eo }

        pub walk_meter : Walked reg window (set places count (record { meter = at; owner = p })) (at + (meter_size + 1)) owner (Some at) (count + 1)
        walk_meter =
            let m : Meter = meter_of (seen_at reg owner last count) (drop (at + 1) reg) in
            record {
              start = w.start;
              done = w.done ++ (m ∷ []);
              rest =
                  w.rest
                  ∙ ap (after w.done) (at-meter reg at h (seen_at reg owner last count) is-meter order)
                  ∙ after-before w.done m (entries 0 (with_meter (drop (at + 1) reg) (seen_at reg owner last count)) (drop (at + (meter_size + 1)) reg));
              counted = length-append w.done (m ∷ []) ∙ ap (λ (n : ℕ). n + 1) w.counted;
              within = omega (arith, meter-whole);
              owner-whole = w.owner-whole;
              last-whole = meter-whole;
              size = length-set places count _ ∙ w.size;
              most = omega (arith, room);
              meter-at = one_more_lem (λ q. MeterAt reg q.meter) places w.done (record { meter = at; owner = p }) m w.counted (omega (arith, room, w.size)) w.meter-at here;
              owner_at = one_more_lem (λ q. OwnerAt reg q.owner) places w.done (record { meter = at; owner = p }) m w.counted (omega (arith, room, w.size)) w.owner_at theirs;
            }

-- ---- WHAT IS RETURNED

pub start_broken : (reg : Bytes) (s : Option Window) → s ≡ start_of reg → s ≡ None → is_registry reg ≡ false
unfolding registry_of
start_broken reg s es e = broken reg (rw (sym es ∙ e))

module _ (reg : Bytes) (window : Window) (places : List Place) (count : ℕ) {at : ℕ} {owner last : Option ℕ} (w : Walked reg window places at owner last count) (h : length reg ≤ at) where
  whole : registry_of reg ≡ Some (record { window = window; meters = w.done })
  unfolding registry_of entries
  whole =
      let e : entries (window_size + 1) none_seen reg ≡ Some w.done = w.rest ∙ rw (left-none reg at h, append-nil) in
      rw (w.start, e)

  pub index-whole : Indexes reg true window count places
  unfolding is_registry meters_of window_is
  index-whole = record {
    rules = rw whole;
    windowed = rw whole;
    counted = rw whole w.counted;
    room = omega (arith, w.most, w.size);
    meter = λ m i. rw whole (w.meter-at m i);
    owner = λ m i. rw whole (w.owner_at m i);
  }

-- of a registry that breaks a rule
pub index-none : (reg : Bytes) (places : List Place) → is_registry reg ≡ false → Indexes reg false no_window 0 places
index-none reg places e = record {
  rules = sym e;
  windowed = sym (unsound-window reg e);
  counted = rw (unsound_meters reg e);
  room = omega arith;
  meter = λ m i. absurd (omega arith);
  owner = λ m i. absurd (omega arith);
}
