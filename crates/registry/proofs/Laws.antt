-- What holds of every registry: its window, how many meters it has and of what form, in ascending order.
-- Assumes nothing.
use mathlib.Core.Path.{◌≡◌, refl, sym}
use mathlib.Core.List.{List, [], ◌∷◌}
use mathlib.Core.Bool.{Bool, true, false}
use Rattle.std.specs.Prelude.{Option, Some, None, is_some}
use Prim.Native.Nat.{ℕ, zero, suc, ◌+◌, ◌≤◌, ◌<◌}
use native.Mathlib.Omega.{arith}
use lib.ListN.{length, take, get_or}
use lib.Seq.{length-take-le}
use Rattle.calendar.specs.Day.{last_day}
use Rattle.text.specs.Byte.{Bytes}
use Rattle.text.specs.Identifier.{esi_id_size}
use Rattle.text.proofs.Truth.{apart}
use Rattle.padded.specs.Order.{order}
use Rattle.padded.specs.Padding.{is_padded_esi_id, is_padded_duns}
use Rattle.std.specs.declared.cmp.Ordering.TheVariants.{Less}
use Rattle.padded.proofs.Bytewise.{order_trans}
use Rattle.registry.specs.Entry.{window_size, owner_size, max_days, all_flags, start_of}
use Rattle.registry.specs.Registry.{Registry, Meter, Seen, max_meters, none_seen, entries, start_with, registry_of, no_window, window_in, meters_in, is_registry, meters_of, window_is}
use Rattle.registry.specs.Index.{no_meter, meter_at}
use Rattle.registry.specs.declared.entry.Window.{Window}
use Rattle.registry.proofs.Opening.{Kept, start-kept}
use Rattle.registry.proofs.Reading.{Read, end, owner, meter, OwnerBody, meters-read}

-- ---- WHERE A RULE IS BROKEN there is no meter and no window.

pub unsound_meters : (reg : Bytes) → is_registry reg ≡ false → meters_of reg ≡ []
unfolding is_registry meters_of
unsound_meters reg = go (registry_of reg)
  where
    go : (x : Option Registry) → is_some x ≡ false → meters_in x ≡ []
    go None e = refl
    go (Some r) e = absurd (apart (sym e))

pub unsound-window : (reg : Bytes) → is_registry reg ≡ false → window_is reg ≡ no_window
unfolding is_registry window_is
unsound-window reg = go (registry_of reg)
  where
    go : (x : Option Registry) → is_some x ≡ false → window_in x ≡ no_window
    go None e = refl
    go (Some r) e = absurd (apart (sym e))

-- ---- WHERE NONE IS, the window has 1 to 62 days, up to 20991231.

pub sound-window : (reg : Bytes) → is_registry reg ≡ true → Kept (window_is reg)
unfolding is_registry window_is registry_of
sound-window reg = go (start_of reg) (entries (window_size + 1) none_seen reg) refl
  where
    go : (s : Option Window) (x : Option (List Meter)) → start_of reg ≡ s → is_some (start_with s x) ≡ true → Kept (window_in (start_with s x))
    go None x e f = absurd (apart f)
    go (Some w) None e f = absurd (apart f)
    go (Some w) (Some ms) e f = start-kept reg w e

-- none is longer or later, not even where a rule is broken
pub window-most : (reg : Bytes) → (window_is reg).days ≤ max_days
window-most reg = go (is_registry reg) refl
  where
    go : (t : Bool) → is_registry reg ≡ t → (window_is reg).days ≤ max_days
    go true e = (sound-window reg e).few
    go false e = rw (unsound-window reg e) (omega arith)

pub window-last : (reg : Bytes) → (window_is reg).first + (window_is reg).days ≤ last_day + 1
window-last reg = go (is_registry reg) refl
  where
    go : (t : Bool) → is_registry reg ≡ t → (window_is reg).first + (window_is reg).days ≤ last_day + 1
    go true e = (sound-window reg e).ends
    go false e = rw (unsound-window reg e) (omega arith)

-- ---- AT MOST 1,000 METERS

read-most : (s : Seen) (ms : List Meter) → Read s ms → s.count ≤ max_meters → s.count + length ms ≤ max_meters
read-most s ms end h = omega arith
read-most s ms (owner b o r) h = read-most _ _ r h
read-most s ms (meter b m o r) h = omega (arith, read-most _ _ r (omega (arith, o.room)))

pub meters-most : (reg : Bytes) → length (meters_of reg) ≤ max_meters
meters-most reg = omega (arith, read-most none_seen (meters_of reg) (meters-read reg) (omega arith))

-- ---- THE FORM OF A METER

pub record Formed (m : Meter) : Type 0 where
  pub id-size : length m.id ≡ esi_id_size
  pub id : is_padded_esi_id m.id ≡ true
  pub flags : m.flags ≤ all_flags
  pub owner-size : length m.owner ≡ owner_size
  pub owner : is_padded_duns m.owner ≡ true

-- the last owner, where there is one
record Held (o : Bytes) : Type 0 where
  size : 0 < length o → length o ≡ owner_size
  right : 0 < length o → is_padded_duns o ≡ true

held : (b : Bytes) → OwnerBody b → Held (take owner_size b)
held b o = record { size = λ h. length-take-le owner_size b o.whole; right = λ h. o.duns }

read-formed : (s : Seen) (ms : List Meter) → Read s ms → Held s.owner → (k : ℕ) → k < length ms → Formed (get_or ms k no_meter)
read-formed s ms end h k l = absurd (omega arith)
read-formed s ms (owner b o r) h k l = read-formed _ _ r (held b o) k l
read-formed s ms (meter b m o r) h zero l = record {
  id-size = length-take-le esi_id_size b (omega (arith, m.whole));
  id = m.id;
  flags = m.flags;
  owner-size = h.size o.owned;
  owner = h.right o.owned;
}
read-formed s ms (meter b m o r) h (suc k) l = read-formed _ _ r h k (omega arith)

pub meter-formed : (reg : Bytes) (k : ℕ) → k < length (meters_of reg) → Formed (meter_at reg k)
meter-formed reg k l =
    read-formed none_seen (meters_of reg) (meters-read reg) (record { size = λ h. absurd (omega arith); right = λ h. absurd (omega arith) }) k l

-- ---- THEY ASCEND by ESI ID.

-- each meter's ESI ID comes after the one before it, the first after `last`
abbrev Rising : Bytes → List Meter → Type 0
Rising last [] = Unit {0}
Rising last (m ∷ ms) = (order last m.id ≡ Less) × Rising m.id ms

rising : (s : Seen) (ms : List Meter) → Read s ms → Rising s.last ms
rising s ms end = tt
rising s ms (owner b o r) = rising _ _ r
rising s ms (meter b m o r) = (o.later, rising _ _ r)

rising-at : (last : Bytes) (ms : List Meter) → Rising last ms → (q : ℕ) → q < length ms → order last (get_or ms q no_meter).id ≡ Less
rising-at last [] r q l = absurd (omega arith)
rising-at last (m ∷ ms) r zero l = r.0
rising-at last (m ∷ ms) r (suc q) l = order_trans last m.id (get_or ms q no_meter).id r.0 (rising-at m.id ms r.1 q (omega arith))

rising-all : (last : Bytes) (ms : List Meter) → Rising last ms → (p q : ℕ) → p < q → q < length ms → order (get_or ms p no_meter).id (get_or ms q no_meter).id ≡ Less
rising-all last [] r p q h l = absurd (omega arith)
rising-all last (m ∷ ms) r p zero h l = absurd (omega arith)
rising-all last (m ∷ ms) r zero (suc q) h l = rising-at m.id ms r.1 q (omega arith)
rising-all last (m ∷ ms) r (suc p) (suc q) h l = rising-all m.id ms r.1 p q (omega arith) (omega arith)

pub meters_ascend : (reg : Bytes) (p q : ℕ) → p < q → q < length (meters_of reg) → order (meter_at reg p).id (meter_at reg q).id ≡ Less
meters_ascend reg p q h l = rising-all [] (meters_of reg) (rising none_seen (meters_of reg) (meters-read reg)) p q h l
