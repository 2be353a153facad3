-- The index of a registry, and the meter of an ESI ID, in the definition's words.
-- Assumes nothing.
use Rattle.std.specs.Prelude.{◌≡◌, List, [], ◌∷◌, Bool, cond, ℕ, suc, ◌+◌, ◌≤◌, ◌<◌, length, take, drop, get_or, Option, Some, None}
use Rattle.text.specs.Byte.{Bytes, equals}
use Rattle.text.specs.Identifier.{esi_id_size}
use Rattle.registry.specs.Entry.{owner_size, meter_size}
use Rattle.registry.specs.Registry.{Meter, Seen, is_registry, meters_of, window_is}
use Rattle.registry.specs.declared.entry.Window.{Window}
use Rattle.registry.specs.declared.Place.{Place}

-- the text of n bytes of the entry at a place, if there is one
abbrev pub bytes_at : ℕ → Bytes → Option ℕ → Bytes
bytes_at n reg None = []
bytes_at n reg (Some p) = take n (drop (p + 1) reg)

-- what is seen where the last owner and the last meter stand at these places
abbrev pub seen_at : Bytes → Option ℕ → Option ℕ → ℕ → Seen
seen_at reg owner last count = record { owner = bytes_at owner_size reg owner; last = bytes_at esi_id_size reg last; count = count }

abbrev pub no_meter : Meter
no_meter = record { id = []; flags = 0; owner = [] }

-- meter m, from 0
abbrev pub meter_at : Bytes → ℕ → Meter
meter_at reg m = get_or (meters_of reg) m no_meter

-- the entry of meter m stands at this place, whole
pub record MeterAt (reg : Bytes) (place : ℕ) (m : Meter) : Type 0 where
  pub whole : place + (meter_size + 1) ≤ length reg
  pub id : m.id ≡ take esi_id_size (drop (place + 1) reg)
  pub flags : m.flags ≡ get_or reg (place + meter_size) 0

-- the entry of meter m's owner stands at this place, whole
pub record OwnerAt (reg : Bytes) (place : ℕ) (m : Meter) : Type 0 where
  pub whole : place + (owner_size + 1) ≤ length reg
  pub owner : m.owner ≡ take owner_size (drop (place + 1) reg)

abbrev pub no_place : Place
no_place = record { meter = 0; owner = 0 }

-- what an index holds of its registry: whether it breaks no rule, its window, and the places of its meters and their owners
pub record Indexes (reg : Bytes) (sound : Bool) (window : Window) (count : ℕ) (places : List Place) : Type 0 where
  pub rules : sound ≡ is_registry reg
  pub windowed : window ≡ window_is reg
  pub counted : length (meters_of reg) ≡ count
  pub room : count ≤ length places
  pub meter : (m : ℕ) → m < count → MeterAt reg (get_or places m no_place).meter (meter_at reg m)
  pub owner : (m : ℕ) → m < count → OwnerAt reg (get_or places m no_place).owner (meter_at reg m)

abbrev pub onward : Option ℕ → Option ℕ
onward (Some i) = Some (suc i)
onward None = None

-- the place among the meters, from 0, of the one with this ESI ID, padded
unfoldable pub find_meter : Bytes → List Meter → Option ℕ
find_meter id [] = None
find_meter id (m ∷ ms) = cond (equals m.id id) (Some 0) (onward (find_meter id ms))
