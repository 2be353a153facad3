-- The registry that bytes are: one walk over its entries. Document 01, "Registry and cells".
-- Assumes nothing.
use Rattle.std.specs.Prelude.{Option, Some, None, is_some, List, [], ◌∷◌, Bool, cond, ◌&&◌, ℕ, zero, suc, ◌+◌, ltb, length, take, get_or}
use Rattle.text.specs.Byte.{Bytes}
use Rattle.text.specs.Identifier.{esi_id_size}
use Rattle.padded.specs.Order.{below}
use Rattle.registry.specs.Entry.{window_size, owner_size, meter_size, start_of, entry_kind}
use Rattle.registry.specs.declared.entry.Window.{Window}
use Rattle.registry.specs.declared.entry.Kind.{Kind}
use Rattle.registry.specs.declared.entry.Kind.TheVariants.{Owner, Meter as AMeter}

-- A meter: its ESI ID as padded to 64 bytes, the sum of its flags, its owner's DUNS number as padded to 13.
pub record Meter : Type 0 where
  pub id : Bytes
  pub flags : ℕ
  pub owner : Bytes

pub record Registry : Type 0 where
  pub window : Window
  pub meters : List Meter

abbrev pub max_meters : ℕ
max_meters = 1000

-- What the entries so far mean for the next one: the last owner and the last ESI ID, each [] where there is none yet, and how many meters.
pub record Seen : Type 0 where
  pub owner : Bytes
  pub last : Bytes
  pub count : ℕ

abbrev pub none_seen : Seen
none_seen = record { owner = []; last = []; count = 0 }

abbrev pub with_owner : Bytes → Seen → Seen
with_owner b s = record { owner = take owner_size b; last = s.last; count = s.count }

abbrev pub with_meter : Bytes → Seen → Seen
with_meter b s = record { owner = s.owner; last = take esi_id_size b; count = s.count + 1 }

-- A meter may stand here: an owner is before it, there are not 1,000 yet, and its ESI ID comes after the last one.
unfoldable pub in_order : Seen → Bytes → Bool
in_order s b = ltb 0 (length s.owner) && ltb s.count max_meters && below s.last (take esi_id_size b)

-- the meter belongs to the last owner before it
abbrev pub meter_of : Seen → Bytes → Meter
meter_of s b = record { id = take esi_id_size b; flags = get_or b esi_id_size 0; owner = s.owner }

abbrev pub before : Meter → Option (List Meter) → Option (List Meter)
before m None = None
before m (Some ms) = Some (m ∷ ms)

abbrev pub by_kind : Option Kind → Option (List Meter) → Option (List Meter) → Option (List Meter)
by_kind None owner meter = None
by_kind (Some Owner) owner meter = owner
by_kind (Some AMeter) owner meter = meter

-- The meters of the entries from here on, or none where a rule is broken. The first n bytes belong to the entry before.
unfoldable pub entries : ℕ → Seen → Bytes → Option (List Meter)
entries zero s [] = Some []
entries (suc n) s [] = None
entries (suc n) s (b ∷ bs) = entries n s bs
entries zero s (kind ∷ b) =
    by_kind (entry_kind (kind ∷ b))
    (entries owner_size (with_owner b s) b)
    (cond (in_order s b) (before (meter_of s b) (entries meter_size (with_meter b s) b)) None)

abbrev pub start_with : Option Window → Option (List Meter) → Option Registry
start_with None x = None
start_with (Some w) None = None
start_with (Some w) (Some ms) = Some (record { window = w; meters = ms })

-- The registry, or none where the bytes break a rule. Kind 1 comes first, and once: `entries` knows no kind 1.
unfoldable pub registry_of : Bytes → Option Registry
registry_of b = start_with (start_of b) (entries (window_size + 1) none_seen b)

abbrev pub meters_in : Option Registry → List Meter
meters_in None = []
meters_in (Some r) = r.meters

abbrev pub no_window : Window
no_window = record { first = 0; days = 0 }

abbrev pub window_in : Option Registry → Window
window_in None = no_window
window_in (Some r) = r.window

-- whether the registry breaks no rule; its meters and its window, none of them where it does
unfoldable pub is_registry : Bytes → Bool
is_registry b = is_some (registry_of b)

unfoldable pub meters_of : Bytes → List Meter
meters_of b = meters_in (registry_of b)

unfoldable pub window_is : Bytes → Window
window_is b = window_in (registry_of b)
