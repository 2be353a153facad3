-- Entries of the registry: a kind byte, then a body. Document 01, "Registry and cells".
-- Assumes nothing.
use Rattle.std.specs.Prelude.{Option, Some, None, [], ◌∷◌, Bool, cond, ◌&&◌, ℕ, ◌+◌, ◌-◌, eqb, leb, length, take, drop, get_or}
use Rattle.calendar.specs.Date.{is_date}
use Rattle.calendar.specs.Day.{day_number, last_day}
use Rattle.text.specs.Byte.{Bytes, is_digit, every}
use Rattle.text.specs.Number.{number}
use Rattle.text.specs.Identifier.{esi_id_size, duns_size}
use Rattle.padded.specs.Padding.{is_padded_esi_id, is_padded_duns}
use Rattle.registry.specs.declared.entry.Window.{Window}
use Rattle.registry.specs.declared.entry.Kind.{Kind}
use Rattle.registry.specs.declared.entry.Kind.TheVariants.{Owner, Meter}

-- the bytes of each kind's body
abbrev pub window_size : ℕ
window_size = 10

abbrev pub owner_size : ℕ
owner_size = duns_size

abbrev pub meter_size : ℕ
meter_size = esi_id_size + 1

-- the longest window
abbrev pub max_days : ℕ
max_days = 62

-- the sum of all flags: 1 ERCOT reads it, 2 set up for interval data, 4 profile IDR
abbrev pub all_flags : ℕ
all_flags = 7

-- Kind 1: the window's first day YYYYMMDD and its number of days
abbrev pub first_text : Bytes → ℕ
first_text body = number (take 8 body)

abbrev pub days_text : Bytes → ℕ
days_text body = number (drop 8 body)

-- 10 digits: a real date from 2007, 01 to 62 days, ending by 20991231
unfoldable pub is_window : Bytes → Bool
is_window body =
    every is_digit body && is_date (first_text body) && leb 1 (days_text body) && leb (days_text body) max_days
    && leb (day_number (first_text body) + days_text body - 1) last_day

-- its first day by number, and its number of days
unfoldable pub window_of : Bytes → Window
window_of body = record { first = day_number (first_text body); days = days_text body }

-- Kind 3: an ESI ID, padded, then a byte of value 0 to 7, the sum of its flags
unfoldable pub is_meter : Bytes → Bool
is_meter body = is_padded_esi_id (take esi_id_size body) && leb (get_or body esi_id_size 0) all_flags

-- The window that the registry begins with: kind 1, whole and right, or none.
unfoldable pub start_of : Bytes → Option Window
start_of [] = None
start_of (kind ∷ b) =
    cond (eqb kind 1 && leb window_size (length b) && is_window (take window_size b)) (Some (window_of (take window_size b))) None

-- What stands at the head of the bytes behind it: an entry of kind 2 or 3, whole and right, or none. Kind 2 is an owner's DUNS, padded.
unfoldable pub entry_kind : Bytes → Option Kind
entry_kind [] = None
entry_kind (kind ∷ b) =
    cond (eqb kind 2) (cond (leb owner_size (length b) && is_padded_duns (take owner_size b)) (Some Owner) None)
    (cond (eqb kind 3) (cond (leb meter_size (length b) && is_meter (take meter_size b)) (Some Meter) None)
    None)
