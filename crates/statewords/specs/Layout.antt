-- How a state crosses the border: as a run of 32-bit words. Any words of that length are some state.
-- Assumes nothing.
use Rattle.std.specs.Prelude.{[], ◌∷◌, ◌++◌, map, ℕ, zero, suc, ◌+◌, ◌*◌, ◌/◌, ◌%◌, ◌^◌, take, drop, get_or}
use Rattle.lines.specs.Line.{kept_limit}
use Rattle.text.specs.Byte.{Bytes}
use Rattle.text.specs.Identifier.{esi_id_size, duns_size}
use Rattle.headers.specs.One.{channel_number}
use Rattle.headers.specs.declared.one.Channel.{Channel}
use Rattle.headers.specs.declared.one.Channel.TheVariants.{Load, Generation}
use Rattle.cell.specs.Layout.{Words, width, word_bits}
use Rattle.units.specs.declared.Unit.{Unit}
use Rattle.units.specs.declared.Unit.TheVariants.{None, Takes, Waits, Skips}
use Rattle.state.specs.declared.State.{State}

-- The parts and where each begins: the bytes kept of a line, from place 0 on; three numbers, how many bytes are held and taken, and the line count;
-- the unit, its ESI ID, its Sender and the words of its cell.
abbrev pub numbers_size : ℕ
numbers_size = 5

abbrev pub unit_size : ℕ
unit_size = 7

abbrev pub numbers_at : ℕ
numbers_at = kept_limit

abbrev pub unit_at : ℕ
unit_at = numbers_at + numbers_size

abbrev pub id_at : ℕ
id_at = unit_at + unit_size

abbrev pub sender_at : ℕ
sender_at = id_at + esi_id_size

abbrev pub words_at : ℕ
words_at = sender_at + duns_size

abbrev pub state_words : ℕ
state_words = words_at + width

-- ---- THE STATE OF WORDS

abbrev pub part_at : ℕ → ℕ → Words → Words
part_at at n ws = take n (drop at ws)

-- a byte a word: its lowest eight bits
abbrev pub byte_in : ℕ → ℕ
byte_in w = w % 256

unfoldable pub bytes_in : Words → Bytes
bytes_in ws = map byte_in ws

-- a number of 64 bits, its low word first
unfoldable pub wide_in : Words → ℕ → ℕ
wide_in ws at = get_or ws at 0 + get_or ws (at + 1) 0 * 2 ^ word_bits

abbrev pub short_in : ℕ → ℕ
short_in w = w % 65536

abbrev pub channel_in : ℕ → Channel
channel_in zero = Load
channel_in (suc n) = Generation

-- kind 0 is none, 1 takes rows, 2 waits, any other skips; then first line, and what the kind has
abbrev pub unit_in : ℕ → ℕ → ℕ → ℕ → ℕ → ℕ → ℕ → Unit
unit_in zero first a b c d e = None
unit_in (suc zero) first a b c d e = Takes first (record { read = a; due = b; day = c; channel = channel_in e })
unit_in (suc (suc zero)) first a b c d e = Waits first a (record { meter = short_in b; offset = short_in c; day = d; channel = channel_in e })
unit_in (suc (suc (suc n))) first a b c d e = Skips

-- the unit of its seven words
unfoldable pub unit_from : Words → Unit
unit_from u = unit_in (get_or u 0 0) (get_or u 1 0) (get_or u 2 0) (get_or u 3 0) (get_or u 4 0) (get_or u 5 0) (get_or u 6 0)

-- the state of its parts
abbrev pub state_of : Words → Words → Words → Words → Words → Words → State
state_of kept numbers unit id sender words =
    record {
      scan = record {
        kept = bytes_in kept;
        held = wide_in numbers 0;
        lines = get_or numbers 4 0;
        unit = unit_from unit;
        parts = record { id = bytes_in id; sender = bytes_in sender; words = words };
      };
      taken = wide_in numbers 2;
    }

-- the state that words are
unfoldable pub state_in : Words → State
state_in ws =
    state_of (part_at 0 kept_limit ws) (part_at numbers_at numbers_size ws) (part_at unit_at unit_size ws) (part_at id_at esi_id_size ws)
    (part_at sender_at duns_size ws) (part_at words_at width ws)

-- ---- THE WORDS OF A STATE

-- low word first
abbrev pub wide_words : ℕ → Words
wide_words n = n % 2 ^ word_bits ∷ n / 2 ^ word_bits ∷ []

abbrev pub number_words : (held taken lines : ℕ) → Words
number_words held taken lines = wide_words held ++ wide_words taken ++ lines ∷ []

-- zeros where a kind has nothing
abbrev pub unit_words : Unit → Words
unit_words None = 0 ∷ 0 ∷ 0 ∷ 0 ∷ 0 ∷ 0 ∷ 0 ∷ []
unit_words (Takes first p) = 1 ∷ first ∷ p.read ∷ p.due ∷ p.day ∷ 0 ∷ channel_number p.channel ∷ []
unit_words (Waits first last r) = 2 ∷ first ∷ last ∷ r.meter ∷ r.offset ∷ r.day ∷ channel_number r.channel ∷ []
unit_words Skips = 3 ∷ 0 ∷ 0 ∷ 0 ∷ 0 ∷ 0 ∷ 0 ∷ []

-- the parts, one behind the other
unfoldable pub words_of : State → Words
words_of s =
    s.scan.kept
    ++ number_words s.scan.held s.taken s.scan.lines
    ++ unit_words s.scan.unit
    ++ s.scan.parts.id
    ++ s.scan.parts.sender
    ++ s.scan.parts.words
