-- A read that waits is loaded, by the tests of its address; any other unit loads nothing.
-- Assumes nothing.
use mathlib.Core.Path.{◌≡◌, refl}
use Prim.Native.Nat.{ℕ, ◌<◌, ◌≤◌}
use borrow.Author.Tests.{lt-ltb, le-ltb}
use Rattle.text.specs.Byte.{Bytes}
use Rattle.cell.specs.Layout.{Words}
use Rattle.reads.specs.Load.{loaded}
use Rattle.headers.specs.One.{channel_number}
use Rattle.cells.specs.Number.{channels}
use Rattle.cells.specs.Address.{meter_count, day_count, is_address, cell_of}
use Rattle.plain.specs.Rows.{rules_of}
use Rattle.plain.proofs.Rules.{channel-below}
use Rattle.plain.specs.Table.{load_one, load_all}
use Rattle.plain.specs.Loader.{close, loads_of}
use Rattle.records.specs.declared.Ready.{Ready}
use Rattle.records.specs.declared.Parts.{Parts}
use Rattle.units.specs.Answer.{unit_of}
use Rattle.units.specs.declared.Unit.{Unit as KeptUnit}
use Rattle.units.specs.declared.Unit.TheVariants.{None, Takes, Waits, Skips}

module _ (reg : Bytes) (parts : Parts) (t : Words) where
  abbrev EndsTo : KeptUnit → Words → Type 0
  EndsTo unit t' = (n : ℕ) → t' ≡ load_all (rules_of reg) t (loads_of (close n (unit_of unit parts)))

  pub none-waits : (unit : KeptUnit) → ((first last : ℕ) (ready : Ready) → unit ≡ Waits first last ready → ⊥) → EndsTo unit t
  unfolding close loads_of load_all
  none-waits None h n = refl
  none-waits (Takes first p) h n = refl
  none-waits (Waits first last ready) h n = absurd (h first last ready refl)
  none-waits Skips h n = refl

  module _ (unit : KeptUnit) (first last : ℕ) (ready : Ready) (is : unit ≡ Waits first last ready) (channel : ℕ)
      (c : channel ≡ channel_number ready.channel) where
    below : channel < channels
    below = rw c (channel-below ready.channel)

    pub load-in : (number : ℕ) (t' : Words) → ready.meter < meter_count reg → ready.offset < day_count reg
        → number ≡ cell_of reg ready.meter channel ready.offset → t' ≡ loaded t number parts.words → EndsTo unit t'
    unfolding close loads_of load_all load_one rules_of is_address
    load-in number t' m d e g n =
        rw (is, ← c, lt-ltb ready.meter (meter_count reg) m, lt-ltb channel channels below, lt-ltb ready.offset (day_count reg) d, ← e) g

    pub no-meter : meter_count reg ≤ ready.meter → EndsTo unit t
    unfolding close loads_of load_all load_one rules_of is_address
    no-meter m n = rw (is, le-ltb ready.meter (meter_count reg) m)

    pub no-day : ready.meter < meter_count reg → day_count reg ≤ ready.offset → EndsTo unit t
    unfolding close loads_of load_all load_one rules_of is_address
    no-day m d n = rw (is, ← c, lt-ltb ready.meter (meter_count reg) m, lt-ltb channel channels below, le-ltb ready.offset (day_count reg) d)
