-- What Write answers, by the tests that lead to it.
-- Assumes nothing.
use mathlib.Core.Path.{◌≡◌, sym}
use mathlib.Core.List.{[]}
use mathlib.Core.Bool.{Bool, true, ◌&&◌}
use Prim.Native.Nat.{ℕ, ◌+◌, ◌≤◌}
use native.Mathlib.Omega.{arith}
use lib.Dec.{leb}
use lib.ListN.{length}
use borrow.Author.Tests.{leb-true}
use Rattle.calendar.specs.Day.{last_day}
use Rattle.calendar.specs.Answer.{date_is}
use Rattle.calendar.proofs.Laws.{date_is_lem}
use Rattle.text.specs.Byte.{Bytes, every, is_alnum}
use Rattle.text.specs.Identifier.{esi_id_size, duns_size, descriptor_size, is_name, is_descriptor}
use Rattle.text.proofs.Truth.{and_left, and_right, fits-tested}
use Rattle.report.specs.Outcome.{passed, require, ◌>>◌}
use Rattle.report.specs.Refusal.{short_output}
use Rattle.padded.specs.Padding.{unpad}
use Rattle.padded.proofs.Unpad.{unpad-within}
use Rattle.registry.specs.Registry.{window_is}
use Rattle.registry.specs.Index.{meter_at}
use Rattle.registry.specs.declared.entry.Window.{Window}
use Rattle.registry.proofs.Laws.{Formed, meter-formed, window-last}
use Rattle.cell.specs.Layout.{Words}
use Rattle.reads.proofs.SoundParts.{SoundParts, sound-parts}
use Rattle.cells.specs.Sound.{day_intervals, sound_cell}
use Rattle.cells.proofs.Passed.{FoundCell, found-cell}
use Rattle.writer.specs.Record.{record_text, cell_text}
use Rattle.writer.specs.Private.{Writable}
use Rattle.writer.specs.Write.{fitting}

-- ---- THE OUTPUT'S ROOM, as the code tests it

pub fitting-tested : (output text : Bytes) → fitting output (passed text) ≡ (require (leb (length text) (length output)) short_output >> passed text)
unfolding fitting
fitting-tested output text = rw (fits-tested (length text) (length output))

-- ---- THE RECORD

pub behind_none : {t : Bytes} (x : Bytes) {n : ℕ} → t ≡ [] → length x ≤ n → length t + length x ≤ n
behind_none x e h = rw e (omega arith)

-- a cell's record, by what an index tells of its registry
pub cell-text : {reg : Bytes} {m d : ℕ} {descriptor : Bytes} {w : Words} {window : Window} {id id' owner owner' : Bytes} {date : ℕ} (c : ℕ)
    → Writable reg m d descriptor w → window ≡ window_is reg → id ≡ unpad id' → id' ≡ (meter_at reg m).id
    → owner ≡ unpad owner' → owner' ≡ (meter_at reg m).owner → date ≡ date_is (window.first + d)
    → record_text id owner c date descriptor w ≡ cell_text reg m c d descriptor w
unfolding cell_text
cell-text {reg} {m} {d} c asked told e ei f eo ed =
    let last : (window_is reg).first + d ≤ last_day = omega (arith, asked.day, window-last reg) in
    rw (e, ei, f, eo, ed, told, date_is_lem ((window_is reg).first + d) last)

-- how long its meter's identifiers are
pub meter-short : {reg : Bytes} {m d : ℕ} {descriptor : Bytes} {w : Words} {id id' owner owner' : Bytes} → Writable reg m d descriptor w
    → id ≡ unpad id' → id' ≡ (meter_at reg m).id → owner ≡ unpad owner' → owner' ≡ (meter_at reg m).owner
    → (length id ≤ esi_id_size) × (length owner ≤ duns_size)
meter-short {reg} {m} asked e ei f eo =
    let formed : Formed (meter_at reg m) = meter-formed reg m asked.meter in (
      rw (e, ei) (omega (arith, unpad-within (meter_at reg m).id, formed.id-size)),
      rw (f, eo) (omega (arith, unpad-within (meter_at reg m).owner, formed.owner-size)),
    )

-- ---- THE CALL

module _ (reg : Bytes) (table : Words) (m c d : ℕ) (descriptor : Bytes) (w : Words) (here : passed w ≡ sound_cell reg table m c d) where
  pub writable : is_descriptor descriptor ≡ true → Writable reg m d descriptor w
  unfolding is_name
  writable described =
      let found : FoundCell reg table m c d w = found-cell reg table m c d w (sym here) in
      let parts : SoundParts (day_intervals reg d) w = sound-parts (day_intervals reg d) w found.sound in
      let some : Bool = leb 1 (length descriptor) in
      let few : Bool = leb (length descriptor) descriptor_size in
      record {
        meter = found.address.meter;
        day = found.address.day;
        short = leb-true (length descriptor) descriptor_size (and_right some few (and_left (some && few) (every is_alnum descriptor) described));
        few = rw parts.counted found.few;
        values = parts.values;
      }
