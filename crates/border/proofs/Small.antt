-- Counts and lengths that a call answers are far below 2^32.
-- Assumes nothing.
use mathlib.Core.Path.{◌≡◌, refl, sym}
use mathlib.Core.List.{List}
use mathlib.Core.Bool.{Bool, true, false, cond, not, ◌&&◌}
use Prim.Native.Nat.{ℕ, zero, suc, ◌+◌, ◌^◌, ◌≤◌, ◌<◌}
use native.Mathlib.Omega.{arith}
use lib.Dec.{ltb, leb}
use lib.ListN.{length}
use borrow.Author.Tests.{leb-true}
use Rattle.std.specs.Prelude.{Result, Ok, Err, IfOk}
use Rattle.calendar.specs.Day.{date_of}
use Rattle.text.specs.Byte.{Bytes, every, is_alnum}
use Rattle.text.specs.Identifier.{descriptor_size, is_name, is_descriptor}
use Rattle.text.proofs.Truth.{and_left, and_right}
use Rattle.report.specs.Outcome.{Outcome, passed, require, answers}
use Rattle.report.specs.declared.Entry.{Entry}
use Rattle.report.specs.declared.refusal.Refusal.{Refusal}
use Rattle.report.proofs.Passing.{bind_passed, then_passed, require-passed}
use Rattle.padded.specs.Padding.{unpad}
use Rattle.padded.proofs.Unpad.{unpad-within}
use Rattle.registry.specs.Registry.{window_is}
use Rattle.registry.specs.Index.{meter_at}
use Rattle.registry.proofs.Laws.{Formed, meter-formed}
use Rattle.cell.specs.Layout.{Words, word_bits}
use Rattle.reads.proofs.SoundParts.{SoundParts, sound-parts}
use Rattle.report.specs.Refusal.{bad_state, bad_descriptor, short_output}
use Rattle.cells.specs.Sound.{day_intervals, sound_cell}
use Rattle.cells.proofs.Passed.{FoundCell, found-cell}
use Rattle.writer.specs.Record.{record_limit, cell_text}
use Rattle.writer.specs.Write.{written_record, fitting, writes, length_of}
use Rattle.writer.proofs.Records.{record-most}
use Rattle.page.specs.Page.{pages_in}
use Rattle.page.proofs.Pages.{room_for_pages}
use Rattle.plain.specs.Rows.{Rules, rules_of}
use Rattle.plain.specs.Call.{byte_limit, room_for, Asked, feed, finish, piece_of, Call, refused_by, done_call}
use Rattle.plain.specs.Promise.{View, overfull, code_number, code_call}
use Rattle.plain.proofs.Calls.{allowed}
use Rattle.plain.proofs.Rules.{lawful}
use Rattle.plain.proofs.Room.{feed-room, finish-room}
use Rattle.state.specs.declared.State.{State}
use Rattle.state.specs.View.{view_of}
use Rattle.loader.specs.Keeps.{Keeps}

-- ---- FEED AND FINISH: a call that is done has a piece of at most 200,000,000 bytes, and one entry for two of them

abbrev most : ℕ
most = room_for byte_limit

module _ (reg : Bytes) (size : ℕ) (v : View) (c : Call) where
  abbrev R : Rules
  R = rules_of reg

  done-few : (a : Asked) → length (piece_of a) ≤ byte_limit → length (done_call R v.plain a).events ≤ most
  unfolding done_call
  done-few (feed piece) h = omega (arith, feed-room R v.plain.scanned piece)
  done-few finish h = omega (arith, finish-room R v.plain.scanned)

  not_refused : (full : Bool) (n : ℕ) → cond full bad_state n ≡ 0 → n ≡ 0
  not_refused true n e = absurd (omega arith)
  not_refused false n e = e

  events-few : length (code_call R size v c).events ≤ most
  unfolding code_call code_number
  events-few = go (cond (overfull v) bad_state (refused_by R size v.plain.taken c)) refl
    where
      go : (n : ℕ) → cond (overfull v) bad_state (refused_by R size v.plain.taken c) ≡ n → length (code_number R n v c.asked).events ≤ most
      go zero e =
          done-few c.asked (omega (arith, (allowed R (lawful reg) size v.plain.taken c (not_refused (overfull v) (refused_by R size v.plain.taken c) e)).few))
      go (suc n) e = omega arith

module _ {A : Type 0} (entries : List A → List Entry) (behind : ℕ → List A → List A) where
  pub count_small : (reg : Bytes) (s : State) (t : Words) (asked : Asked) (report : List A) (answer : Result ℕ Refusal) (after : State) (table : Words)
      (written : List A) → Keeps entries behind reg s t asked report answer after table written → IfOk answer (λ n. n < 2 ^ word_bits)
  count_small reg s t asked report (Ok n) after table written k =
      let few : n ≤ most = rw k.promise.count (events-few reg (length t) (view_of s) _) in
      omega arith
  count_small reg s t asked report (Err e) after table written k = tt

-- ---- WRITE: a record has at most 2,000 bytes

module _ (reg : Bytes) (table : Words) (m c d : ℕ) (descriptor output : Bytes) where
  record-few : (w : Words) → sound_cell reg table m c d ≡ passed w → is_descriptor descriptor ≡ true → length (cell_text reg m c d descriptor w) ≤ record_limit
  unfolding cell_text is_name
  record-few w e h =
      let found : FoundCell reg table m c d w = found-cell reg table m c d w e in
      let formed : Formed (meter_at reg m) = meter-formed reg m found.address.meter in
      let parts : SoundParts (day_intervals reg d) w = sound-parts (day_intervals reg d) w found.sound in
      let sized : Bool = leb 1 (length descriptor) && leb (length descriptor) descriptor_size in
      record-most (unpad (meter_at reg m).id) (unpad (meter_at reg m).owner) c (date_of ((window_is reg).first + d)) descriptor w
      (omega (arith, unpad-within (meter_at reg m).id, formed.id-size))
      (omega (arith, unpad-within (meter_at reg m).owner, formed.owner-size))
      (leb-true (length descriptor) descriptor_size (and_right (leb 1 (length descriptor)) (leb (length descriptor) descriptor_size) (and_left sized (every is_alnum descriptor) h)))
      (rw parts.counted found.few)

  text-few : (text : Bytes) → written_record reg table m c d descriptor ≡ passed text → length text ≤ record_limit
  unfolding written_record
  text-few text e =
      let found = bind_passed (sound_cell reg table m c d) text _ e in
      let named = then_passed (require (is_descriptor descriptor) bad_descriptor) text _ found.2 in
      let q : ◌≡◌ {A = Outcome Bytes} (passed (cell_text reg m c d descriptor found.0)) (passed text) = named.2 in
      let same : cell_text reg m c d descriptor found.0 ≡ text = cc in
      rw (← same) (record-few found.0 found.1 (require-passed (is_descriptor descriptor) bad_descriptor named.0 named.1))

  pub length-small : (r : Result ℕ Refusal) → answers r ≡ length_of (writes reg table m c d descriptor output) → IfOk r (λ n. n < 2 ^ word_bits)
  unfolding writes fitting
  length-small (Ok n) e =
      let out = bind_passed (writes reg table m c d descriptor output) n _ (sym e) in
      let made = bind_passed (written_record reg table m c d descriptor) out.0 _ out.1 in
      let fits = then_passed (require (not (ltb (length output) (length made.0))) short_output) out.0 _ made.2 in
      let put : ◌≡◌ {A = Outcome Bytes} (passed made.0) (passed out.0) = fits.2 in
      let told : ◌≡◌ {A = Outcome ℕ} (passed (length out.0)) (passed n) = out.2 in
      let same : made.0 ≡ out.0 = cc in
      let size : length out.0 ≡ n = cc in
      let few : length out.0 ≤ record_limit = rw (← same) (text-few made.0 made.1) in
      omega arith
  length-small (Err x) e = tt

-- the pages that a call of page answers
pub pages-small : (answer : Result ℕ Refusal) (es : List Entry) (room : ℕ) → answers answer ≡ pages_in es room → IfOk answer (λ n. n < 2 ^ word_bits)
pages-small (Ok n) es room h = omega (arith, room_for_pages es room n h)
pages-small (Err e) es room h = tt
