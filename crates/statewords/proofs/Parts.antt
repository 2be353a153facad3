-- A state put part by part: the words are then its parts, one behind the other, and so they are that state.
-- Assumes nothing.
use mathlib.Core.Path.{◌≡◌, refl, sym, ap, ◌∙◌}
use mathlib.Core.List.{[], ◌++◌, append_assoc, append-nil}
use Prim.Native.Nat.{ℕ, ◌+◌, ◌≤◌}
use native.Mathlib.Omega.{arith}
use lib.ListN.{length, take, drop, length-append, length-drop}
use lib.Seq.{take_at, drop_at, take_all, length-take-le}
use Rattle.lines.specs.Line.{kept_limit}
use Rattle.text.specs.Identifier.{esi_id_size, duns_size}
use Rattle.headers.specs.One.{channel_number}
use Rattle.headers.specs.declared.one.Channel.{Channel}
use Rattle.headers.specs.declared.one.Channel.TheVariants.{Load, Generation}
use Rattle.cell.specs.Layout.{Words, width}
use Rattle.statewords.specs.Layout.{numbers_size, unit_size, numbers_at, unit_at, id_at, sender_at, words_at, state_words, part_at, wide_in, channel_in, state_of, state_in, number_words}

-- a channel is that of its number
pub channel_back : (c : Channel) → channel_in (channel_number c) ≡ c
unfolding channel_number
channel_back Load = refl
channel_back Generation = refl

-- a number of 64 bits is that of its words
pub held_back : (held taken lines : ℕ) → wide_in (number_words held taken lines) 0 ≡ held
unfolding wide_in
held_back held taken lines = omega arith

pub taken_back : (held taken lines : ℕ) → wide_in (number_words held taken lines) 2 ≡ taken
unfolding wide_in
taken_back held taken lines = omega arith

-- ---- the parts of a list

part-is : (front part rest ws : Words) (at n : ℕ) → ws ≡ front ++ part ++ rest → length front ≡ at → length part ≡ n → part_at at n ws ≡ part
part-is front part rest ws at n e f p =
    rw (e, append_assoc front part rest, drop_at front (part ++ rest) at f) (take_at part rest n p)

-- parts as long as the layout says
pub record Sized (kept numbers unit id sender words : Words) : Type 0 where
  pub kept_sized : length kept ≡ kept_limit
  pub numbers_sized : length numbers ≡ numbers_size
  pub unit_sized : length unit ≡ unit_size
  pub id_sized : length id ≡ esi_id_size
  pub sender_sized : length sender ≡ duns_size
  pub words_sized : length words ≡ width

module _ (kept numbers unit id sender words : Words) (z : Sized kept numbers unit id sender words) where
  abbrev all : Words
  all = kept ++ numbers ++ unit ++ id ++ sender ++ words

  to-unit : length (kept ++ numbers) ≡ unit_at
  to-unit = simp length-append (omega arith)

  to-id : length (kept ++ numbers ++ unit) ≡ id_at
  to-id = simp length-append (omega arith)

  to-sender : length (kept ++ numbers ++ unit ++ id) ≡ sender_at
  to-sender = simp length-append (omega arith)

  to-words : length (kept ++ numbers ++ unit ++ id ++ sender) ≡ words_at
  to-words = simp length-append (omega arith)

  state_of_lem : state_in all ≡ state_of kept numbers unit id sender words
  unfolding state_in
  state_of_lem =
      rw (
        part-is [] kept (numbers ++ (unit ++ (id ++ (sender ++ words)))) all 0 kept_limit (simp append_assoc) refl z.kept_sized,
        part-is kept numbers (unit ++ (id ++ (sender ++ words))) all numbers_at numbers_size (simp append_assoc) z.kept_sized z.numbers_sized,
        part-is (kept ++ numbers) unit (id ++ (sender ++ words)) all unit_at unit_size (simp append_assoc) to-unit z.unit_sized,
        part-is (kept ++ numbers ++ unit) id (sender ++ words) all id_at esi_id_size (simp append_assoc) to-id z.id_sized,
        part-is (kept ++ numbers ++ unit ++ id) sender words all sender_at duns_size (simp append_assoc) to-sender z.sender_sized,
        part-is (kept ++ numbers ++ unit ++ id ++ sender) words [] all words_at width (simp (append_assoc, append-nil)) to-words z.words_sized,
      )

-- ---- put one behind the other

-- the words with a part in the place of n of them
abbrev put_in : ℕ → ℕ → Words → Words → Words
put_in at n ws part = take at ws ++ (part ++ drop n (drop at ws))

-- words of a state's length that begin so
record Begins (ws front : Words) (at : ℕ) : Type 0 where
  begins : take at ws ≡ front
  long : length ws ≡ state_words

begins-more : (ws front part : Words) (at n : ℕ) → Begins ws front at → length part ≡ n → at + n ≤ state_words → Begins (put_in at n ws part) (front ++ part) (at + n)
begins-more ws front part at n b l h =
    let taken : length (take at ws) ≡ at = length-take-le at ws (omega (arith, b.long)) in
    let before : length front ≡ at = rw (← b.begins) taken in
    record {
      begins = rw (b.begins, ← append_assoc front part (drop n (drop at ws))) (take_at (front ++ part) (drop n (drop at ws)) (at + n) (rw (length-append front part, before, l)));
      long = simp (length-append, length-drop) (omega (arith, b.long, taken));
    }

-- each part put behind those before it
module _ (ws kept numbers unit id sender words : Words) (l : length ws ≡ state_words) (z : Sized kept numbers unit id sender words) where
  abbrev with_kept : Words
  with_kept = put_in 0 kept_limit ws kept

  abbrev with_numbers : Words
  with_numbers = put_in numbers_at numbers_size with_kept numbers

  abbrev with_unit : Words
  with_unit = put_in unit_at unit_size with_numbers unit

  abbrev with_id : Words
  with_id = put_in id_at esi_id_size with_unit id

  abbrev with_sender : Words
  with_sender = put_in sender_at duns_size with_id sender

  abbrev after : Words
  after = put_in words_at width with_sender words

  begins-all : Begins after (kept ++ numbers ++ unit ++ id ++ sender ++ words) state_words
  begins-all =
      begins-more with_sender _ words words_at width
      (begins-more with_id _ sender sender_at duns_size
      (begins-more with_unit _ id id_at esi_id_size
      (begins-more with_numbers _ unit unit_at unit_size
      (begins-more with_kept _ numbers numbers_at numbers_size
      (begins-more ws [] kept 0 kept_limit (record { begins = refl; long = l }) z.kept_sized (omega arith))
      z.numbers_sized (omega arith))
      z.unit_sized (omega arith))
      z.id_sized (omega arith))
      z.sender_sized (omega arith))
      z.words_sized (omega arith)

  pub after_is : after ≡ kept ++ numbers ++ unit ++ id ++ sender ++ words
  after_is = sym (take_all state_words after (omega (arith, begins-all.long))) ∙ begins-all.begins

  pub put_all : state_in after ≡ state_of kept numbers unit id sender words
  put_all = ap state_in after_is ∙ state_of_lem kept numbers unit id sender words z
