-- The texts of the rows as the parts that are put one behind the other, and their lengths.
-- Assumes nothing.
use mathlib.Core.Path.{◌≡◌, refl, ap, sym, ◌∙◌}
use mathlib.Core.List.{List, [], ◌∷◌, ◌++◌, append_assoc, append-nil}
use Prim.Native.Nat.{ℕ, ◌+◌, ◌/◌, ◌%◌, ◌<◌, ◌≤◌}
use native.Mathlib.Omega.{arith}
use lib.ListN.{length, get_or, take, drop, take-append-drop, length-append}
use lib.Seq.{append_snoc}
use borrow.Author.Tests.{eq-eqb}
use Rattle.std.proofs.lemmas.List.{take_more, drop_more, take_all}
use Rattle.text.specs.Byte.{Bytes, ascii}
use Rattle.text.specs.Field.{comma}
use Rattle.text.specs.Number.{digits_of}
use Rattle.text.proofs.DigitsOf.{digits-length}
use Rattle.lines.specs.Line.{LF}
use Rattle.headers.specs.Time.{date_size, clock_size, day_stop}
use Rattle.headers.specs.declared.time.Stamp.{Stamp}
use Rattle.details.specs.Value.{point, whole_digits, part_digits, per_kwh}
use Rattle.details.specs.Detail.{detail_code}
use Rattle.details.specs.declared.detail.Interval.{Interval}
use Rattle.lines.specs.Text.{row}
use Rattle.rowtext.specs.Text.{with_commas, time_text, stamp_text, channel_text, value_text, status_text, interval_fields, row_fields, line_one, line_three, line_four, line_thirty, line_detail}
use Rattle.digits.specs.Decimal.{trimmed, decimal}
use Rattle.rowtext.specs.Value.{whole_end, value_end}
use Rattle.rowtext.proofs.Lengths.{channel-length, status-length, time_length}

-- the interval's fields with the comma before each
abbrev pub interval_text : Interval → Bytes
interval_text v = comma ∷ with_commas (interval_fields v)

-- FIELDS

pub time_is : (date clock : ℕ) → time_text date clock ≡ digits_of date_size date ++ digits_of clock_size clock
unfolding time_text
time_is date clock = refl

-- a needless zero in front of another digit
zero-off : (b c : ℕ) (s : Bytes) → b ≡ 48 → trimmed (b ∷ (c ∷ s)) ≡ trimmed (c ∷ s)
unfolding trimmed
zero-off b c s e = rw (eq-eqb b 48 e)

-- six of a number's digits are all that are not needless
decimal-six : (n : ℕ) → n < whole_end → trimmed (digits_of whole_digits n) ≡ decimal n
unfolding decimal digits_of
decimal-six n h =
    sym
    (zero-off _ _ _ (omega arith) ∙ zero-off _ _ _ (omega arith) ∙ zero-off _ _ _ (omega arith) ∙ zero-off _ _ _ (omega arith))

pub value-is : (wh : ℕ) → wh < value_end → value_text wh ≡ decimal (wh / per_kwh) ++ ascii "." ++ digits_of part_digits (wh % per_kwh)
unfolding value_text
value-is wh h = rw (decimal-six (wh / per_kwh) (omega arith)) (sym (append_snoc (decimal (wh / per_kwh)) point (digits_of part_digits (wh % per_kwh))))

pub interval_is : (v : Interval) → interval_text v ≡ ascii "," ++ value_text v.wh ++ (ascii "," ++ status_text v.estimated ++ ascii ",")
unfolding with_commas
interval_is v = refl

pub interval_length : (v : Interval) → length (interval_text v) ≡ 4 + length (value_text v.wh)
interval_length v = ap length (interval_is v) ∙ simp length-append (omega (arith, status-length v.estimated))

-- LINES

module _ (id : Bytes) (channel date : ℕ) where
  pub one-is :
      row (line_one id channel date)
      ≡ ascii "00000001," ++ id ++ (comma ∷ channel_text channel) ++ (comma ∷ time_text date 0) ++ (comma ∷ time_text date day_stop) ++ (ascii ",Y,N" ++ LF ∷ [])
  unfolding line_one with_commas
  one-is = simp append_assoc

pub three-is : (descriptor : Bytes) → row (line_three descriptor) ≡ ascii "00000003," ++ descriptor ++ LF ∷ []
unfolding line_three with_commas
three-is descriptor = refl

pub four_is : (stamp : Stamp) → row (line_four stamp) ≡ ascii "00000004" ++ (comma ∷ stamp_text stamp) ++ (ascii ",M" ++ LF ∷ [])
unfolding line_four with_commas
four_is stamp = simp append_assoc

thirty-parts : (x o y z t : Bytes) → x ++ ((o ++ (y ++ (o ++ z))) ++ t) ≡ x ++ o ++ y ++ o ++ (z ++ t)
thirty-parts x o y z t = simp append_assoc

pub thirty-is : (owner : Bytes) → row (line_thirty owner)
    ≡ ascii "00000030,ATTRIBUTE_VALUE_PAIRS,MRE=" ++ owner ++ ascii ",Sender=" ++ owner ++ (ascii ",Receiver=183529049,REP=" ++ LF ∷ [])
unfolding line_thirty with_commas
thirty-is owner =
    thirty-parts (ascii "00000030,ATTRIBUTE_VALUE_PAIRS,MRE=") owner (ascii ",Sender=") (ascii ",Receiver=183529049,REP=") (LF ∷ [])

-- rows as parts that are put one behind the other
pub ruleset row_parts = (append_assoc, length-append, channel-length, time_length, one-is, three-is, four_is, thirty-is)

pub ruleset value_parts = (append_assoc, length-append, digits-length, value-is)

pub ruleset interval_parts = (append_assoc, length-append, interval_is)

pub ruleset time_parts = (append_assoc, length-append, digits-length, time_is)

-- an interval in front of another field
interval_on : (v : Interval) (g : Bytes) (gs : List Bytes) → comma ∷ with_commas (interval_fields v ++ (g ∷ gs)) ≡ interval_text v ++ (comma ∷ with_commas (g ∷ gs))
unfolding with_commas
interval_on v g gs = ap (λ (s : Bytes). comma ∷ s) (go (value_text v.wh) (status_text v.estimated) (comma ∷ with_commas (g ∷ gs)))
  where
    go : (x y t : Bytes) → x ++ (comma ∷ (y ++ (comma ∷ t))) ≡ x ++ (comma ∷ (y ++ (comma ∷ []))) ++ t
    go x y t = simp append_assoc

-- the intervals of a row, one behind the other
abbrev pub intervals_text : List Interval → Bytes
intervals_text [] = []
intervals_text (v ∷ vs) = interval_text v ++ intervals_text vs

pub texts-append : (vs ws : List Interval) → intervals_text (vs ++ ws) ≡ intervals_text vs ++ intervals_text ws
texts-append [] ws = refl
texts-append (v ∷ vs) ws = ap (λ (s : Bytes). interval_text v ++ s) (texts-append vs ws) ∙ sym (append_assoc (interval_text v) (intervals_text vs) (intervals_text ws))

fields_are : (vs : List Interval) → comma ∷ with_commas (row_fields vs) ≡ intervals_text vs ++ (comma ∷ [])
unfolding with_commas row_fields
fields_are [] = refl
fields_are (v ∷ []) = interval_on v [] [] ∙ sym (append_assoc (interval_text v) [] (comma ∷ []))
fields_are (v ∷ w ∷ ws) =
    interval_on v (value_text w.wh) (status_text w.estimated ∷ [] ∷ row_fields ws)
    ∙ ap (λ (s : Bytes). interval_text v ++ s) (fields_are (w ∷ ws))
    ∙ sym (append_assoc (interval_text v) (intervals_text (w ∷ ws)) (comma ∷ []))

-- a detail row as far as these intervals
abbrev pub detail_front : ℕ → List Interval → Bytes
detail_front k vs = ascii "100000" ++ digits_of 2 k ++ intervals_text vs

detail_parts : (x n r y t : Bytes) → x ++ n ++ (r ++ y) ++ t ≡ x ++ n ++ r ++ (y ++ t)
detail_parts x n r y t = simp append_assoc

-- the code and its comma
fields_behind : (f : Bytes) (vs : List Interval) → with_commas (f ∷ row_fields vs) ≡ f ++ (comma ∷ with_commas (row_fields vs))
unfolding with_commas row_fields
fields_behind f [] = refl
fields_behind f (v ∷ vs) = refl

module _ (k : ℕ) (vs : List Interval) where
  pub detail_is : row (line_detail k vs) ≡ detail_front k vs ++ (ascii "," ++ LF ∷ [])
  unfolding line_detail
  detail_is =
      ap (λ (s : Bytes). s ++ LF ∷ []) (fields_behind (detail_code k) vs)
      ∙ ap (λ (s : Bytes). ascii "100000" ++ digits_of 2 k ++ s ++ LF ∷ []) (fields_are vs)
      ∙ detail_parts (ascii "100000") (digits_of 2 k) (intervals_text vs) (ascii ",") (LF ∷ [])

  pub detail_length : length (row (line_detail k vs)) ≡ 8 + length (digits_of 2 k) + length (intervals_text vs)
  detail_length = rw detail_is (simp length-append (omega arith))

pub ruleset front_parts = (length-append, digits-length, detail_is)

-- a detail row behind a text t, so far as its intervals before the next
module _ (t u : Bytes) (k i : ℕ) (vs : List Interval) (so_far : u ≡ t ++ detail_front k (take i vs)) where
  module _ (v : Interval) (more : i < length vs) where
    parts : intervals_text vs ≡ intervals_text (take i vs) ++ (interval_text (get_or vs i v) ++ intervals_text (drop (i + 1) vs))
    parts =
        ap intervals_text (sym (take-append-drop i vs))
        ∙ texts-append (take i vs) (drop i vs)
        ∙ ap (λ (ws : List Interval). intervals_text (take i vs) ++ intervals_text ws) (drop_more vs i v more)

    pub interval-room : {n : ℕ} → length t + length (row (line_detail k vs)) ≤ n → length u + length (interval_text (get_or vs i v)) ≤ n
    interval-room room =
        let size : length (intervals_text vs) ≡ length (intervals_text (take i vs)) + (length (interval_text (get_or vs i v)) + length (intervals_text (drop (i + 1) vs))) =
        ap length parts ∙ simp length-append in
        let before : length u ≡ length t + (6 + length (digits_of 2 k) + length (intervals_text (take i vs))) = ap length so_far ∙ simp length-append in
        omega (arith, before, size, detail_length k vs, room)

    pub interval-next : {w : Bytes} → w ≡ u ++ interval_text (get_or vs i v) → w ≡ t ++ detail_front k (take (i + 1) vs)
    interval-next e =
        let texts : intervals_text (take (i + 1) vs) ≡ intervals_text (take i vs) ++ interval_text (get_or vs i v) =
        ap intervals_text (take_more vs i v more) ∙ texts-append (take i vs) _ ∙ ap (λ (s : Bytes). intervals_text (take i vs) ++ s) (append-nil (interval_text (get_or vs i v))) in
        e ∙ rw (so_far, texts) (simp append_assoc)

  pub detail-all : {w : Bytes} → length vs ≤ i → w ≡ u ++ (ascii "," ++ LF ∷ []) → w ≡ t ++ row (line_detail k vs)
  detail-all all e = e ∙ rw (so_far, take_all i vs all, detail_is) (append_assoc t (detail_front k vs) (ascii "," ++ LF ∷ []))
