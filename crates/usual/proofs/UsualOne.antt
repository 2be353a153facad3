-- The usual row one: an ESI ID, and behind it 36 bytes at known places.
-- Assumes nothing.
use mathlib.Core.Path.{◌≡◌, refl, ap, sym, ◌∙◌}
use mathlib.Core.List.{List, [], ◌∷◌, ◌++◌, append_assoc}
use mathlib.Core.Bool.{Bool, true, false, cond, ◌&&◌}
use Prim.Native.Nat.{ℕ, ◌+◌, ◌-◌, ◌≤◌, ◌<◌}
use native.Mathlib.Omega.{arith}
use lib.Dec.{eqb}
use lib.ListN.{length, take, drop, get_or, length-append, length-drop}
use lib.Seq.{take_at, drop_at, length-take-le}
use borrow.Author.Tests.{le-leb}
use Rattle.calendar.specs.Date.{is_date}
use Rattle.calendar.specs.Clock.{is_clock}
use Rattle.text.specs.Byte.{Bytes, ascii, is_digit, is_alnum, every, equals, starts_with}
use Rattle.text.specs.Field.{comma, cut}
use Rattle.text.specs.Number.{number, number_from, Digits}
use Rattle.text.specs.Identifier.{is_name, is_esi_id}
use Rattle.text.proofs.Truth.{and_each}
use Rattle.text.proofs.Class.{every_append}
use Rattle.text.proofs.Equal.{equals_path}
use Rattle.text.proofs.Left.{left-whole}
use Rattle.text.proofs.Comma.{NoComma, digits-no-comma, alnum_no_comma, cut_field, cut-alone}
use Rattle.lines.specs.Line.{line_limit}
use Rattle.report.specs.Outcome.{passed, refused}
use Rattle.report.specs.Verdict.{misfit}
use Rattle.lines.specs.Answer.{line_with}
use Rattle.headers.specs.Time.{date_size, clock_size, is_time, time_of, stops_day}
use Rattle.headers.specs.One.{channel_of, day_of, one_of, row_one}
use Rattle.headers.proofs.Stops.{stop_clock, day_spanned}
use Rattle.headers.specs.declared.one.Channel.{Channel}
use Rattle.headers.specs.declared.one.Channel.TheVariants.{Load, Generation}
use Rattle.usual.proofs.Usual.{first, part, known, byte, usual_fields}

-- a channel's field has no comma
channel_no_comma : (f : Bytes) (k : Channel) → passed k ≡ channel_of f → NoComma f
unfolding channel_of every
channel_no_comma f k e = go (equals f (ascii "1")) refl (equals f (ascii "4")) refl e
  where
    go : (p : Bool) → equals f (ascii "1") ≡ p → (q : Bool) → equals f (ascii "4") ≡ q → passed k ≡ cond p (passed Generation) (cond q (passed Load) (refused misfit)) → NoComma f
    go true h q g t = rw (equals_path f (ascii "1") h)
    go false h true g t = rw (equals_path f (ascii "4") g)
    go false h false g t = absurd (let z : ◌≡◌ {A = ℕ} 0 1 = cc in omega arith)

-- a time of eight digits and six
module _ (day clock : Bytes) (ld : length day ≡ date_size) (dd : every is_digit day ≡ true) (lc : length clock ≡ clock_size) (dc : every is_digit clock ≡ true) where
  time_made : is_date (number day) ≡ true → is_clock (number clock) ≡ true → time_of (day ++ clock) ≡ passed (record { date = number day; clock = number clock })
  unfolding time_of is_time
  time_made real hour =
      let l : length (day ++ clock) ≡ date_size + clock_size = simp length-append (omega arith) in
      rw (l, every_append is_digit day clock dd dc, take_at day clock date_size ld, drop_at day clock date_size ld, real, hour)

  cut_time : (rest : Bytes) (fs : List Bytes) → cut rest ≡ fs → cut (day ++ (clock ++ comma ∷ rest)) ≡ (day ++ clock) ∷ fs
  cut_time rest fs e =
      rw (← append_assoc day clock (comma ∷ rest)) (cut_field (day ++ clock) rest fs (digits-no-comma (day ++ clock) (every_append is_digit day clock dd dc)) e)

module _ (day stop : Bytes) (ld : length day ≡ date_size) (dd : every is_digit day ≡ true) (real : is_date (number day) ≡ true)
    (ls : length stop ≡ clock_size) (ds : every is_digit stop ≡ true) (st : stops_day (number stop) ≡ true) where
  day-made : day_of (day ++ ascii "000000") (day ++ stop) (ascii "Y") (ascii "N") ≡ passed (number day)
  unfolding is_clock number_from every
  day-made =
      day_spanned _ _ (number day) (number stop) (time_made day (ascii "000000") ld dd refl refl real refl) (time_made day stop ld dd ls ds real (stop_clock (number stop) st)) st

  module _ (line id ch : Bytes)
      (made : line ≡ ascii "00000001," ++ (id ++ comma ∷ (ch ++ comma ∷ (day ++ (ascii "000000," ++ (day ++ (stop ++ ascii ",Y,N")))))))
      (named : is_esi_id id ≡ true) (clean : every is_alnum id ≡ true) (k : Channel) (ek : passed k ≡ channel_of ch) where
    one-cut : cut line ≡ ascii "00000001" ∷ id ∷ ch ∷ (day ++ ascii "000000") ∷ (day ++ stop) ∷ ascii "Y" ∷ ascii "N" ∷ []
    unfolding every
    one-cut =
        rw made
        (cut_field (ascii "00000001") _ _ refl
        (cut_field id _ _ (alnum_no_comma id clean)
        (cut_field ch _ _ (channel_no_comma ch k ek)
        (cut_time day (ascii "000000") ld dd refl refl _ _
        (cut_time day stop ld dd ls ds _ _
        (cut_field (ascii "Y") _ _ refl
        (cut-alone (ascii "N") refl)))))))

    one-made : (cr : Bool) → length line < line_limit → passed (record { esi_id = id; channel = k; day = number day }) ≡ row_one (line_with line cr)
    unfolding row_one one_of
    one-made cr short = sym (rw (usual_fields line (ascii "00000001") _ cr short one-cut, named, ← ek, day-made))

-- THE LINE as the reader takes it apart: the ESI ID, and the 36 bytes behind it
abbrev pub id_of : Bytes → Bytes
id_of line = take (length line - 36 - 9) (drop 9 line)

abbrev pub tail_of : Bytes → Bytes
tail_of line = take (length line - (length line - 36)) (drop (length line - 36) line)

pub tail-length : (line : Bytes) → 46 ≤ length line → length (tail_of line) ≡ 36
tail-length line low = rw (left-whole line (length line - 36)) (simp length-drop (omega arith))

id-named : (line : Bytes) → 46 ≤ length line → length line ≤ 109 → every is_alnum (id_of line) ≡ true → is_esi_id (id_of line) ≡ true
unfolding is_name
id-named line low high h =
    let l : length (id_of line) ≡ length line - 36 - 9 = length-take-le (length line - 36 - 9) (drop 9 line) (simp length-drop (omega arith)) in
    rw (l, h, le-leb 1 (length line - 36 - 9) (omega arith), le-leb (length line - 36 - 9) 64 (omega arith))

-- the digits of the day, and those of the time of day that it stops at
abbrev pub day_at : Bytes → Bytes
day_at line = take 8 (drop 3 (tail_of line))

abbrev pub stop_at : Bytes → Bytes
stop_at line = take 6 (drop 26 (tail_of line))

part-length : (line : Bytes) (n m : ℕ) → 46 ≤ length line → n + m ≤ 36 → length (take m (drop n (tail_of line))) ≡ m
part-length line n m low h = length-take-le m (drop n (tail_of line)) (simp length-drop (omega (arith, tail-length line low)))

-- the tests of the shape, as the reader joins them
module _ (line : Bytes) (low : 46 ≤ length line) (p q v w x u y : Bool)
    (shaped : (p && q && eqb (get_or (tail_of line) 0 0) comma && eqb (get_or (tail_of line) 2 0) comma && v && w && x && u && y) ≡ true)
    (ev : v ≡ every is_digit (day_at line)) (eu : u ≡ every is_digit (stop_at line)) where
  each : (k : ℕ) → get_or (p ∷ q ∷ eqb (get_or (tail_of line) 0 0) comma ∷ eqb (get_or (tail_of line) 2 0) comma ∷ v ∷ w ∷ x ∷ u ∷ y ∷ []) k true ≡ true
  each = and_each p (q ∷ eqb (get_or (tail_of line) 0 0) comma ∷ eqb (get_or (tail_of line) 2 0) comma ∷ v ∷ w ∷ x ∷ u ∷ y ∷ []) shaped

  pub day_digits : Digits 9 (day_at line)
  day_digits = record { short = omega (arith, part-length line 3 8 low (omega arith)); clean = sym ev ∙ each 4 }

  pub stop_digits : Digits 9 (stop_at line)
  stop_digits = record { short = omega (arith, part-length line 26 6 low (omega arith)); clean = sym eu ∙ each 7 }

  module _ (high : length line ≤ 109)
      (ep : p ≡ starts_with (ascii "00000001,") line)
      (eq : q ≡ every is_alnum (id_of line))
      (ew : w ≡ equals (take 7 (drop 11 (tail_of line))) (ascii "000000,"))
      (ex : x ≡ equals (take 8 (drop 18 (tail_of line))) (day_at line))
      (ey : y ≡ equals (take (length (tail_of line) - 32) (drop 32 (tail_of line))) (ascii ",Y,N")) where
    tail-made : tail_of line ≡ comma ∷ (take 1 (drop 1 (tail_of line)) ++ comma ∷ (day_at line ++ (ascii "000000," ++ (day_at line ++ (stop_at line ++ ascii ",Y,N")))))
    tail-made =
        let l = tail-length line low in
        byte (tail_of line) 0 comma (omega arith) (each 2)
        (part (tail_of line) 1 1
        (byte (tail_of line) 2 comma (omega arith) (each 3)
        (part (tail_of line) 3 8
        (known (tail_of line) 11 7 _ (sym ew ∙ each 5)
        (known (tail_of line) 18 8 _ (sym ex ∙ each 6)
        (part (tail_of line) 26 6
        (sym (left-whole (tail_of line) 32) ∙ equals_path _ _ (sym ey ∙ each 8))))))))

    line_made : line ≡ ascii "00000001," ++ (id_of line ++ tail_of line)
    line_made =
        let n : 9 + (length line - 36 - 9) ≡ length line - 36 = omega arith in
        first line _ (sym ep ∙ each 0)
        (part line 9 (length line - 36 - 9) (rw n (sym (left-whole line (length line - 36)))))

    pub one_usual : (date : ℕ) → date ≡ number (day_at line) → (r : Bool) → r ≡ is_date date → r ≡ true
        → (stop : ℕ) → stop ≡ number (stop_at line) → (t : Bool) → t ≡ stops_day stop → t ≡ true
        → (k : Channel) → passed k ≡ channel_of (take 1 (drop 1 (tail_of line)))
        → (cr : Bool) → passed (record { esi_id = id_of line; channel = k; day = date }) ≡ row_one (line_with line cr)
    one_usual date ed r er hr stop es t et ht k ek cr =
        rw ed
        (one-made (day_at line) (stop_at line) (part-length line 3 8 low (omega arith)) (sym ev ∙ each 4) (rw (← ed, ← er) hr)
        (part-length line 26 6 low (omega arith)) (sym eu ∙ each 7) (rw (← es, ← et) ht)
        line (id_of line) (take 1 (drop 1 (tail_of line)))
        (line_made ∙ ap (λ t. ascii "00000001," ++ (id_of line ++ t)) tail-made)
        (id-named line low high (sym eq ∙ each 1)) (sym eq ∙ each 1) k ek cr (omega arith))
