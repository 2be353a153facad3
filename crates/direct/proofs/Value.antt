-- A value's text, digits with or without a point: what the rule makes of it, and that the reader's tests find such a text.
-- Assumes nothing.
use Rattle.std.proofs.Common.{◌≡◌, ℕ, zero, suc, ◌+◌, ◌-◌, ◌*◌, ◌^◌, ◌<◌, ◌≤◌, Bool, true, false, cond, not, ◌&&◌, eqb, leb, [], ◌∷◌, ◌++◌, map, length, get_or, take, drop, sym, refl, ap, ◌∙◌, append-nil, arith, length-drop, take-append-drop, length-take, length-take-le, take-take, take-add, ne_eqb, eqb-true, le-leb, leb-true}
use Prim.Native.Char.{code}
use lib.Bits.{bit_xor}
use borrow.Author.Tests.{lt-leb, eqb-false, not-true}
use Rattle.text.specs.Byte.{Bytes, is_digit, every}
use Rattle.text.specs.Field.{comma, first_field}
use Rattle.text.specs.Number.{number_from, leading, behind}
use Rattle.text.proofs.Truth.{and_left, and_right}
use Rattle.text.proofs.Left.{left-cons, drop-take}
use Rattle.text.proofs.Class.{digit_low}
use Rattle.text.proofs.Comma.{field_take, field-within}
use Rattle.text.proofs.Decimal.{run_take, run_drop, run_digits}
use Rattle.report.specs.Outcome.{passed, refused, says}
use Rattle.report.specs.Verdict.{negative, no_value}
use Rattle.details.specs.Value.{point, whole_digits, part_digits, is_negative, watt_hours, with_point, value_parts, value_of}
use Rattle.direct.specs.Guess.{bytes_of, is_numeral, Layout, Aligned, Writes, BeginsValue, BeginsDigits, HasTriple, in_value, tail, status_byte, value_size, tail_size, triple_size, word_size, whole_taken}
use Rattle.text.proofs.Class.{every_append}
use Rattle.std.specs.Int.{w32, to_le_bytes, from_le_bytes}
use Rattle.std.proofs.lemmas.Nat.{le_bytes_4}
use Rattle.direct.proofs.InWord.{small-part}
use Rattle.direct.proofs.Every.{digits-plain}
use Rattle.direct.proofs.Numeral.{spread}
use Rattle.direct.proofs.Digit.{less_zero, less-bytes, map-take, map-drop, both_write, whole-writes, part-writes, exact}

-- DIGITS AT THE FRONT of a text
module _ (r : Bytes) where
  leading-digits : (q : Bytes) → every is_digit q ≡ true → leading (q ++ r) ≡ q ++ leading r
  unfolding leading every
  leading-digits [] h = refl
  leading-digits (b ∷ q) h = rw (and_left (is_digit b) (every is_digit q) h) (ap (λ x. b ∷ x) (leading-digits q (and_right (is_digit b) (every is_digit q) h)))

  behind-digits : (q : Bytes) → every is_digit q ≡ true → behind (q ++ r) ≡ behind r
  unfolding behind every
  behind-digits [] h = refl
  behind-digits (b ∷ q) h = rw (and_left (is_digit b) (every is_digit q) h) (behind-digits q (and_right (is_digit b) (every is_digit q) h))

  plus-digits : (q : Bytes) → every is_digit q ≡ true → is_negative r ≡ false → is_negative (q ++ r) ≡ false
  unfolding is_negative every
  plus-digits [] h g = g
  plus-digits (b ∷ q) h g = ne_eqb b (code "-") (λ e. omega (arith, digit_low b (and_left (is_digit b) (every is_digit q) h), e))

none-part : (p : Bytes) (m : ℕ) → Writes part_digits p m → length p ≡ 0 → m ≡ 0
unfolding number_from
none-part [] m w h = omega (arith, w.value)
none-part (b ∷ p) m w h = absurd (omega (arith, h))

-- THE RULE, of the digits q before a point and the digits p behind it
module _ (q p : Bytes) (n m : ℕ) (w : Writes 0 q n) (v : Writes part_digits p m) (short : length q ≤ whole_digits) where
  whole-value : 0 < length q → length p ≡ 0 → value_of q ≡ passed (n * 1000 + m)
  unfolding value_of value_parts watt_hours number_from is_negative leading behind
  whole-value h z =
      ap value_of (sym (append-nil q))
      ∙ rw (
        plus-digits [] q w.clean refl,
        leading-digits [] q w.clean,
        behind-digits [] q w.clean,
        append-nil q,
        le-leb 1 (length q) h,
        le-leb (length q) whole_digits short,
        exact 0 q n w (omega arith),
        none-part p m v z,
      )

  point-value : 0 < length p → length p ≤ part_digits → value_of (q ++ point ∷ p) ≡ passed (n * 1000 + m)
  unfolding value_of value_parts with_point watt_hours is_negative leading behind
  point-value h g =
      rw (
        plus-digits (point ∷ p) q w.clean refl,
        leading-digits (point ∷ p) q w.clean,
        behind-digits (point ∷ p) q w.clean,
        append-nil q,
        v.clean,
        lt-leb (part_digits + 1) (length p) (omega arith),
        le-leb 1 (length p) h,
        le-leb (length q) whole_digits short,
        exact 0 q n w (omega arith),
        v.value,
      )

-- THE TESTS of the reader
pub layout : (n d : ℕ) → (d ≤ n) × (n ≤ word_size) → (not (eqb n 0) && leb d whole_taken && not (eqb (n - d) 1) && leb (n - d) (part_digits + 1)) ≡ true → Layout n d
layout n d l h =
    let some : Bool = not (eqb n 0) in
    let digit : Bool = not (eqb (n - d) 1) in
    let h₃ : (some && leb d whole_taken && digit) ≡ true = and_left _ (leb (n - d) (part_digits + 1)) h in
    let h₂ : (some && leb d whole_taken) ≡ true = and_left _ digit h₃ in
    let z : n ≡ 0 → ⊥ = eqb-false n 0 (not-true _ (and_left some (leb d whole_taken) h₂)) in
    record {
      some = omega arith;
      inside = l.0;
      fits = l.1;
      whole = leb-true d whole_taken (and_right some (leb d whole_taken) h₂);
      part = leb-true (n - d) (part_digits + 1) (and_right (some && leb d whole_taken && digit) (leb (n - d) (part_digits + 1)) h);
      digit = eqb-false (n - d) 1 (not-true _ (and_right (some && leb d whole_taken) digit h₃));
    }

-- d digits at the front of s, and f bytes behind them, which are none or a point with its digits
read_by : (s : Bytes) (n d f whole part : ℕ) → n ≡ d + f → n < length s → Layout n d → (0 < f → get_or s d 0 ≡ point)
    → Writes 0 (take d s) whole → Writes part_digits (take (f - 1) (drop (d + 1) s)) part → BeginsValue s (whole * 1000 + part) n
unfolding every
read_by s n d zero whole part e l y g w v =
    let same : n ≡ d = omega arith in
    let q : length (take d s) ≡ d = length-take-le d s (omega arith) in
    rw same
    (record {
      short = omega (arith, y.whole);
      plain = digits-plain (take d s) w.clean;
      value = whole-value (take d s) (take 0 (drop (d + 1) s)) whole part w v (omega (arith, q, y.whole)) (omega (arith, q, y.some)) refl;
    })
read_by s n d (suc m) whole part e l y g w v =
    let z : suc m - 1 ≡ m = omega arith in
    let v' : Writes part_digits (take m (drop (d + 1) s)) part = rw z at v in
    let q : length (take d s) ≡ d = length-take-le d s (omega arith) in
    let p : length (take m (drop (d + 1) s)) ≡ m = length-take-le m (drop (d + 1) s) (simp length-drop (omega arith)) in
    let text : take n s ≡ take d s ++ point ∷ take m (drop (d + 1) s) = rw (e, take-add d (suc m) s, left-cons s d (omega arith), g (omega arith)) in
    record {
      short = omega (arith, y.whole, y.part);
      plain =
          rw text
          (every_append in_value (take d s) (point ∷ take m (drop (d + 1) s)) (digits-plain (take d s) w.clean) (digits-plain (take m (drop (d + 1) s)) v'.clean));
      value =
          rw text
          (point-value (take d s) (take m (drop (d + 1) s)) whole part w v' (omega (arith, q, y.whole)) (omega (arith, p, y.digit)) (omega (arith, p, y.part)));
    }

-- the reader's answer, wherever its guesses n and d point: w has the value's bytes, and a its digits
module _ (s : Bytes) (n d : ℕ) (room : length s ≡ triple_size) (r : Bool) (fits : r ≡ true → Layout n d)
    (hr : r ≡ true) (w a : ℕ) (here : bytes_of 8 w ≡ take 8 s) (line : Aligned n d (bit_xor w (spread 48 8)) a) where
  abbrev m : ℕ
  m = n - d - 1

  abbrev whole : Bytes
  whole = take d s

  abbrev part : Bytes
  part = take m (drop (d + 1) s)

  y : Layout n d
  y = fits hr

  part-long : length part ≡ m
  part-long = length-take-le m (drop (d + 1) s) (simp length-drop (omega (arith, y.whole, y.part)))

  lined : bytes_of 8 a ≡ (bytes_of (5 - d) 0 ++ map less_zero whole) ++ (map less_zero part ++ bytes_of (3 - length part) 0)
  lined =
      line.parts
      ∙ rw (
        less-bytes 8 w,
        here,
        map-take d (take 8 s),
        take-take d 8 s (omega (arith, y.whole)),
        map-drop (d + 1) (take 8 s),
        drop-take (d + 1) 8 s,
        map-take m (take (8 - (d + 1)) (drop (d + 1) s)),
        take-take m (8 - (d + 1)) (drop (d + 1) s) (omega (arith, y.fits)),
        part-long,
      )

  pub value_read : (x : ℕ) (b : Bool) → (0 < n - d → x ≡ point) → get_or s d 0 ≡ x → (b ≡ true → every is_numeral (bytes_of 8 a) ≡ true) → b ≡ true
      → BeginsDigits s a n
  value_read x b g ex small hb =
      let short : length part ≤ 3 = omega (arith, part-long, y.part) in
      let all : every is_numeral (bytes_of 8 a) ≡ true = small hb in
      record {
        numerals = all;
        value =
            rw (both_write (5 - d) whole part short (bytes_of 8 a) lined)
            (read_by s n d (n - d) _ _ (omega (arith, y.inside)) (omega (arith, y.whole, y.part)) y (λ l. ex ∙ g l)
            (whole-writes (5 - d) whole part short (bytes_of 8 a) lined all)
            (part-writes (5 - d) whole part short (bytes_of 8 a) lined all));
      }

-- A VALUE OF ANY LENGTH, by the plain reader: what the rule passes has digits and a point only
parts-plain : (whole rest : Bytes) (n : ℕ) → value_parts whole rest ≡ passed n → every in_value rest ≡ true
unfolding value_parts every
parts-plain whole [] n h = refl
parts-plain whole (b ∷ part) n h = go (eqb b point && every is_digit part) refl h
  where
    go : (t : Bool) → (eqb b point && every is_digit part) ≡ t → cond t (with_point whole part) (refused no_value) ≡ passed n → (in_value b && every in_value part) ≡ true
    go true e g = rw (eqb-true b point (and_left (eqb b point) (every is_digit part) e)) (digits-plain part (and_right (eqb b point) (every is_digit part) e))
    go false e g = let z : ◌≡◌ {A = ℕ} 0 1 = cc in absurd (omega arith)

value-plain : (f : Bytes) (n : ℕ) → value_of f ≡ passed n → every in_value f ≡ true
unfolding value_of
value-plain f n h =
    let text : f ≡ leading f ++ behind f = sym (take-append-drop (length (leading f)) f) ∙ rw (run_take f, run_drop f) in
    ap (every in_value) text
    ∙ every_append in_value (leading f) (behind f) (digits-plain (leading f) (run_digits f)) (parts-plain (leading f) (behind f) n (plus (is_negative f) h))
  where
    plus : (t : Bool) → cond t (refused negative) (value_parts (leading f) (behind f)) ≡ passed n → value_parts (leading f) (behind f) ≡ passed n
    plus true g = let z : ◌≡◌ {A = ℕ} 0 1 = cc in absurd (omega arith)
    plus false g = g

-- f is what stands before the comma, and v the plain reader's answer
pub long-read : (s : Bytes) (wh : ℕ) (f : Bytes) → f ≡ first_field (take value_size s) → passed wh ≡ value_of f → BeginsValue s wh (length f)
long-read s wh f e says =
    let inside : length f ≤ value_size = omega (arith, ap length e, field-within (take value_size s), length-take value_size s) in
    let text : take (length f) s ≡ f = sym (take-take (length f) value_size s inside) ∙ rw e (sym (field_take (take value_size s))) in
    let worth : value_of f ≡ passed wh = sym says in
    record { short = inside; plain = rw text (value-plain f wh worth); value = rw text worth }

-- what stands behind a value, as a word
abbrev tail_word : Bool → ℕ
tail_word estimated = comma + status_byte estimated * 2 ^ 8 + comma * 2 ^ 16 + comma * 2 ^ 24

tail-bytes : (e : Bool) → to_le_bytes w32 (tail_word e) ≡ tail (status_byte e)
tail-bytes true = refl
tail-bytes false = refl

pub tail-read : (t chunk : Bytes) (at x : ℕ) (e : Bool) → length t ≡ triple_size → at ≤ value_size → chunk ≡ take (at + 4 - at) (drop at t)
    → ((i : ℕ) → get_or t i 0 < 256) → x ≡ from_le_bytes w32 chunk → x ≡ tail_word e → take tail_size (drop at t) ≡ tail (status_byte e)
tail-read t chunk at x e room inside is small word q =
    let z : at + 4 - at ≡ 4 = omega arith in
    let same : chunk ≡ take 4 (drop at t) = rw z at is in
    let long : length chunk ≡ 4 = ap length same ∙ length-take-le 4 (drop at t) (simp length-drop (omega (arith, room))) in
    sym same ∙ sym (le_bytes_4 chunk x long (λ i. rw same (small-part t at 4 i small)) word) ∙ rw q (tail-bytes e)

-- AN INTERVAL with such a value, of the answers of the readers of its parts
module _ (s : Bytes) (wh : ℕ) (f : Bytes) (e : f ≡ first_field (take value_size s)) (says : passed wh ≡ value_of f) where
  pub long-short : length f ≤ value_size
  long-short = (long-read s wh f e says).short

  pub long-done : (m : Bool) → take tail_size (drop (length f) s) ≡ tail (status_byte m)
      → HasTriple s (record { wh = wh; estimated = m }) (length f + tail_size)
  long-done m behind = record { n = length f; value = long-read s wh f e says; behind = behind; ends = refl }
