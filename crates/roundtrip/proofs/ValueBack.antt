-- A written value reads back as the watt hours that it was written from.
-- Assumes nothing.
use mathlib.Core.Path.{◌≡◌, refl, ◌∙◌}
use mathlib.Core.List.{[], ◌∷◌, ◌++◌}
use mathlib.Core.Bool.{Bool, true, false, cond}
use Prim.Native.Nat.{ℕ, ◌/◌, ◌%◌, ◌≤◌, ◌<◌}
use native.Mathlib.Omega.{arith}
use lib.Dec.{eqb}
use lib.ListN.{length}
use borrow.Author.Tests.{ne_eqb, eqb-true, le-leb}
use Rattle.text.specs.Byte.{Bytes, is_digit, every}
use Rattle.text.specs.Number.{number, number_from, digits_of, leading, behind}
use Rattle.text.proofs.Truth.{and_left, and_right}
use Rattle.text.proofs.Class.{digit_low, every_append}
use Rattle.text.proofs.DigitsOf.{digits-length, digits-clean, digits_number}
use Rattle.report.specs.Outcome.{passed}
use Rattle.details.specs.Value.{point, whole_digits, part_digits, per_kwh, is_negative, watt_hours, with_point, value_parts, value_of}
use Rattle.digits.specs.Decimal.{trimmed}
use Rattle.rowtext.specs.Text.{value_text}
use Rattle.rowtext.specs.Value.{value_end}
use Rattle.digits.proofs.Decimal.{trimmed-length}
use Rattle.roundtrip.proofs.Fields.{in_field, Plain, digits-plain}

-- ---- digits before a point

module _ (rest : Bytes) where
  leading-digits : (s : Bytes) → every is_digit s ≡ true → leading (s ++ point ∷ rest) ≡ s
  unfolding leading every
  leading-digits [] h = refl
  leading-digits (b ∷ s) h = rw (and_left (is_digit b) (every is_digit s) h, leading-digits s (and_right (is_digit b) (every is_digit s) h))

  behind-digits : (s : Bytes) → every is_digit s ≡ true → behind (s ++ point ∷ rest) ≡ point ∷ rest
  unfolding behind every
  behind-digits [] h = refl
  behind-digits (b ∷ s) h = rw (and_left (is_digit b) (every is_digit s) h) (behind-digits s (and_right (is_digit b) (every is_digit s) h))

  no_minus : (s : Bytes) → every is_digit s ≡ true → is_negative (s ++ point ∷ rest) ≡ false
  unfolding is_negative every
  no_minus [] h = refl
  no_minus (b ∷ s) h = ne_eqb b 45 (λ e. omega (arith, digit_low b (and_left (is_digit b) (every is_digit s) h)))

-- ---- leading zeros taken away

trimmed-clean : (s : Bytes) → every is_digit s ≡ true → every is_digit (trimmed s) ≡ true
unfolding trimmed every
trimmed-clean [] h = h
trimmed-clean (b ∷ []) h = h
trimmed-clean (b ∷ (c ∷ s)) h = go (eqb b 48) (trimmed-clean (c ∷ s) (and_right (is_digit b) (every is_digit (c ∷ s)) h))
  where
    go : (t : Bool) → every is_digit (trimmed (c ∷ s)) ≡ true → every is_digit (cond t (trimmed (c ∷ s)) (b ∷ (c ∷ s))) ≡ true
    go true ih = ih
    go false ih = h

trimmed-number : (s : Bytes) → number (trimmed s) ≡ number s
unfolding trimmed number_from
trimmed-number [] = refl
trimmed-number (b ∷ []) = refl
trimmed-number (b ∷ (c ∷ s)) = go (eqb b 48) refl (trimmed-number (c ∷ s))
  where
    go : (t : Bool) → eqb b 48 ≡ t → number (trimmed (c ∷ s)) ≡ number (c ∷ s) → number (cond t (trimmed (c ∷ s)) (b ∷ (c ∷ s))) ≡ number (b ∷ (c ∷ s))
    go true e ih = ih ∙ rw (eqb-true b 48 e)
    go false e ih = refl

-- ---- the value

module _ (wh : ℕ) where
  abbrev whole : Bytes
  whole = trimmed (digits_of whole_digits (wh / per_kwh))

  abbrev part : Bytes
  part = digits_of part_digits (wh % per_kwh)

  whole-clean : every is_digit whole ≡ true
  whole-clean = trimmed-clean (digits_of whole_digits (wh / per_kwh)) (digits-clean whole_digits (wh / per_kwh))

  whole-short : length whole ≤ whole_digits
  whole-short = omega (arith, trimmed-length (digits_of whole_digits (wh / per_kwh)), digits-length whole_digits (wh / per_kwh))

  pub value-plain : Plain (value_text wh)
  unfolding value_text every
  value-plain =
      every_append in_field whole (point ∷ part) (digits-plain whole whole-clean) (digits-plain part (digits-clean part_digits (wh % per_kwh)))

  module _ (fits : wh < value_end) where
    hours_back : watt_hours whole part ≡ wh
    unfolding watt_hours
    hours_back =
        let w : number whole ≡ wh / per_kwh = trimmed-number (digits_of whole_digits (wh / per_kwh)) ∙ digits_number whole_digits (wh / per_kwh) (omega arith) in
        let p : number part ≡ wh % per_kwh = digits_number part_digits (wh % per_kwh) (omega arith) in
        rw (w, p, digits-length part_digits (wh % per_kwh)) (omega arith)

    pub value-back : value_of (value_text wh) ≡ passed wh
    unfolding value_text value_of value_parts with_point
    value-back =
        rw (no_minus part whole whole-clean, leading-digits part whole whole-clean, behind-digits part whole whole-clean, digits-clean part_digits (wh % per_kwh), digits-length part_digits (wh % per_kwh), le-leb (length whole) whole_digits whole-short, hours_back)
