-- Row two: its forms, at each answer of their checkers, and the walk along the fields.
-- Assumes nothing.
use mathlib.Core.Path.{◌≡◌, refl, sym, ◌∙◌}
use mathlib.Core.List.{List, [], ◌∷◌}
use mathlib.Core.Bool.{Bool, true, false, not, ◌&&◌, and-true, and-false}
use Prim.Native.Nat.{ℕ, ◌+◌, ◌-◌, ◌<◌, ◌≤◌}
use native.Mathlib.Omega.{arith}
use native.Mathlib.Numerals.{add-one}
use lib.Dec.{eqb, leb}
use lib.ListN.{length, take, drop, get_or}
use lib.Seq.{drop-cons}
use borrow.Author.Tests.{eq-eqb, ne_eqb, leb-true}
use Rattle.text.specs.Byte.{Bytes, is_digit, every}
use Rattle.text.specs.Number.{number, leading, behind, Digits}
use Rattle.text.proofs.Truth.{and_left, and_right}
use Rattle.text.proofs.Left.{left-cons, left-whole}
use Rattle.text.proofs.Decimal.{run_drop}
use Rattle.headers.specs.declared.two.Form.TheVariants.{Code}
use Rattle.headers.specs.Two.{decimal_parts, is_decimal, up_to_digits, is_unit_code, is_zone_count, fits_form, row_two_forms, fit_all}

-- a test of the number that n digits at most write; r says whether they are digits
module _ (f : Bytes) (n : ℕ) (r : Bool) (er : r ≡ up_to_digits n f) where
  pub digits_no : (t : Bool) → r ≡ false → false ≡ (up_to_digits n f && t)
  digits_no t h = rw (← er, h)

  pub digits_yes : (t : Bool) → r ≡ true → t ≡ (up_to_digits n f && t)
  digits_yes t h = rw (← er, h)

  pub digits-few : r ≡ true → n ≤ 9 → Digits 9 f
  unfolding up_to_digits
  digits-few h g =
      let all : up_to_digits n f ≡ true = sym er ∙ h in
      let two : (leb 1 (length f) && leb (length f) n) ≡ true = and_left (leb 1 (length f) && leb (length f) n) (every is_digit f) all in
      record {
        short = omega (arith, leb-true (length f) n (and_right (leb 1 (length f)) (leb (length f) n) two));
        clean = and_right (leb 1 (length f) && leb (length f) n) (every is_digit f) all;
      }

pub unit-right : (f : Bytes) (r : Bool) (m : ℕ) → r ≡ up_to_digits 4 f → r ≡ true → m ≡ number f → not (eqb m 0) ≡ is_unit_code f
unit-right f r m er h e = rw e (digits_yes f 4 r er (not (eqb (number f) 0)) h)

pub zone_right : (f : Bytes) (r : Bool) (m : ℕ) → r ≡ up_to_digits 2 f → r ≡ true → m ≡ number f → leb m 47 ≡ is_zone_count f
zone_right f r m er h e = rw e (digits_yes f 2 r er (leb (number f) 47) h)

-- a decimal, by what stands behind its first digits
module _ (f : Bytes) (w : ℕ) (run : w ≡ length (leading f)) (g : Bytes) (eg : g ≡ drop w f) where
  lead : length (leading f) ≡ w
  lead = sym run

  tail : behind f ≡ g
  tail = sym (eg ∙ rw run (run_drop f))

  pub decimal-whole : length g < 1 → (leb 1 w && leb w 15) ≡ is_decimal f
  unfolding is_decimal decimal_parts
  decimal-whole h = rw (tail, empty g h, lead)
    where
      empty : (g : Bytes) → length g < 1 → g ≡ []
      empty [] h = refl
      empty (b ∷ g) h = absurd (omega arith)

  parted : 1 ≤ length g → g ≡ get_or g 0 0 ∷ drop 1 g
  parted h = left-cons g 0 (omega arith)

  pub decimal-point : 1 ≤ length g → get_or g 0 0 ≡ 46 → (p : Bytes) (r : Bool) → r ≡ up_to_digits 4 p → p ≡ take (length g - 1) (drop 1 g)
      → (leb 1 w && leb w 15 && r) ≡ is_decimal f
  unfolding is_decimal decimal_parts up_to_digits
  decimal-point h e p r er ep =
      rw (er, tail, parted h, lead, eq-eqb (get_or g 0 0) 46 e, and-true, ep, left-whole g 1)
      (reordered (leb 1 w && leb w 15) (every is_digit (drop 1 g)) (leb 1 (length (drop 1 g))) (leb (length (drop 1 g)) 4))
    where
      reordered : (x d a b : Bool) → (x && (a && b && d)) ≡ (x && d && a && b)
      reordered true true a b = and-true (a && b)
      reordered true false a b = and-false (a && b)
      reordered false d a b = refl

  pub decimal-odd : 1 ≤ length g → (get_or g 0 0 ≡ 46 → ⊥) → false ≡ is_decimal f
  unfolding is_decimal decimal_parts
  decimal-odd h e = rw (tail, parted h, ne_eqb (get_or g 0 0) 46 e, and-false)

-- THE WALK: of the forms, k are gone by, and fs are the fields that are left
next-form : (k : ℕ) → k < 14 → drop k row_two_forms ≡ get_or row_two_forms k Code ∷ drop (k + 1) row_two_forms
next-form k h = rw (add-one, drop-cons row_two_forms k Code h)

module _ (all fs : List Bytes) (k : ℕ) (so_far : fit_all row_two_forms all ≡ fit_all (drop k row_two_forms) fs) where
  module _ (h : k < 14) (f : Bytes) (rest : List Bytes) (taken : fs ≡ f ∷ rest) (r : Bool) (e : r ≡ fits_form (get_or row_two_forms k Code) f) where
    pub walk_ends : r ≡ false → false ≡ fit_all row_two_forms all
    unfolding fit_all
    walk_ends t = sym (so_far ∙ rw (next-form k h, taken, ← e, t))

    pub walk_on : r ≡ true → fit_all row_two_forms all ≡ fit_all (drop (k + 1) row_two_forms) rest
    unfolding fit_all
    walk_on t = so_far ∙ rw (next-form k h, taken, ← e, t)

  pub walk_done : 14 ≤ k → k + length fs ≡ 14 → true ≡ fit_all row_two_forms all
  unfolding fit_all
  walk_done h l =
      let e : k ≡ 14 = omega arith in
      sym (so_far ∙ rw e (none-left fs (omega arith)))
    where
      none-left : (fs : List Bytes) → length fs ≡ 0 → fit_all [] fs ≡ true
      none-left [] z = refl
      none-left (f ∷ fs) z = absurd (omega (arith, z))
