-- A column that is filled with a number's digits from its end.
-- Assumes nothing.
use mathlib.Core.Path.{◌≡◌, refl, sym, ap, ◌∙◌}
use mathlib.Core.List.{[], ◌∷◌, ◌++◌, append_assoc, append-nil}
use mathlib.Core.Bool.{Bool, true, false}
use mathlib.Core.Logic.{◌⊎◌, ⊎_elim}
use Prim.Native.Nat.{ℕ, zero, suc, ◌+◌, ◌-◌, ◌/◌, ◌%◌, ◌^◌, ◌<◌, ◌≤◌}
use Prim.Native.Char.{code}
use native.Mathlib.Omega.{arith}
use borrow.Author.Tests.{lt-ltb, le-ltb, ltb-false}
use borrow.Rule.Slice.PartMut.{put_mid}
use lib.Dec.{ltb}
use lib.ListN.{length, replicate, set, length-append, length-replicate}
use lib.Seq.{take_at, drop_at}
use Rattle.std.proofs.lemmas.Bool.{ltb-true}
use Rattle.std.proofs.lemmas.List.{replicate-append-replicate}
use Rattle.text.specs.Byte.{Bytes}
use Rattle.text.specs.Number.{digits_of}
use Rattle.text.proofs.DigitsOf.{digits-length}
use Rattle.digits.specs.Decimal.{decimal, most_digits}
use Rattle.digits.proofs.Decimal.{decimal_one, decimal_last}
use Rattle.padded.specs.Padding.{space}
use Rattle.pagetext.specs.Line.{right}

-- ---- A NUMBER IN ITS COLUMN

pub right_is : (w n k : ℕ) → k + length (decimal n) ≡ w → replicate k space ++ decimal n ≡ right w n
unfolding right
right_is w n k h =
    let behind : w - length (decimal n) ≡ k = omega (arith, h) in
    rw (le-ltb w (length (decimal n)) (omega (arith, h)), behind) refl

pub too_wide : (w n : ℕ) → w < length (decimal n) → replicate w (code "*") ≡ right w n
unfolding right
too_wide w n h = rw (lt-ltb w (length (decimal n)) h) refl

-- ---- ITS DIGITS, two at a time

pub decimal_two : (n : ℕ) → 10 ≤ n → n < 100 → decimal n ≡ digits_of 2 n
unfolding digits_of
decimal_two n low high =
    let front : 48 + n / 10 ≡ 48 + n / 10 % 10 = omega arith in
    decimal_last n low (omega arith) ∙ rw (decimal_one (n / 10) (omega arith), front) refl

pub decimal_pair : (n : ℕ) → 100 ≤ n → n < 10 ^ most_digits → decimal n ≡ decimal (n / 100) ++ digits_of 2 (n % 100)
unfolding digits_of
decimal_pair n low high =
    let front : n / 10 / 10 ≡ n / 100 = omega arith in
    let first : n / 10 % 10 ≡ n % 100 / 10 % 10 = omega arith in
    let second : n % 10 ≡ n % 100 % 10 = omega arith in
    decimal_last n (omega arith) high
    ∙ rw (decimal_last (n / 10) (omega arith) (omega arith), front, first, second)
    (append_assoc (decimal (n / 100)) ((48 + n % 100 / 10 % 10) ∷ []) ((48 + n % 100 % 10) ∷ []))

pub some_digit : (n : ℕ) → n < 10 ^ most_digits → 1 ≤ length (decimal n)
some_digit n h = by_size (ltb n 10) refl
  where
    by_size : (b : Bool) → ltb n 10 ≡ b → 1 ≤ length (decimal n)
    by_size true e = rw (decimal_one n (ltb-true n 10 e)) (omega arith)
    by_size false e = rw (decimal_last n (ltb-false n 10 e) h) (omega (arith, length-append (decimal (n / 10)) ((48 + n % 10) ∷ [])))

pub two_digits : (n : ℕ) → 10 ≤ n → n < 10 ^ most_digits → 2 ≤ length (decimal n)
two_digits n low high =
    rw (decimal_last n low high) (omega (arith, length-append (decimal (n / 10)) ((48 + n % 10) ∷ []), some_digit (n / 10) (omega arith)))

set_last : (e k v : ℕ) (s : Bytes) → suc k ≡ e → set (replicate e space ++ s) k v ≡ replicate k space ++ v ∷ s
set_last e k v s h = rw (← h) (go k)
  where
    go : (j : ℕ) → set (replicate (suc j) space ++ s) j v ≡ replicate j space ++ v ∷ s
    go zero = refl
    go (suc j) = ap (λ (t : Bytes). space ∷ t) (go j)

-- where neither one digit nor two have room
pub short_of : (n room : ℕ) → n < 10 ^ most_digits → (n < 10 × room < 1) ⊎ (10 ≤ n) → (10 ≤ n × room < 2) ⊎ (n < 10) → room < length (decimal n)
short_of n room h one two =
    ⊎_elim
    (λ (q : n < 10 × room < 1). omega (arith, q.1, some_digit n h))
    (λ (q : 10 ≤ n). ⊎_elim (λ (r : 10 ≤ n × room < 2). omega (arith, r.1, two_digits n q h)) (λ (r : n < 10). absurd (omega (arith, q, r))) two)
    one

-- ---- THE COLUMN: spaces, and behind them the last digits, put so far; those of `rest` are to come
pub record Filled (n rest end : ℕ) (column : Bytes) : Type 0 where
  pub digits : Bytes
  pub are : column ≡ replicate end space ++ digits
  pub of_it : decimal n ≡ decimal rest ++ digits

pub none_filled : (n : ℕ) (column : Bytes) (w : ℕ) → column ≡ replicate w space → Filled n n w column
none_filled n column w e = record { digits = []; are = e ∙ sym (append-nil (replicate w space)); of_it = sym (append-nil (decimal n)) }

module _ (n rest end : ℕ) (column : Bytes) (f : Filled n rest end column) where
  -- k spaces stay, and m digits come in front of those that are there
  put_in : (k m : ℕ) (s : Bytes) → k + m ≡ end → length s ≡ m → put_mid k m column s ≡ replicate k space ++ (s ++ f.digits)
  put_in k m s e h =
      rw (f.are, ← e, ← replicate-append-replicate k m space, append_assoc (replicate k space) (replicate m space) f.digits)
      (rw (
        take_at (replicate k space) (replicate m space ++ f.digits) k (length-replicate k space),
        drop_at (replicate k space) (replicate m space ++ f.digits) k (length-replicate k space),
        drop_at (replicate m space) f.digits m (length-replicate m space),
      ) refl)

  pub pair_filled : (s : Bytes) → 2 ≤ end → s ≡ digits_of 2 (rest % 100) → 100 ≤ rest → rest < 10 ^ most_digits
      → Filled n (rest / 100) (end - 2) (put_mid (end - 2) (end - (end - 2)) column s)
  pair_filled s l e low high =
      let two : end - (end - 2) ≡ 2 = omega (arith, l) in
      record {
        digits = s ++ f.digits;
        are = rw two (put_in (end - 2) 2 s (omega (arith, l)) (ap length e ∙ digits-length 2 (rest % 100)));
        of_it = f.of_it ∙ rw (decimal_pair rest low high, e) (append_assoc (decimal (rest / 100)) (digits_of 2 (rest % 100)) f.digits);
      }

  module _ (w : ℕ) (size : length column ≡ w) where
    filled_length : w ≡ end + length f.digits
    filled_length = sym size ∙ ap length f.are ∙ length-append (replicate end space) f.digits ∙ omega (arith, length-replicate end space)

    digits_number : length (decimal n) ≡ length (decimal rest) + length f.digits
    digits_number = ap length f.of_it ∙ length-append (decimal rest) f.digits

    pub last_pair : (s : Bytes) → 2 ≤ end → s ≡ digits_of 2 rest → 10 ≤ rest → rest < 100
        → put_mid (end - 2) (end - (end - 2)) column s ≡ right w n
    last_pair s l e low high =
        let two : end - (end - 2) ≡ 2 = omega (arith, l) in
        let two_of_it : length s ≡ 2 = ap length e ∙ digits-length 2 rest in
        let whole : decimal n ≡ s ++ f.digits = f.of_it ∙ rw (decimal_two rest low high, e) refl in
        rw two
        (put_in (end - 2) 2 s (omega (arith, l)) two_of_it
        ∙ ap (λ (t : Bytes). replicate (end - 2) space ++ t) (sym whole)
        ∙ right_is w n (end - 2) (omega (arith, l, filled_length, ap length whole ∙ length-append s f.digits, two_of_it)))

    pub last_digit : 1 ≤ end → rest < 10 → set column (end - 1) (48 + rest) ≡ right w n
    last_digit l h =
        let whole : decimal n ≡ (48 + rest) ∷ f.digits = f.of_it ∙ rw (decimal_one rest h) refl in
        rw f.are (set_last end (end - 1) (48 + rest) f.digits (omega (arith, l)))
        ∙ ap (λ (t : Bytes). replicate (end - 1) space ++ t) (sym whole)
        ∙ right_is w n (end - 1) (omega (arith, l, filled_length, ap length whole))

    pub no_room : end < length (decimal rest) → replicate (length column) (code "*") ≡ right w n
    no_room h = rw size (too_wide w n (omega (arith, h, filled_length, digits_number)))
