-- Digits without the zeros in front.
-- Assumes nothing.
use mathlib.Core.Path.{◌≡◌, refl, ap, sym, ◌∙◌}
use mathlib.Core.List.{[], ◌∷◌, ◌++◌, append_assoc, append-nil}
use mathlib.Core.Bool.{Bool, true, false, not, cond, ◌||◌}
use Prim.Native.Nat.{ℕ, zero, suc, ◌+◌, ◌-◌, ◌*◌, ◌/◌, ◌%◌, ◌^◌, ◌<◌, ◌≤◌}
use Prim.Native.Char.{code}
use native.Mathlib.Nat.{add-zero, add-suc}
use native.Mathlib.Numerals.{add-one}
use native.Mathlib.Omega.{arith}
use lib.Dec.{eqb, ltb}
use lib.ListN.{length, replicate}
use borrow.Author.Tests.{ne_eqb, ltb-false}
use Rattle.std.proofs.lemmas.Bool.{ltb-true}
use Rattle.text.proofs.Truth.{apart}
use Rattle.std.specs.Prelude.{Option, Some, None, IfSome, IfNone}
use Rattle.std.specs.Option.{unwrap_or}
use Rattle.std.proofs.lemmas.List.{replicate-append-replicate}
use Rattle.text.specs.Byte.{Bytes}
use Rattle.text.specs.Number.{digits_of}
use Rattle.text.proofs.DigitsOf.{digits-length}
use Rattle.digits.specs.Decimal.{trimmed, decimal, most_digits}

zeros-only : (j : ℕ) → digits_of j 0 ≡ replicate j 48
unfolding digits_of
zeros-only zero = refl
zeros-only (suc j) =
    ap (λ (s : Bytes). s ++ 48 ∷ []) (zeros-only j) ∙ replicate-append-replicate j 1 48 ∙ ap (λ (k : ℕ). replicate k 48) (add-one j)

-- a number's digits behind as many zeros as there is room for
zeros-front : (j w n : ℕ) → n < 10 ^ w → digits_of (j + w) n ≡ replicate j 48 ++ digits_of w n
unfolding digits_of
zeros-front j zero n h =
    let e : n ≡ 0 = omega arith in
    rw (e, add-zero j) (zeros-only j ∙ sym (append-nil (replicate j 48)))
zeros-front j (suc w) n h =
    rw (add-suc j w) (ap (λ (s : Bytes). s ++ (48 + n % 10) ∷ []) (zeros-front j w (n / 10) (omega arith)) ∙ append_assoc (replicate j 48) (digits_of w (n / 10)) ((48 + n % 10) ∷ []))

-- zeros in front of another digit
zeros-off : (j d : ℕ) (s : Bytes) → trimmed (replicate j 48 ++ d ∷ s) ≡ trimmed (d ∷ s)
unfolding trimmed
zeros-off zero d s = refl
zeros-off (suc zero) d s = refl
zeros-off (suc (suc j)) d s = zeros-off (suc j) d s

-- the first digit of a number that fills them
record First (n k : ℕ) : Type 0 where
  pub digit : ℕ
  pub rest : Bytes
  pub are : digits_of (suc k) n ≡ digit ∷ rest
  pub nonzero : digit ≡ 48 → ⊥

one_more : (k n : ℕ) → First (n / 10) k → First n (suc k)
unfolding digits_of
one_more k n f =
    record { digit = f.digit; rest = f.rest ++ (48 + n % 10) ∷ []; are = ap (λ (s : Bytes). s ++ (48 + n % 10) ∷ []) f.are; nonzero = f.nonzero }

first : (k n : ℕ) → 10 ^ k ≤ n → n < 10 * 10 ^ k → First n k
unfolding digits_of
first zero n low high = record { digit = 48 + n % 10; rest = []; are = refl; nonzero = λ e. omega (arith, e) }
first (suc k) n low high = one_more k n (first k (n / 10) (omega arith) (omega arith))

full : (d : ℕ) (s : Bytes) → (d ≡ 48 → ⊥) → trimmed (d ∷ s) ≡ d ∷ s
unfolding trimmed
full d [] h = refl
full d (e ∷ s) h = rw (ne_eqb d 48 h)

fitting : (k n : ℕ) → k < most_digits → 10 ^ k ≤ n → n < 10 * 10 ^ k → decimal n ≡ digits_of (suc k) n
unfolding decimal
fitting k n few low high =
    let f : First n k = first k n low high in
    let j : ℕ = 9 - k in
    let width : j + suc k ≡ most_digits = omega arith in
    ap (λ (w : ℕ). trimmed (digits_of w n)) (sym width)
    ∙ ap trimmed (zeros-front j (suc k) n (omega arith) ∙ ap (λ (s : Bytes). replicate j 48 ++ s) f.are)
    ∙ zeros-off j f.digit f.rest ∙ full f.digit f.rest f.nonzero ∙ sym f.are

-- how many digits a number has, by the power of ten that it reaches
pub size_is : (n : ℕ) (power : Option ℕ) → IfNone power (n ≡ 0) → IfSome power (λ k. 10 ^ k ≤ n) → IfSome power (λ k. n < 10 * 10 ^ k)
    → IfSome power (λ k. k < most_digits) → decimal n ≡ digits_of (unwrap_or power 0 + 1) n
unfolding decimal digits_of trimmed
size_is n None none low high few = rw none refl
size_is n (Some k) none low high few = fitting k n few low high ∙ ap (λ (w : ℕ). digits_of w n) (sym (add-one k))

pub decimal-length : (n size : ℕ) → decimal n ≡ digits_of size n → length (decimal n) ≡ size
decimal-length n size e = ap length e ∙ digits-length size n

no_longer : (b : Bool) (x y : Bytes) → length x ≤ length y → length (cond b x y) ≤ length y
no_longer true x y h = h
no_longer false x y h = omega arith

pub trimmed-length : (s : Bytes) → length (trimmed s) ≤ length s
unfolding trimmed
trimmed-length [] = omega arith
trimmed-length (d ∷ []) = omega arith
trimmed-length (d ∷ e ∷ s) = no_longer (eqb d (code "0")) (trimmed (e ∷ s)) (d ∷ e ∷ s) (omega (arith, trimmed-length (e ∷ s)))

pub decimal-short : (n : ℕ) → length (decimal n) ≤ most_digits
unfolding decimal
decimal-short n = omega (arith, trimmed-length (digits_of most_digits n), digits-length most_digits n)

-- ONE DIGIT AFTER THE OTHER, from the last
pub decimal_one : (n : ℕ) → n < 10 → decimal n ≡ (code "0" + n) ∷ []
unfolding decimal digits_of trimmed
decimal_one n h =
    let one : 48 + n % 10 ≡ 48 + n = omega arith in
    ap trimmed (zeros-front 9 1 n (omega arith)) ∙ zeros-off 9 (48 + n % 10) [] ∙ ap (λ (d : ℕ). d ∷ []) one

-- some digit is no zero
some : Bytes → Bool
some [] = false
some (d ∷ s) = not (eqb d 48) || some s

some_front : (s t : Bytes) → some s ≡ true → some (s ++ t) ≡ true
unfolding some
some_front [] t h = absurd (apart h)
some_front (d ∷ s) t h = go (some_front s t) (not (eqb d 48)) h
  where
    go : (some s ≡ true → some (s ++ t) ≡ true) → (b : Bool) → (b || some s) ≡ true → (b || some (s ++ t)) ≡ true
    go rest true h = refl
    go rest false h = rest h

some_end : (s : Bytes) (d : ℕ) → (d ≡ 48 → ⊥) → some (s ++ d ∷ []) ≡ true
unfolding some
some_end [] d h = rw (ne_eqb d 48 h) refl
some_end (e ∷ s) d h = go (some_end s d h) (not (eqb e 48))
  where
    go : some (s ++ d ∷ []) ≡ true → (b : Bool) → (b || some (s ++ d ∷ [])) ≡ true
    go rest true = refl
    go rest false = rest

digits-some : (w n : ℕ) → 0 < n → n < 10 ^ w → some (digits_of w n) ≡ true
unfolding digits_of
digits-some zero n z h = absurd (omega (arith, z, h))
digits-some (suc w) n z h = by_front (λ g. digits-some w (n / 10) g (omega arith)) (ltb 0 (n / 10)) refl
  where
    by_front : (0 < n / 10 → some (digits_of w (n / 10)) ≡ true) → (b : Bool) → ltb 0 (n / 10) ≡ b
        → some (digits_of w (n / 10) ++ (48 + n % 10) ∷ []) ≡ true
    by_front rest true e = some_front (digits_of w (n / 10)) _ (rest (ltb-true 0 (n / 10) e))
    by_front rest false e = some_end (digits_of w (n / 10)) (48 + n % 10) (λ q. omega (arith, q, z, ltb-false 0 (n / 10) e))

trimmed_end : (s : Bytes) (d : ℕ) → some s ≡ true → trimmed (s ++ d ∷ []) ≡ trimmed s ++ d ∷ []
unfolding trimmed some
trimmed_end [] d h = absurd (apart h)
trimmed_end (e ∷ []) d h = go (eqb e 48) h
  where
    go : (b : Bool) → (not b || false) ≡ true → cond b (d ∷ []) (e ∷ d ∷ []) ≡ e ∷ d ∷ []
    go true h = absurd (apart h)
    go false h = refl
trimmed_end (e ∷ f ∷ s) d h = go (trimmed_end (f ∷ s) d) (eqb e 48) h
  where
    go : (some (f ∷ s) ≡ true → trimmed (f ∷ s ++ d ∷ []) ≡ trimmed (f ∷ s) ++ d ∷ []) → (b : Bool) → (not b || some (f ∷ s)) ≡ true
        → cond b (trimmed (f ∷ s ++ d ∷ [])) (e ∷ f ∷ s ++ d ∷ []) ≡ cond b (trimmed (f ∷ s)) (e ∷ f ∷ s) ++ d ∷ []
    go rest true h = rest h
    go rest false h = refl

pub decimal_last : (n : ℕ) → 10 ≤ n → n < 10 ^ most_digits → decimal n ≡ decimal (n / 10) ++ (code "0" + n % 10) ∷ []
unfolding decimal digits_of trimmed some
decimal_last n low high =
    let front : some (digits_of 9 (n / 10)) ≡ true = digits-some 9 (n / 10) (omega arith) (omega arith) in
    trimmed_end (digits_of 9 (n / 10)) (48 + n % 10) front
    ∙ ap (λ (s : Bytes). s ++ (48 + n % 10) ∷ []) (sym (ap trimmed (zeros-front 1 9 (n / 10) (omega arith)) ∙ zero_off (digits_of 9 (n / 10)) front))
  where
    zero_off : (s : Bytes) → some s ≡ true → trimmed (48 ∷ s) ≡ trimmed s
    zero_off [] h = absurd (apart h)
    zero_off (d ∷ s) h = refl
