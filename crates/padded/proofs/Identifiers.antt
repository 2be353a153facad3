-- The tests of every byte that decide on a padded ESI ID, and on a padded DUNS number.
-- Assumes nothing.
use mathlib.Core.Path.{◌≡◌, refl, sym, ap, ◌∙◌}
use mathlib.Core.List.{[], ◌∷◌, ◌++◌}
use mathlib.Core.Bool.{Bool, true, false, cond, not, ◌&&◌, ◌||◌, and-true, and_assoc, or-true, or-false}
use mathlib.Core.Logic.{◌⊎◌, inl, inr, ⊎_elim}
use Prim.Native.Nat.{ℕ, zero, suc, ◌-◌, ◌≤◌}
use native.Mathlib.Omega.{arith}
use lib.Dec.{eqb}
use lib.ListN.{length, take, drop, get_or, take-append-drop, length-drop}
use lib.Seq.{take_all, length-take-le, drop-nil}
use borrow.Author.Tests.{eqb-true, le-leb}
use Rattle.text.specs.Byte.{Bytes, every, is_alnum, is_digit}
use Rattle.text.specs.Identifier.{is_name, is_esi_id, is_duns}
use Rattle.text.proofs.Truth.{apart, and_left, and_right}
use Rattle.text.proofs.Left.{left-whole}
use Rattle.padded.specs.Padding.{is_space, unpad, unpad_to}
use Rattle.padded.specs.Private.{is_padded, spaces_last}
use Rattle.padded.proofs.Unpad.{space_no_alnum, unpad-nil, unpad-head, unpad-within, unpad-take, unpad-drop, digits-unpad, spaces_unpad}

-- ---- AN ESI ID

choice : (a b c x y : Bool) → (b ≡ true → a ≡ false) → (c ≡ true → (x && y) ≡ false)
    → (a && (x && y)) ≡ (((a || b) && x) && ((not b || c) && y))
choice true true c x y f g = absurd (apart (sym (f refl)))
choice true false c true y f g = refl
choice true false c false y f g = refl
choice false true true true y f g = sym (g refl)
choice false true true false y f g = refl
choice false true false true y f g = refl
choice false true false false y f g = refl
choice false false c x y f g = refl

-- of two or more bytes: `u` is what is left of those after the first
alnum_more : (b c : ℕ) (s u : Bytes) → unpad (c ∷ s) ≡ u → (every is_padded (c ∷ s) && spaces_last (c ∷ s)) ≡ every is_alnum u
    → every is_alnum (unpad_to b u) ≡ ((is_padded b && every is_padded (c ∷ s)) && ((not (is_space b) || is_space c) && spaces_last (c ∷ s)))
unfolding unpad every
alnum_more b c s [] e h = go (is_space b) refl (every is_padded (c ∷ s)) (spaces_last (c ∷ s)) h (is_space c) (unpad-nil c (unpad s) e)
  where
    go : (z : Bool) → is_space b ≡ z → (x y : Bool) → (x && y) ≡ true → (w : Bool) → w ≡ true
        → every is_alnum (cond (is_space b) [] (b ∷ [])) ≡ (((is_alnum b || is_space b) && x) && ((not (is_space b) || w) && y))
    go true f x y k w l = simp (f, and_left x y k, and_right x y k, l, or-true)
    go false f x y k w l = simp (f, and_left x y k, and_right x y k, or-false, and-true)
alnum_more b c s (d ∷ u) e h =
    ap (λ (t : Bool). is_alnum b && t) (sym h)
    ∙ choice (is_alnum b) (is_space b) (is_space c) (every is_padded (c ∷ s)) (spaces_last (c ∷ s)) (space_no_alnum b)
    (λ f. h ∙ ap (λ (t : Bool). t && every is_alnum u) (ap is_alnum (unpad-head c d (unpad s) u e) ∙ space_no_alnum c f))

unpad_alnum : (s : Bytes) → every is_alnum (unpad s) ≡ (every is_padded s && spaces_last s)
unfolding unpad every spaces_last
unpad_alnum [] = refl
unpad_alnum (b ∷ []) = go (is_space b) refl
  where
    go : (z : Bool) → is_space b ≡ z → every is_alnum (cond (is_space b) [] (b ∷ [])) ≡ (((is_alnum b || is_space b) && true) && true)
    go true f = simp (f, or-true)
    go false f = simp (f, or-false, and-true)
unpad_alnum (b ∷ c ∷ s) = alnum_more b c s (unpad (c ∷ s)) refl (sym (unpad_alnum (c ∷ s)))

esi_id_padded : (s : Bytes) → length s ≡ 64 → ((not (is_space (get_or s 0 0)) && every is_padded s) && spaces_last s) ≡ is_esi_id (unpad s)
unfolding unpad is_name every
esi_id_padded [] h = absurd (omega arith)
esi_id_padded (c ∷ s) h =
    go (unpad (c ∷ s)) refl (every is_padded (c ∷ s)) (spaces_last (c ∷ s)) (unpad_alnum (c ∷ s)) (is_space c) refl (rw h at (unpad-within (c ∷ s)))
  where
    go : (u : Bytes) → unpad (c ∷ s) ≡ u → (x y : Bool) → every is_alnum u ≡ (x && y) → (z : Bool) → is_space c ≡ z → length u ≤ 64
        → ((not (is_space c) && x) && y) ≡ is_esi_id u
    go [] e x y a z f l = rw (unpad-nil c (unpad s) e)
    go (d ∷ u) e x y a true f l =
        let n : is_alnum d ≡ false = ap is_alnum (unpad-head c d (unpad s) u e) ∙ space_no_alnum c f in
        simp (f, n, le-leb 1 (suc (length u)) (omega arith), le-leb (suc (length u)) 64 l)
    go (d ∷ u) e x y a false f l = rw (f, le-leb 1 (suc (length u)) (omega arith), le-leb (suc (length u)) 64 l) (bool x y ∙ sym a)
      where
        bool : (x y : Bool) → ((true && x) && y) ≡ (x && y)
        bool x y = refl

-- neighbours tested in two runs that have a pair in common
twice : (p x : Bool) → (p && x) ≡ ((p && true) && (p && x))
twice true x = refl
twice false x = refl

last_runs : (n : ℕ) (s : Bytes) → spaces_last s ≡ (spaces_last (take (suc (suc n)) s) && spaces_last (drop n s))
unfolding spaces_last
last_runs zero [] = refl
last_runs zero (b ∷ []) = refl
last_runs zero (b ∷ c ∷ s) = twice (not (is_space b) || is_space c) (spaces_last (c ∷ s))
last_runs (suc n) [] = refl
last_runs (suc n) (b ∷ []) = ap spaces_last (sym (drop-nil n))
last_runs (suc n) (b ∷ c ∷ s) =
    ap (λ (x : Bool). (not (is_space b) || is_space c) && x) (last_runs n (c ∷ s))
    ∙ sym (and_assoc (not (is_space b) || is_space c) (spaces_last (c ∷ take (suc n) s)) (spaces_last (drop n (c ∷ s))))

pub esi_id-tests : (s : Bytes) (padded front back : Bool) → length s ≡ 64 → padded ≡ every is_padded s → front ≡ spaces_last (take 49 s)
    → back ≡ spaces_last (take 17 (drop 47 s)) → (((not (is_space (get_or s 0 0)) && padded) && front) && back) ≡ is_esi_id (unpad s)
esi_id-tests s padded front back n ep ef eb =
    let t : take 17 (drop 47 s) ≡ drop 47 s = take_all 17 (drop 47 s) (rw (length-drop 47 s, n) (omega arith)) in
    rw (ep, ef, eb, t)
    (and_assoc (not (is_space (get_or s 0 0)) && every is_padded s) (spaces_last (take 49 s)) (spaces_last (drop 47 s))
    ∙ ap (λ (x : Bool). (not (is_space (get_or s 0 0)) && every is_padded s) && x) (sym (last_runs 47 s)) ∙ esi_id_padded s n)

-- ---- A DUNS NUMBER

every_append : (class : ℕ → Bool) (s t : Bytes) → every class (s ++ t) ≡ (every class s && every class t)
unfolding every
every_append class [] t = refl
every_append class (b ∷ s) t = ap (λ (x : Bool). class b && x) (every_append class s t) ∙ sym (and_assoc (class b) (every class s) (every class t))

or_cases : (a b : Bool) → (a || b) ≡ true → (a ≡ true) ⊎ (b ≡ true)
or_cases true b h = inl refl
or_cases false b h = inr h

if_and_only_if : (a b : Bool) → (a ≡ true → b ≡ true) → (b ≡ true → a ≡ true) → a ≡ b
if_and_only_if true b f g = sym (f refl)
if_and_only_if false true f g = g refl
if_and_only_if false false f g = refl

module _ (s : Bytes) (n : length s ≡ 13) where
  there : (every is_digit (take 9 s) && (every is_digit (drop 9 s) || every is_space (drop 9 s))) ≡ true → is_duns (unpad s) ≡ true
  unfolding is_duns
  there h =
      let nine : every is_digit (take 9 s) ≡ true = and_left (every is_digit (take 9 s)) (every is_digit (drop 9 s) || every is_space (drop 9 s)) h in
      let parts : take 9 s ++ drop 9 s ≡ s = take-append-drop 9 s in
      let long : length (take 9 s) ≡ 9 = length-take-le 9 s (omega arith) in
      ⊎_elim
      (λ (d : every is_digit (drop 9 s) ≡ true).
      let whole : every is_digit s ≡ true = rw (← parts, every_append, nine, d) in
      rw (digits-unpad s whole, n, whole))
      (λ (d : every is_space (drop 9 s) ≡ true).
      let same : unpad s ≡ take 9 s = ap unpad (sym parts) ∙ spaces_unpad (take 9 s) (drop 9 s) d ∙ digits-unpad (take 9 s) nine in
      rw (same, long, nine))
      (or_cases (every is_digit (drop 9 s)) (every is_space (drop 9 s))
      (and_right (every is_digit (take 9 s)) (every is_digit (drop 9 s) || every is_space (drop 9 s)) h))

  back_again : is_duns (unpad s) ≡ true → (every is_digit (take 9 s) && (every is_digit (drop 9 s) || every is_space (drop 9 s))) ≡ true
  unfolding is_duns
  back_again h =
      let size : Bool = eqb (length (unpad s)) 9 || eqb (length (unpad s)) 13 in
      let digits : every is_digit (unpad s) ≡ true = and_right size (every is_digit (unpad s)) h in
      ⊎_elim
      (λ (e : eqb (length (unpad s)) 9 ≡ true).
      let long : length (unpad s) ≡ 9 = eqb-true _ _ e in
      let front : take 9 s ≡ unpad s = rw long at (unpad-take s) in
      let rest : every is_space (drop 9 s) ≡ true = rw long at (unpad-drop s) in
      rw (front, digits, rest, or-true))
      (λ (e : eqb (length (unpad s)) 13 ≡ true).
      let long : length (unpad s) ≡ 13 = eqb-true _ _ e in
      let same : s ≡ unpad s = sym (take_all 13 s (omega arith)) ∙ (rw long at (unpad-take s)) in
      let whole : every is_digit s ≡ true = ap (every is_digit) same ∙ digits in
      let both : (every is_digit (take 9 s) && every is_digit (drop 9 s)) ≡ true =
      sym (every_append is_digit (take 9 s) (drop 9 s)) ∙ ap (every is_digit) (take-append-drop 9 s) ∙ whole in
      rw (and_left (every is_digit (take 9 s)) (every is_digit (drop 9 s)) both, and_right (every is_digit (take 9 s)) (every is_digit (drop 9 s)) both))
      (or_cases (eqb (length (unpad s)) 9) (eqb (length (unpad s)) 13) (and_left size (every is_digit (unpad s)) h))

  pub duns-tests : (nine rest spaces : Bool) → nine ≡ every is_digit (take 9 s) → rest ≡ every is_digit (take (length s - 9) (drop 9 s))
      → spaces ≡ every is_space (take (length s - 9) (drop 9 s)) → (nine && (rest || spaces)) ≡ is_duns (unpad s)
  duns-tests nine rest spaces en er es = rw (en, er, es, left-whole s 9) (if_and_only_if _ _ there back_again)
