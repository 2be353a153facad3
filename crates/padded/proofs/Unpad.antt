-- A text without the spaces at its end: what it is of the whole, and that padding adds nothing else.
-- Assumes nothing.
use mathlib.Core.Path.{◌≡◌, refl, sym, ap, ◌∙◌}
use mathlib.Core.List.{[], ◌∷◌, ◌++◌}
use mathlib.Core.Bool.{Bool, true, false}
use Prim.Native.Nat.{ℕ, zero, suc, ◌-◌, ◌<◌, ◌≤◌}
use native.Mathlib.Omega.{arith}
use lib.ListN.{length, get_or, take, drop, replicate, take-append-drop, length-drop}
use lib.Seq.{take-suc, take-length}
use borrow.Author.Tests.{eqb-true, ne_eqb}
use Rattle.text.specs.Byte.{Bytes, is_digit, is_alnum, every}
use Rattle.text.proofs.Truth.{apart, and_left, and_right}
use Rattle.padded.specs.Padding.{space, is_space, pad, unpad, unpad_to}

-- ---- letters and digits are no spaces

pub space_no_alnum : (b : ℕ) → is_space b ≡ true → is_alnum b ≡ false
space_no_alnum b h = rw (eqb-true b space h)

pub space_no_digit : (b : ℕ) → is_space b ≡ true → is_digit b ≡ false
space_no_digit b h = rw (eqb-true b space h)

-- a byte of a class that has no space
no_space : (class : ℕ → Bool) → ((b : ℕ) → is_space b ≡ true → class b ≡ false) → (b : ℕ) → class b ≡ true → is_space b ≡ false
no_space class apart_from b h = go (is_space b) refl
  where
    go : (t : Bool) → is_space b ≡ t → is_space b ≡ false
    go true e = absurd (apart (sym (apart_from b e) ∙ h))
    go false e = e

-- ---- what is left of a text

pub unpad-nil : (c : ℕ) (v : Bytes) → unpad_to c v ≡ [] → is_space c ≡ true
unpad-nil c [] e = go (is_space c) refl
  where
    go : (x : Bool) → is_space c ≡ x → is_space c ≡ true
    go true f = f
    go false f = let z : ◌≡◌ {A = Bytes} (c ∷ []) [] = rw f at e in absurd cc
unpad-nil c (x ∷ v) e = absurd cc

pub unpad-head : (c d : ℕ) (v t : Bytes) → unpad_to c v ≡ d ∷ t → d ≡ c
unpad-head c d [] t e = go (is_space c) refl
  where
    go : (x : Bool) → is_space c ≡ x → d ≡ c
    go true f = let z : ◌≡◌ {A = Bytes} [] (d ∷ t) = rw f at e in absurd cc
    go false f = let z : ◌≡◌ {A = Bytes} (c ∷ []) (d ∷ t) = rw f at e in cc
unpad-head c d (x ∷ v) t e = cc

-- it is the text's beginning, and only spaces stand behind it
pub unpad-within : (s : Bytes) → length (unpad s) ≤ length s
unfolding unpad
unpad-within [] = omega arith
unpad-within (b ∷ s) = go (unpad s) (unpad-within s) (is_space b) refl
  where
    go : (u : Bytes) → length u ≤ length s → (x : Bool) → is_space b ≡ x → length (unpad_to b u) ≤ suc (length s)
    go [] h true e = rw e (omega arith)
    go [] h false e = rw e (omega arith)
    go (c ∷ u) h x e = omega arith

pub unpad-take : (s : Bytes) → take (length (unpad s)) s ≡ unpad s
unfolding unpad
unpad-take [] = refl
unpad-take (b ∷ s) = go (unpad s) (unpad-take s) (is_space b) refl
  where
    go : (u : Bytes) → take (length u) s ≡ u → (x : Bool) → is_space b ≡ x → take (length (unpad_to b u)) (b ∷ s) ≡ unpad_to b u
    go [] h true e = rw e
    go [] h false e = rw e (ap (λ (l : Bytes). b ∷ l) h)
    go (c ∷ u) h x e = ap (λ (l : Bytes). b ∷ l) h

pub unpad-drop : (s : Bytes) → every is_space (drop (length (unpad s)) s) ≡ true
unfolding unpad every
unpad-drop [] = refl
unpad-drop (b ∷ s) = go (unpad s) (unpad-drop s) (is_space b) refl
  where
    go : (u : Bytes) → every is_space (drop (length u) s) ≡ true → (x : Bool) → is_space b ≡ x → every is_space (drop (length (unpad_to b u)) (b ∷ s)) ≡ true
    go [] h true e = rw (e, e, h)
    go [] h false e = rw e h
    go (c ∷ u) h x e = h

-- ---- nothing to take away, and spaces

clean-unpad : (class : ℕ → Bool) → ((b : ℕ) → is_space b ≡ true → class b ≡ false) → (s : Bytes) → every class s ≡ true → unpad s ≡ s
unfolding unpad every
clean-unpad class apart_from [] h = refl
clean-unpad class apart_from (b ∷ s) h = go s (clean-unpad class apart_from s (and_right (class b) (every class s) h))
  where
    go : (t : Bytes) → unpad s ≡ t → unpad_to b (unpad s) ≡ b ∷ t
    go [] e = rw (e, no_space class apart_from b (and_left (class b) (every class s) h))
    go (c ∷ t) e = rw e

pub digits-unpad : (s : Bytes) → every is_digit s ≡ true → unpad s ≡ s
digits-unpad s h = clean-unpad is_digit space_no_digit s h

pub alnum-unpad : (s : Bytes) → every is_alnum s ≡ true → unpad s ≡ s
alnum-unpad s h = clean-unpad is_alnum space_no_alnum s h

pub spaces_unpad : (s t : Bytes) → every is_space t ≡ true → unpad (s ++ t) ≡ unpad s
unfolding unpad every
spaces_unpad [] [] h = refl
spaces_unpad [] (b ∷ t) h = rw (spaces_unpad [] t (and_right (is_space b) (every is_space t) h), and_left (is_space b) (every is_space t) h)
spaces_unpad (b ∷ s) t h = ap (unpad_to b) (spaces_unpad s t h)

-- ---- PADDED, A TEXT OF LETTERS AND DIGITS is left as it was.

spaces_only : (n : ℕ) → every is_space (replicate n space) ≡ true
unfolding every
spaces_only zero = refl
spaces_only (suc n) = spaces_only n

pub unpad-pad : (n : ℕ) (s : Bytes) → every is_alnum s ≡ true → unpad (pad n s) ≡ s
unfolding pad
unpad-pad n s h = spaces_unpad s (replicate (n - length s) space) (spaces_only (n - length s)) ∙ alnum-unpad s h

-- ---- PADDED AGAIN, A TEXT is what it was.

spaces_are : (s : Bytes) → every is_space s ≡ true → s ≡ replicate (length s) space
unfolding every
spaces_are [] h = refl
spaces_are (b ∷ s) h =
    let e : b ≡ space = eqb-true b space (and_left (is_space b) (every is_space s) h) in
    rw e (ap (λ (t : Bytes). space ∷ t) (spaces_are s (and_right (is_space b) (every is_space s) h)))

pub pad-unpad : (n : ℕ) (s : Bytes) → length s ≡ n → pad n (unpad s) ≡ s
unfolding pad
pad-unpad n s e =
    let k : ℕ = length (unpad s) in
    let rest : length (drop k s) ≡ n - k = length-drop k s ∙ ap (λ (m : ℕ). m - k) e in
    let spaces : drop k s ≡ replicate (n - k) space = spaces_are (drop k s) (unpad-drop s) ∙ ap (λ (m : ℕ). replicate m space) rest in
    sym (sym (take-append-drop k s) ∙ rw (unpad-take s, spaces))

-- ---- THE SPACES ARE LEFT OUT ONE BY ONE, from the end.

last-stays : (s : Bytes) (b : ℕ) → is_space b ≡ false → unpad (s ++ b ∷ []) ≡ s ++ b ∷ []
unfolding unpad
last-stays [] b h = rw h
last-stays (c ∷ s) b h = ap (unpad_to c) (last-stays s b h) ∙ not_empty s
  where
    not_empty : (t : Bytes) → unpad_to c (t ++ b ∷ []) ≡ c ∷ (t ++ b ∷ [])
    not_empty [] = refl
    not_empty (d ∷ t) = refl

last_byte : (s : Bytes) → 1 ≤ length s → s ≡ take (length s - 1) s ++ get_or s (length s - 1) 0 ∷ []
last_byte s some =
    let e : suc (length s - 1) ≡ length s = omega arith in
    sym (take-length s) ∙ rw e at (take-suc s (length s - 1) 0 (omega arith))

pub space_left_out : (s : Bytes) → get_or s (length s - 1) 0 ≡ space → unpad (take (length s - 1) s) ≡ unpad s
unfolding every
space_left_out [] h = absurd (omega arith)
space_left_out (b ∷ s) h =
    let t : Bytes = b ∷ s in
    sym (spaces_unpad (take (length t - 1) t) (get_or t (length t - 1) 0 ∷ []) (rw h)) ∙ ap unpad (sym (last_byte t (omega arith)))

pub other_stays : (s : Bytes) → (get_or s (length s - 1) 0 ≡ space → ⊥) → s ≡ unpad s
unfolding unpad
other_stays [] h = refl
other_stays (b ∷ s) h =
    let t : Bytes = b ∷ s in
    let last : t ≡ take (length t - 1) t ++ get_or t (length t - 1) 0 ∷ [] = last_byte t (omega arith) in
    last ∙ sym (last-stays (take (length t - 1) t) (get_or t (length t - 1) 0) (ne_eqb (get_or t (length t - 1) 0) space h)) ∙ ap unpad (sym last)

pub none_left : (s : Bytes) → length s < 1 → s ≡ unpad s
unfolding unpad
none_left [] h = refl
none_left (b ∷ s) h = absurd (omega arith)
