-- Fields: the scan for a comma, the count of fields, and a line's list of fields taken one after the other.
-- Assumes nothing.
use mathlib.Core.Path.{◌≡◌, refl, ap, sym, ◌∙◌}
use mathlib.Core.List.{List, [], ◌∷◌, ◌++◌, append-nil}
use mathlib.Core.Bool.{Bool, true, false, cond, not}
use Prim.Native.Nat.{ℕ, zero, suc, ◌+◌, ◌<◌, ◌≤◌}
use native.Mathlib.Omega.{arith}
use native.Mathlib.Numerals.{add-one}
use lib.Dec.{eqb, leb}
use lib.ListN.{length, take, drop, get_or, length-take, length-drop}
use borrow.Author.Tests.{eq-eqb, ne_eqb, leb-true, leb-false, lt-leb, not-true}
use lib.Seq.{take_all}
use Rattle.std.specs.List.{position_or_len}
use Rattle.std.proofs.lemmas.List.Recursion.{is_position_or_len}
use Rattle.std.proofs.lemmas.List.Sums.{position_or_len_is}
use Rattle.text.specs.Byte.{Bytes, is_digit, is_alnum, every}
use Rattle.text.specs.Field.{comma, cut, in_front, first_field, after_field, field_at}
use Rattle.text.proofs.Truth.{apart, and_left, and_right}
use Rattle.text.proofs.Left.{left-cons, left-none}
use Rattle.text.proofs.Class.{digit_low, every-wider}

abbrev pub is_comma : ℕ → Bool
is_comma b = eqb b comma

-- THE FIRST FIELD is the line's bytes up to its length.
field_take-by : (t : Bool) (b : ℕ) (f s : Bytes) → f ≡ take (length f) s → cond t [] (b ∷ f) ≡ take (length (cond t [] (b ∷ f))) (b ∷ s)
field_take-by true b f s h = refl
field_take-by false b f s h = ap (λ r. b ∷ r) h

pub field_take : (s : Bytes) → first_field s ≡ take (length (first_field s)) s
unfolding first_field
field_take [] = refl
field_take (b ∷ s) = field_take-by (eqb b comma) b (first_field s) s (field_take s)

pub field-within : (s : Bytes) → length (first_field s) ≤ length s
field-within s = omega (arith, simp length-take at (ap length (field_take s)))

-- the field ends at the first comma, or where the line does
length-field : (s : Bytes) → length (first_field s) ≡ position_or_len is_comma s
unfolding first_field
length-field = is_position_or_len (λ s. length (first_field s)) is_comma refl step
  where
    step : (b : ℕ) (s : Bytes) → length (first_field (b ∷ s)) ≡ cond (is_comma b) 0 (1 + length (first_field s))
    step b s = go (is_comma b)
      where
        go : (t : Bool) → length (cond t [] (b ∷ first_field s)) ≡ cond t 0 (1 + length (first_field s))
        go true = refl
        go false = omega arith

pub field_until : (s : Bytes) (n : ℕ) → n ≤ length s → ((k : ℕ) → k < n → is_comma (get_or s k 0) ≡ false) → (n < length s → is_comma (get_or s n 0) ≡ true) → take n s ≡ first_field s
field_until s n within none ends = sym (field_take s ∙ rw (length-field s, position_or_len_is is_comma s n 0 within none ends))

pub field_whole : (s : Bytes) → ((k : ℕ) → k < length s → is_comma (get_or s k 0) ≡ false) → s ≡ first_field s
field_whole s none = sym (take_all (length s) s (omega arith)) ∙ field_until s (length s) (omega arith) none (λ h. absurd (omega (arith, h)))

-- BEHIND IT stands what follows its comma.
field_drop-by : (t : Bool) (b : ℕ) (f a s : Bytes) → drop (suc (length f)) s ≡ a → drop (suc (length (cond t [] (b ∷ f)))) (b ∷ s) ≡ cond t s a
field_drop-by true b f a s h = refl
field_drop-by false b f a s h = h

field_drop-suc : (s : Bytes) → drop (suc (length (first_field s))) s ≡ after_field s
unfolding first_field after_field
field_drop-suc [] = refl
field_drop-suc (b ∷ s) = field_drop-by (eqb b comma) b (first_field s) (after_field s) s (field_drop-suc s)

pub field_drop : (s : Bytes) → drop (length (first_field s) + 1) s ≡ after_field s
field_drop s = rw add-one (field_drop-suc s)

-- THE COUNT OF FIELDS
front_length : (b : ℕ) (fs : List Bytes) → 0 < length fs → length (in_front b fs) ≡ length fs
front_length b [] h = absurd (omega (arith, h))
front_length b (f ∷ fs) h = refl

some-by : (t : Bool) (b : ℕ) (fs : List Bytes) → 0 < length fs → 0 < length (cond t ([] ∷ fs) (in_front b fs))
some-by true b fs h = omega arith
some-by false b fs h = omega (arith, front_length b fs h)

pub cut-some : (s : Bytes) → 0 < length (cut s)
unfolding cut
cut-some [] = omega arith
cut-some (b ∷ s) = some-by (eqb b comma) b (cut s) (cut-some s)

-- the count: a comma, another byte, the end
module _ (s : Bytes) (i n : ℕ) (inv : length (cut s) + 1 ≡ n + length (cut (drop i s))) where
  pub count-comma : (m : ℕ) → m ≡ n + 1 → i < length s → get_or s i 0 ≡ comma → length (cut s) + 1 ≡ m + length (cut (drop (i + 1) s))
  unfolding cut
  count-comma m e h t = omega (arith, inv, one)
    where
      one : length (cut (drop i s)) ≡ suc (length (cut (drop (i + 1) s)))
      one = rw (left-cons s i h, eq-eqb _ _ t)

  pub count_other : (m : ℕ) → m ≡ n → i < length s → (get_or s i 0 ≡ comma → ⊥) → length (cut s) + 1 ≡ m + length (cut (drop (i + 1) s))
  unfolding cut
  count_other m e h t = omega (arith, inv, none)
    where
      none : length (cut (drop i s)) ≡ length (cut (drop (i + 1) s))
      none = rw (left-cons s i h, ne_eqb _ _ t) (front_length (get_or s i 0) (cut (drop (i + 1) s)) (cut-some (drop (i + 1) s)))

  pub count-last : length s ≤ i → n ≡ length (cut s)
  unfolding cut
  count-last h = omega (arith, inv, over)
    where
      over : length (cut (drop i s)) ≡ 1
      over = rw (left-none s i h)

-- THE LIST OF FIELDS: the first field, then those of what stands behind it.
more_by : (t : Bool) (b : ℕ) (s : Bytes) → (1 < length (cut s) → cut s ≡ first_field s ∷ cut (after_field s)) → 1 < length (cond t ([] ∷ cut s) (in_front b (cut s)))
    → cond t ([] ∷ cut s) (in_front b (cut s)) ≡ cond t [] (b ∷ first_field s) ∷ cut (cond t s (after_field s))
more_by true b s ih h = refl
more_by false b s ih h = ap (in_front b) (ih (omega (arith, front_length b (cut s) (cut-some s), h)))

pub cut-more : (s : Bytes) → 1 < length (cut s) → cut s ≡ first_field s ∷ cut (after_field s)
unfolding cut first_field after_field
cut-more [] h = absurd (omega (arith, h))
cut-more (b ∷ s) h = more_by (eqb b comma) b s (cut-more s) h

-- behind the first field: nothing, where the line ends with it, or the fields of what stands behind its comma
whole_by : (t : Bool) (b : ℕ) (s : Bytes) → (length s ≤ length (first_field s) → cut s ≡ first_field s ∷ []) → suc (length s) ≤ length (cond t [] (b ∷ first_field s))
    → cond t ([] ∷ cut s) (in_front b (cut s)) ≡ cond t [] (b ∷ first_field s) ∷ []
whole_by true b s ih h = absurd (omega (arith, h))
whole_by false b s ih h = ap (in_front b) (ih (omega (arith, h)))

pub cut_whole : (s : Bytes) → length s ≤ length (first_field s) → cut s ≡ first_field s ∷ []
unfolding cut first_field
cut_whole [] h = refl
cut_whole (b ∷ s) h = whole_by (eqb b comma) b s (cut_whole s) h

behind_by : (t : Bool) (b : ℕ) (s : Bytes) → (length (first_field s) < length s → cut s ≡ first_field s ∷ cut (after_field s)) → length (cond t [] (b ∷ first_field s)) < suc (length s)
    → cond t ([] ∷ cut s) (in_front b (cut s)) ≡ cond t [] (b ∷ first_field s) ∷ cut (cond t s (after_field s))
behind_by true b s ih h = refl
behind_by false b s ih h = ap (in_front b) (ih (omega (arith, h)))

pub cut_behind : (s : Bytes) → length (first_field s) < length s → cut s ≡ first_field s ∷ cut (after_field s)
unfolding cut first_field after_field
cut_behind [] h = absurd (omega (arith, h))
cut_behind (b ∷ s) h = behind_by (eqb b comma) b s (cut_behind s) h

-- the first of the fields that are left is taken
module _ (s f : Bytes) (fs : List Bytes) (left : fs ≡ cut s) (first : f ≡ first_field s) where
  pub taken_last : length f ≡ length s → fs ≡ f ∷ []
  taken_last e = left ∙ rw first (cut_whole s (omega (arith, e, ap length first)))

  pub taken_first : (length f ≡ length s → ⊥) → (a : Bytes) → a ≡ after_field s → fs ≡ f ∷ cut a
  taken_first e a after = left ∙ rw (first, after) (cut_behind s (omega (arith, field-within s, e, ap length first)))

head-by : (t : Bool) (b : ℕ) (s : Bytes) (fs : List Bytes) → cut s ≡ first_field s ∷ fs
    → (gs : List Bytes) × (cond t ([] ∷ cut s) (in_front b (cut s)) ≡ cond t [] (b ∷ first_field s) ∷ gs)
head-by true b s fs h = (cut s, refl)
head-by false b s fs h = (fs, ap (in_front b) h)

pub cut-head : (s : Bytes) → (fs : List Bytes) × (cut s ≡ first_field s ∷ fs)
unfolding cut first_field
cut-head [] = ([], refl)
cut-head (b ∷ s) = let r = cut-head s in head-by (eqb b comma) b s r.0 r.1

-- field k of the list is field k of the line
pub cut_at : (k : ℕ) (s : Bytes) → k < length (cut s) → get_or (cut s) k [] ≡ field_at k s
cut_at zero s h = rw (cut-head s).1
cut_at (suc k) s h =
    let m : cut s ≡ first_field s ∷ cut (after_field s) = cut-more s (omega (arith, h)) in
    rw m (cut_at k (after_field s) (omega (arith, ap length m, h)))

pub cut-less : (s : Bytes) → 1 < length (cut s) → length (cut s) ≡ suc (length (cut (after_field s)))
cut-less s h = ap length (cut-more s h)

pub after-within : (s : Bytes) → length (after_field s) ≤ length s
after-within s = omega (arith, ap length (field_drop s), length-drop (length (first_field s) + 1) s)

-- A LINE MADE OF FIELDS is cut into them again: no byte of a field is a comma.
abbrev pub not_comma : ℕ → Bool
not_comma b = not (eqb b comma)

abbrev pub NoComma : Bytes → Type 0
NoComma f = every not_comma f ≡ true

high_not_comma : (b : ℕ) → 48 ≤ b → not_comma b ≡ true
high_not_comma b h = ap not (ne_eqb b comma (λ e. omega arith))

alnum_high : (b : ℕ) → is_alnum b ≡ true → 48 ≤ b
alnum_high b h = go (leb 48 b) refl
  where
    go : (t : Bool) → leb 48 b ≡ t → 48 ≤ b
    go true e = leb-true 48 b e
    go false e =
        let l : b < 48 = leb-false 48 b e in
        absurd (apart (rw (e, lt-leb 65 b (omega arith), lt-leb 97 b (omega arith)) at h))

pub digits-no-comma : (s : Bytes) → every is_digit s ≡ true → NoComma s
digits-no-comma s h = every-wider is_digit not_comma (λ b e. high_not_comma b (digit_low b e)) s h

pub alnum_no_comma : (s : Bytes) → every is_alnum s ≡ true → NoComma s
alnum_no_comma s h = every-wider is_alnum not_comma (λ b e. high_not_comma b (alnum_high b e)) s h

cut_on : (f rest : Bytes) (fs : List Bytes) → NoComma f → cut rest ≡ [] ∷ fs → cut (f ++ rest) ≡ f ∷ fs
unfolding cut every
cut_on [] rest fs h e = e
cut_on (b ∷ f) rest fs h e =
    rw (not-true (eqb b comma) (and_left (not_comma b) (every not_comma f) h), cut_on f rest fs (and_right (not_comma b) (every not_comma f) h) e)

-- a field with its comma in front of others, and a field alone
pub cut_field : (f rest : Bytes) (fs : List Bytes) → NoComma f → cut rest ≡ fs → cut (f ++ comma ∷ rest) ≡ f ∷ fs
unfolding cut
cut_field f rest fs h e = cut_on f (comma ∷ rest) fs h (ap (λ r. [] ∷ r) e)

pub cut-alone : (f : Bytes) → NoComma f → cut f ≡ f ∷ []
unfolding cut
cut-alone f h = rw append-nil at (cut_on f [] [] h refl)
