-- Classes of bytes: the parts of a text, and the classes of a detail line's bytes.
-- Assumes nothing.
use Rattle.std.proofs.Common.{◌≡◌, ℕ, Bool, true, false, not, ◌||◌, eqb, [], ◌∷◌, ◌++◌, refl, ne_eqb}
use Rattle.text.specs.Byte.{Bytes, is_digit, every}
use Rattle.text.specs.Field.{comma}
use Rattle.text.proofs.Truth.{apart, and_left, and_right, and_both}
use Rattle.text.proofs.Class.{every-wider}
use Rattle.lines.specs.Line.{LF, CR, not_lf}
use Rattle.lines.proofs.Ended.{not_cr}
use Rattle.direct.specs.Guess.{in_value}

-- `in_line`: neither LF nor CR
abbrev pub in_line : ℕ → Bool
in_line b = not (eqb b LF || eqb b CR)

-- the two parts of a text
pub every_front : (class : ℕ → Bool) (a b : Bytes) → every class (a ++ b) ≡ true → every class a ≡ true
unfolding every
every_front class [] b h = refl
every_front class (x ∷ a) b h =
    and_both (class x) (every class a) (and_left (class x) (every class (a ++ b)) h) (every_front class a b (and_right (class x) (every class (a ++ b)) h))

pub every-behind : (class : ℕ → Bool) (a b : Bytes) → every class (a ++ b) ≡ true → every class b ≡ true
unfolding every
every-behind class [] b h = h
every-behind class (x ∷ a) b h = every-behind class a b (and_right (class x) (every class (a ++ b)) h)

pub digits-plain : (s : Bytes) → every is_digit s ≡ true → every in_value s ≡ true
digits-plain s h = every-wider is_digit in_value (λ b g. rw g) s h

-- a byte of a value is no byte that is none
plain_not : (b c : ℕ) → in_value b ≡ true → in_value c ≡ false → eqb b c ≡ false
plain_not b c h n = ne_eqb b c (λ e. apart (rw (e, n) at h))

pub plain-comma : (b : ℕ) → in_value b ≡ true → eqb b comma ≡ false
plain-comma b h = plain_not b comma h refl

pub plain-line : (s : Bytes) → every in_value s ≡ true → every in_line s ≡ true
plain-line s h = every-wider in_value in_line (λ b g. rw (plain_not b LF g refl, plain_not b CR g refl)) s h

pub line-lf : (s : Bytes) → every in_line s ≡ true → every not_lf s ≡ true
line-lf s h = every-wider in_line not_lf (λ b g. no_left (eqb b LF) (eqb b CR) g) s h
  where
    no_left : (p q : Bool) → not (p || q) ≡ true → not p ≡ true
    no_left true q g = g
    no_left false q g = refl

pub line-cr : (s : Bytes) → every in_line s ≡ true → every not_cr s ≡ true
line-cr s h = every-wider in_line not_cr (λ b g. no_right (eqb b LF) (eqb b CR) g) s h
  where
    no_right : (p q : Bool) → not (p || q) ≡ true → not q ≡ true
    no_right true q g = absurd (apart g)
    no_right false q g = g
