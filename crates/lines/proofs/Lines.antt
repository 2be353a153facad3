-- Lines: the CR at the end, long lines, kinds of lines.
-- Assumes nothing.
use mathlib.Core.Path.{◌≡◌, refl, ap, sym, ◌∙◌}
use mathlib.Core.List.{[], ◌∷◌}
use mathlib.Core.Bool.{Bool, true, false, cond}
use Prim.Native.Nat.{ℕ, suc, ◌+◌, ◌-◌, ◌<◌, ◌≤◌}
use native.Mathlib.Omega.{arith}
use Rattle.std.specs.Int.{from_bool}
use lib.Dec.{eqb, ltb}
use lib.ListN.{length, take, get_or}
use borrow.Author.Tests.{ltb-false}
use Rattle.text.specs.Byte.{Bytes, starts_with}
use Rattle.lines.specs.Line.{Line, CR, ends_with_cr, drop_cr, ended_line, last_line, line_limit, cr_size, is_long, opener_bytes, detail_bytes, kind_of}
use Rattle.lines.specs.Answer.{line_with}
use Rattle.lines.specs.declared.line.Kind.TheVariants.{Empty, Opener, Detail, Other}

-- no byte is last, a CR is, another byte is
ends_at : (b : ℕ) (s : Bytes) → eqb (get_or (b ∷ s) (length s) 0) CR ≡ ends_with_cr (b ∷ s)
unfolding ends_with_cr
ends_at b [] = refl
ends_at b (c ∷ s) = ends_at c s

drop_at : (b : ℕ) (s : Bytes) → drop_cr (b ∷ s) ≡ cond (ends_with_cr (b ∷ s)) (take (length s) (b ∷ s)) (b ∷ s)
unfolding drop_cr ends_with_cr
drop_at b [] = refl
drop_at b (c ∷ s) = ap (λ r. b ∷ r) (drop_at c s) ∙ inside (ends_with_cr (c ∷ s)) b (take (length s) (c ∷ s)) (c ∷ s)
  where
    inside : (t : Bool) (x : ℕ) (p q : Bytes) → x ∷ cond t p q ≡ cond t (x ∷ p) (x ∷ q)
    inside true x p q = refl
    inside false x p q = refl

pub ends_none : (s : Bytes) → length s < 1 → false ≡ ends_with_cr s
unfolding ends_with_cr
ends_none [] h = refl
ends_none (b ∷ s) h = absurd (omega (arith, h))

pub ends_last : (s : Bytes) → 1 ≤ length s → ends_with_cr s ≡ eqb (get_or s (length s - 1) 0) CR
ends_last [] h = absurd (omega (arith, h))
ends_last (b ∷ s) h =
    let e : suc (length s) - 1 ≡ length s = omega arith in
    rw e (sym (ends_at b s))

pub drop_none : (s : Bytes) → length s < 1 → s ≡ drop_cr s
unfolding drop_cr
drop_none [] h = refl
drop_none (b ∷ s) h = absurd (omega (arith, h))

pub drop_last : (s : Bytes) → 1 ≤ length s → drop_cr s ≡ cond (eqb (get_or s (length s - 1) 0) CR) (take (length s - 1) s) s
drop_last [] h = absurd (omega (arith, h))
drop_last (b ∷ s) h =
    let e : suc (length s) - 1 ≡ length s = omega arith in
    rw (← ends_last (b ∷ s) h, e) (drop_at b s)

-- the CR counts
pub long_counted : (s : Bytes) (cr : Bool) → ltb line_limit (length s + from_bool cr) ≡ is_long (line_with s cr)
unfolding is_long
long_counted s true = refl
long_counted s false = refl

-- a line that an LF ends, or finish: long by the bytes before that, CR included
dropped-size : (s : Bytes) → length (drop_cr s) + cr_size (ends_with_cr s) ≡ length s
unfolding drop_cr ends_with_cr
dropped-size [] = refl
dropped-size (b ∷ []) = go (eqb b CR)
  where
    go : (c : Bool) → length (cond c [] (b ∷ [])) + cr_size c ≡ 1
    go true = refl
    go false = refl
dropped-size (b ∷ (c ∷ s)) = omega (arith, dropped-size (c ∷ s))

pub ended-long : (s : Bytes) → is_long (ended_line s) ≡ ltb line_limit (length s)
unfolding is_long ended_line
ended-long s = rw (dropped-size s)

pub last-long : (s : Bytes) → is_long (last_line s) ≡ ltb line_limit (length s)
unfolding is_long last_line
last-long s =
    let z : length s + 0 ≡ length s = omega arith in
    rw z

pub short-line : (l : Line) (r : Bool) → r ≡ is_long l → r ≡ false → length l.body ≤ line_limit
unfolding is_long
short-line l r e h = omega (arith, ltb-false line_limit (length l.body + cr_size l.cr) (sym e ∙ h))

pub kind-empty : (s : Bytes) → length s ≡ 0 → Empty ≡ kind_of s
unfolding kind_of
kind-empty [] h = refl
kind-empty (b ∷ s) h = absurd (omega (arith, h))

module _ (s : Bytes) (some : length s ≡ 0 → ⊥) (r : Bool) (er : r ≡ starts_with opener_bytes s) where
  by : (t : Bytes) → (length t ≡ 0 → ⊥) → kind_of t ≡ cond (starts_with opener_bytes t) Opener (cond (starts_with detail_bytes t) Detail Other)
  unfolding kind_of
  by [] h = absurd (h refl)
  by (b ∷ t) h = refl

  pub kind_opener : r ≡ true → Opener ≡ kind_of s
  kind_opener h = rw (by s some, ← er, h)

  pub kind_detail : (q : Bool) → r ≡ false → q ≡ starts_with detail_bytes s → q ≡ true → Detail ≡ kind_of s
  kind_detail q h eq g = rw (by s some, ← er, h, ← eq, g)

  pub kind_other : (q : Bool) → r ≡ false → q ≡ starts_with detail_bytes s → q ≡ false → Other ≡ kind_of s
  kind_other q h eq g = rw (by s some, ← er, h, ← eq, g)
