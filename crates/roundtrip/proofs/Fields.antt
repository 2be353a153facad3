-- Lines made of fields: they are cut into those fields again, and end with no CR.
-- Assumes nothing.
use mathlib.Core.Path.{◌≡◌, refl, ap}
use mathlib.Core.List.{List, [], ◌∷◌, ◌++◌, append-nil}
use mathlib.Core.Bool.{Bool, true, false, not}
use Prim.Native.Nat.{ℕ, ◌≤◌, ◌<◌}
use native.Mathlib.Omega.{arith}
use lib.Dec.{leb, ltb}
use lib.ListN.{length}
use borrow.Author.Tests.{eq-eqb, ne_eqb, leb-true, leb-false, ltb-true, le-leb, lt-leb, lt-ltb, le-ltb}
use Rattle.text.specs.Byte.{Bytes, is_digit, is_alnum, every}
use Rattle.text.specs.Field.{comma, cut}
use Rattle.text.proofs.Truth.{and_left, and_right, apart}
use Rattle.text.proofs.Class.{every_append, every-wider, digit_low}
use Rattle.text.proofs.Equal.{equals_refl}
use Rattle.lines.specs.Line.{Line, LF, CR, NoLf, not_lf, ended_line, line_limit}
use Rattle.report.specs.Outcome.{passed}
use Rattle.lines.specs.Row.{fields_of}
use Rattle.lines.proofs.Lines.{ended-long}
use Rattle.lines.proofs.Ended.{not_cr, ended-plain}
use Rattle.rowtext.specs.Text.{with_commas}

-- ---- THE BYTES OF FIELDS AND LINES

-- A byte of a written field is higher than the comma, so that it is neither the comma nor LF nor CR; a line has the comma besides.
abbrev pub in_field : ℕ → Bool
in_field b = ltb comma b

abbrev pub in_line : ℕ → Bool
in_line b = leb comma b

abbrev pub Plain : Bytes → Type 0
Plain f = every in_field f ≡ true

-- each field of a list
infixr 20 ◌also◌
pub data AllPlain : List Bytes → Type 0 where
  none : AllPlain []
  ◌also◌ : {f : Bytes} {fs : List Bytes} → Plain f → AllPlain fs → AllPlain (f ∷ fs)

pub digits-plain : (s : Bytes) → every is_digit s ≡ true → Plain s
digits-plain s h = every-wider is_digit in_field (λ b e. lt-ltb comma b (omega (arith, digit_low b e))) s h

alnum_low : (b : ℕ) → is_alnum b ≡ true → in_field b ≡ true
alnum_low b h = go (leb 48 b) refl
  where
    go : (t : Bool) → leb 48 b ≡ t → in_field b ≡ true
    go true e = lt-ltb comma b (omega (arith, leb-true 48 b e))
    go false e =
        let l : b < 48 = leb-false 48 b e in
        absurd (apart (rw (e, lt-leb 65 b (omega arith), lt-leb 97 b (omega arith)) at h))

pub alnum-plain : (s : Bytes) → every is_alnum s ≡ true → Plain s
alnum-plain s h = every-wider is_alnum in_field alnum_low s h

-- ---- A LINE IS CUT INTO ITS FIELDS

cut-plain : (f rest : Bytes) (gs : List Bytes) → Plain f → cut rest ≡ [] ∷ gs → cut (f ++ rest) ≡ f ∷ gs
unfolding cut every
cut-plain [] rest gs h e = e
cut-plain (b ∷ f) rest gs h e =
    let high : comma < b = ltb-true comma b (and_left (in_field b) (every in_field f) h) in
    rw (ne_eqb b comma (λ q. omega (arith, q)), cut-plain f rest gs (and_right (in_field b) (every in_field f) h) e)

pub cut-joined : (f : Bytes) (fs : List Bytes) → AllPlain (f ∷ fs) → cut (with_commas (f ∷ fs)) ≡ f ∷ fs
unfolding with_commas cut
cut-joined f [] (h also hs) = rw append-nil at (cut-plain f [] [] h refl)
cut-joined f (g ∷ fs) (h also hs) = cut-plain f (comma ∷ with_commas (g ∷ fs)) (g ∷ fs) h (ap (λ r. [] ∷ r) (cut-joined g fs hs))

-- ---- IT HAS NEITHER LF NOR CR

in_line_lem : (f : Bytes) → Plain f → every in_line f ≡ true
in_line_lem f h = every-wider in_field in_line (λ b e. le-leb comma b (omega (arith, ltb-true comma b e))) f h

joined_line : (fs : List Bytes) → AllPlain fs → every in_line (with_commas fs) ≡ true
unfolding with_commas every
joined_line [] h = refl
joined_line (f ∷ []) (h also hs) = in_line_lem f h
joined_line (f ∷ (g ∷ fs)) (h also hs) = every_append in_line f (comma ∷ with_commas (g ∷ fs)) (in_line_lem f h) (joined_line (g ∷ fs) hs)

line_no_lf : (s : Bytes) → every in_line s ≡ true → NoLf s
line_no_lf s h = every-wider in_line not_lf (λ b e. ap not (ne_eqb b LF (λ q. omega (arith, leb-true comma b e)))) s h

pub joined_no_lf : (fs : List Bytes) → AllPlain fs → NoLf (with_commas fs)
joined_no_lf fs h = line_no_lf (with_commas fs) (joined_line fs h)

line_no_cr : (s : Bytes) → every in_line s ≡ true → every not_cr s ≡ true
line_no_cr s h = every-wider in_line not_cr (λ b e. ap not (ne_eqb b CR (λ q. omega (arith, leb-true comma b e)))) s h

-- ---- ITS ROW'S FIRST TESTS LET IT PASS

module _ (code : Bytes) (fs : List Bytes) (plain : AllPlain (code ∷ fs)) where
  pub joined-ended : ended_line (with_commas (code ∷ fs)) ≡ record { body = with_commas (code ∷ fs); cr = false }
  joined-ended = ended-plain (with_commas (code ∷ fs)) (line_no_cr (with_commas (code ∷ fs)) (joined_line (code ∷ fs) plain))

  pub fields_back : (n : ℕ) → length (code ∷ fs) ≡ n → length (with_commas (code ∷ fs)) ≤ line_limit → fields_of code n (ended_line (with_commas (code ∷ fs))) ≡ passed (code ∷ fs)
  unfolding fields_of
  fields_back n e short =
      rw (ended-long (with_commas (code ∷ fs)), le-ltb line_limit (length (with_commas (code ∷ fs))) short, ap (λ (l : Line). l.body) joined-ended, cut-joined code fs plain, equals_refl code, eq-eqb (length (code ∷ fs)) n e)
