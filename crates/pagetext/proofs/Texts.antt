-- The table's rule, by one computed test: each text fits its column, and no two are the same.
-- Assumes nothing.
use mathlib.Core.Path.{◌≡◌, refl, sym, ◌∙◌}
use mathlib.Core.List.{List, [], ◌∷◌}
use mathlib.Core.Bool.{Bool, true, false, not, cond, ◌&&◌}
use Prim.Native.Nat.{ℕ, ◌<◌, ◌≤◌}
use native.Mathlib.Omega.{arith}
use lib.Dec.{eqb, leb}
use lib.ListN.{length}
use borrow.Author.Tests.{eqb-true, leb-true, not-true}
use Rattle.text.specs.Byte.{Bytes, every, equals}
use Rattle.text.proofs.Truth.{apart, and_left, and_right}
use Rattle.text.proofs.Equal.{equals_refl}
use Rattle.report.specs.Verdict.{loaded}
use Rattle.padded.specs.Padding.{pad}
use Rattle.pagetext.specs.Line.{text_width}
use Rattle.pagetext.proofs.Lines.{pad_length}
use Rattle.pagetext.specs.Texts.{Text, texts, text_in, text_of, is_printable}

-- THE TEST
fits : Bytes → Bool
fits s = leb (length s) text_width && every is_printable s

absent : Bytes → List Text → Bool
absent s [] = true
absent s (t ∷ ts) = not (equals t.text s) && absent s ts

all_right : List Text → Bool
all_right [] = true
all_right (t ∷ ts) = fits t.text && absent t.text ts && all_right ts

tested : all_right texts ≡ true
unfolding texts all_right fits absent every equals is_printable
tested = refl

-- WHAT IT SAYS of a table
text_fits : (v : ℕ) (ts : List Text) → all_right ts ≡ true → fits (text_in ts v) ≡ true
unfolding all_right text_in fits every
text_fits v [] h = refl
text_fits v (t ∷ ts) h = go (eqb t.verdict v) (text_fits v ts (and_right (fits t.text && absent t.text ts) (all_right ts) h))
  where
    go : (e : Bool) → fits (text_in ts v) ≡ true → fits (cond e t.text (text_in ts v)) ≡ true
    go true g = and_left (fits t.text) (absent t.text ts) (and_left (fits t.text && absent t.text ts) (all_right ts) h)
    go false g = g

-- a text that stands nowhere in the table is none of its texts, unless it is empty
not_in : (s : Bytes) (v : ℕ) (ts : List Text) → absent s ts ≡ true → 0 < length s → text_in ts v ≡ s → ⊥
unfolding absent text_in
not_in s v [] h n e = absurd (omega (arith, rw (← e) at n))
not_in s v (t ∷ ts) h n e = go (eqb t.verdict v) (not_in s v ts (and_right (not (equals t.text s)) (absent s ts) h) n) e
  where
    go : (k : Bool) → (text_in ts v ≡ s → ⊥) → cond k t.text (text_in ts v) ≡ s → ⊥
    go true rest g = apart (sym (not-true (equals t.text s) (and_left (not (equals t.text s)) (absent s ts) h)) ∙ rw g (equals_refl s))
    go false rest g = rest g

differ_in : (v w : ℕ) (ts : List Text) → all_right ts ≡ true → 0 < length (text_in ts v) → text_in ts v ≡ text_in ts w → v ≡ w
unfolding all_right text_in
differ_in v w [] h n e = absurd (omega (arith, n))
differ_in v w (t ∷ ts) h n e =
    go (differ_in v w ts (and_right (fits t.text && absent t.text ts) (all_right ts) h)) (eqb t.verdict v) refl (eqb t.verdict w) refl n e
  where
    only : absent t.text ts ≡ true
    only = and_right (fits t.text) (absent t.text ts) (and_left (fits t.text && absent t.text ts) (all_right ts) h)

    go : (0 < length (text_in ts v) → text_in ts v ≡ text_in ts w → v ≡ w) → (p : Bool) → eqb t.verdict v ≡ p → (q : Bool) → eqb t.verdict w ≡ q → 0 < length (cond p t.text (text_in ts v))
        → cond p t.text (text_in ts v) ≡ cond q t.text (text_in ts w) → v ≡ w
    go rest true a true b m g = sym (eqb-true t.verdict v a) ∙ eqb-true t.verdict w b
    go rest true a false b m g = absurd (not_in t.text w ts only m (sym g))
    go rest false a true b m g = absurd (not_in t.text v ts only (rw g at m) g)
    go rest false a false b m g = rest m g

-- OF THE TABLE OF TEXTS
pub text_short : (v : ℕ) → length (text_of v) ≤ text_width
unfolding fits
text_short v = leb-true (length (text_of v)) text_width (and_left (leb (length (text_of v)) text_width) (every is_printable (text_of v)) (text_fits v texts tested))

pub said_length : (v : ℕ) → length (pad text_width (text_of v)) ≡ text_width
said_length v = pad_length text_width (text_of v) (text_short v)

pub text_printable : (v : ℕ) → every is_printable (text_of v) ≡ true
unfolding fits
text_printable v = and_right (leb (length (text_of v)) text_width) (every is_printable (text_of v)) (text_fits v texts tested)

pub texts_differ : (v w : ℕ) → 0 < length (text_of v) → text_of v ≡ text_of w → v ≡ w
texts_differ v w = differ_in v w texts tested

pub loaded_told : 0 < length (text_of loaded)
unfolding texts text_in
loaded_told = omega arith
