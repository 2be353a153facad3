-- The table of texts as the code has it, by number and filled up with spaces, is that of specs/Texts: one computed walk along it.
-- Assumes nothing.
use mathlib.Core.Path.{◌≡◌, refl, sym, ap, ◌∙◌}
use mathlib.Core.List.{List, [], ◌∷◌}
use mathlib.Core.Bool.{Bool, true, ◌&&◌}
use Prim.Native.Nat.{ℕ, zero, suc, ◌+◌, ◌<◌, ◌≤◌}
use native.Mathlib.Nat.{add-zero, add-suc, suc-add, zero-add}
use native.Mathlib.Omega.{arith}
use borrow.Author.Tests.{ne_eqb}
use Rattle.std.proofs.lemmas.Bool.{ltb-true}
use lib.Dec.{ltb}
use lib.ListN.{length, get_or, replicate}
use Rattle.text.specs.Byte.{Bytes, equals}
use Rattle.text.proofs.Truth.{and_left, and_right}
use Rattle.text.proofs.Equal.{equals_path}
use Rattle.padded.specs.Padding.{space, pad}
use Rattle.pagetext.specs.declared.TheConstants.{TEXTS}
use Rattle.pagetext.specs.Line.{text_width}
use Rattle.pagetext.specs.Texts.{Text, texts, text_in, text_of}

-- THE WALK: from verdict v on, each row is what is said of its verdict
abbrev follows : ℕ → List Bytes → Bool
follows v [] = true
follows v (s ∷ ss) = equals s (pad text_width (text_of v)) && follows (suc v) ss

walked : (ss : List Bytes) (v : ℕ) → follows v ss ≡ true → (i : ℕ) (d : Bytes) → i < length ss → get_or ss i d ≡ pad text_width (text_of (v + i))
walked [] v t i d h = elim h [ ]
walked (s ∷ ss) v t zero d h = equals_path s _ (and_left _ (follows (suc v) ss) t) ∙ ap (λ (w : ℕ). pad text_width (text_of w)) (sym (add-zero v))
walked (s ∷ ss) v t (suc i) d h =
    walked ss (suc v) (and_right _ (follows (suc v) ss) t) i d (omega (arith, h)) ∙ ap (λ (w : ℕ). pad text_width (text_of w)) (suc-add v i ∙ sym (add-suc v i))

passes : follows 0 TEXTS ≡ true
unfolding texts text_in equals pad
passes = refl

pub text_at : (v : ℕ) (d : Bytes) → v < length TEXTS → get_or TEXTS v d ≡ pad text_width (text_of v)
text_at v d h = walked TEXTS 0 passes v d h ∙ ap (λ (w : ℕ). pad text_width (text_of w)) (zero-add v)

-- Behind the table no verdict has a text.
below : ℕ → List Text → Bool
below n [] = true
below n (t ∷ ts) = ltb t.verdict n && below n ts

nothing_said : (n v : ℕ) (ts : List Text) → below n ts ≡ true → n ≤ v → text_in ts v ≡ []
unfolding below text_in
nothing_said n v [] b h = refl
nothing_said n v (t ∷ ts) b h =
    let other : t.verdict ≡ v → ⊥ = λ e. absurd (omega (arith, ltb-true t.verdict n (and_left (ltb t.verdict n) (below n ts) b), e)) in
    rw (ne_eqb t.verdict v other) (nothing_said n v ts (and_right (ltb t.verdict n) (below n ts) b) h)

all_below : below (length TEXTS) texts ≡ true
unfolding below texts
all_below = refl

pub no_text : (v : ℕ) → length TEXTS ≤ v → replicate text_width space ≡ pad text_width (text_of v)
unfolding pad
no_text v h = rw (nothing_said (length TEXTS) v texts all_below h) refl
