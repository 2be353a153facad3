-- Eight bytes as one number: the numbers are in order as the bytes are.
-- Assumes nothing.
use mathlib.Core.Path.{◌≡◌, refl, sym, ap, ◌∙◌}
use mathlib.Core.List.{List, [], ◌∷◌, ◌++◌}
use mathlib.Core.Logic.{◌⊎◌, ⊎_elim}
use Prim.Native.Nat.{ℕ, zero, suc, ◌+◌, ◌*◌, ◌/◌, ◌≤◌, ◌<◌}
use native.Mathlib.Omega.{arith}
use lib.ListN.{length, get_or, take, drop, length-drop, take-append-drop}
use lib.Seq.{length-take-le, get_or-drop}
use mir.Syntax.{w64}
use Rattle.std.specs.Int.{from_be_bytes}
use Rattle.std.specs.Simd.{first_chunks}
use Rattle.std.specs.declared.cmp.Ordering.{Ordering}
use Rattle.std.specs.declared.cmp.Ordering.TheVariants.{Less, Equal, Greater}
use Rattle.std.specs.Ordering.{nat_cmp, ordering_then, MatchOrdering}
use Rattle.std.specs.Cmp.{nat_cmp_is}
use Rattle.std.specs.Cmp.Lexicographic.{slice_cmp}
use Rattle.std.proofs.lemmas.Cmp.{ranked}
use Rattle.text.specs.Byte.{Bytes}
use Rattle.text.specs.Identifier.{esi_id_size}
use Rattle.padded.specs.Order.{order}

-- bytes, each below 256
abbrev pub Small : Bytes → Type 0
Small s = (k : ℕ) → get_or s k 0 < 256

small-behind : (b : ℕ) (s : Bytes) → Small (b ∷ s) → Small s
small-behind b s h k = h (suc k)

small-take : (n : ℕ) (s : Bytes) → Small s → Small (take n s)
small-take zero s h k = omega arith
small-take (suc n) [] h k = omega arith
small-take (suc n) (b ∷ s) h zero = h 0
small-take (suc n) (b ∷ s) h (suc k) = small-take n s (small-behind b s h) k

small-drop : (n : ℕ) (s : Bytes) → Small s → Small (drop n s)
small-drop n s h k = rw (get_or-drop n s k 0) (h (n + k))

-- ---- THE NUMBER that bytes write, the first the highest, behind a number read so far

word_from : ℕ → Bytes → ℕ
word_from n [] = n
word_from n (b ∷ s) = word_from (n * 256 + b) s

be_word : (s : Bytes) → length s ≡ 8 → from_be_bytes w64 s ≡ word_from 0 s
unfolding word_from
be_word (b0 ∷ b1 ∷ b2 ∷ b3 ∷ b4 ∷ b5 ∷ b6 ∷ b7 ∷ []) n = omega arith
be_word [] n = absurd (omega arith)
be_word (b0 ∷ []) n = absurd (omega arith)
be_word (b0 ∷ b1 ∷ []) n = absurd (omega arith)
be_word (b0 ∷ b1 ∷ b2 ∷ []) n = absurd (omega arith)
be_word (b0 ∷ b1 ∷ b2 ∷ b3 ∷ []) n = absurd (omega arith)
be_word (b0 ∷ b1 ∷ b2 ∷ b3 ∷ b4 ∷ []) n = absurd (omega arith)
be_word (b0 ∷ b1 ∷ b2 ∷ b3 ∷ b4 ∷ b5 ∷ []) n = absurd (omega arith)
be_word (b0 ∷ b1 ∷ b2 ∷ b3 ∷ b4 ∷ b5 ∷ b6 ∷ []) n = absurd (omega arith)
be_word (b0 ∷ b1 ∷ b2 ∷ b3 ∷ b4 ∷ b5 ∷ b6 ∷ b7 ∷ b8 ∷ s) n = absurd (omega arith)

-- a lower number so far stays lower, whatever bytes follow
word-lower : (a b : ℕ) (s t : Bytes) → length s ≡ length t → Small s → a < b → word_from a s < word_from b t
unfolding word_from
word-lower a b [] [] n h l = l
word-lower a b [] (y ∷ t) n h l = absurd (omega arith)
word-lower a b (x ∷ s) [] n h l = absurd (omega arith)
word-lower a b (x ∷ s) (y ∷ t) n h l = word-lower (a * 256 + x) (b * 256 + y) s t (omega arith) (small-behind x s h) (omega (arith, h 0))

word_cmp : (a : ℕ) (s t : Bytes) → length s ≡ length t → Small s → Small t → nat_cmp (word_from a s) (word_from a t) ≡ slice_cmp nat_cmp s t
unfolding word_from
word_cmp a [] [] n h k = sym (nat_cmp_is a a Equal refl)
word_cmp a [] (y ∷ t) n h k = absurd (omega arith)
word_cmp a (x ∷ s) [] n h k = absurd (omega arith)
word_cmp a (x ∷ s) (y ∷ t) n h k = go (nat_cmp x y) (ranked x y (nat_cmp x y) refl) (word_cmp (a * 256 + y) s t (omega arith) (small-behind x s h) (small-behind y t k))
  where
    go : (o : Ordering) → MatchOrdering o (x < y) (x ≡ y) (y < x) → nat_cmp (word_from (a * 256 + y) s) (word_from (a * 256 + y) t) ≡ slice_cmp nat_cmp s t
        → nat_cmp (word_from (a * 256 + x) s) (word_from (a * 256 + y) t) ≡ ordering_then o (slice_cmp nat_cmp s t)
    go Less l ih = sym (nat_cmp_is _ _ Less (word-lower (a * 256 + x) (a * 256 + y) s t (omega arith) (small-behind x s h) (omega arith)))
    go Equal e ih = rw e ih
    go Greater l ih = sym (nat_cmp_is _ _ Greater (word-lower (a * 256 + y) (a * 256 + x) t s (omega arith) (small-behind y t k) (omega arith)))

-- ---- TWO TEXTS, EIGHT BYTES AFTER EIGHT

then_assoc : (a b c : Ordering) → ordering_then (ordering_then a b) c ≡ ordering_then a (ordering_then b c)
then_assoc Less b c = refl
then_assoc Equal b c = refl
then_assoc Greater b c = refl

cmp-parts : (u v s t : Bytes) → length u ≡ length v → slice_cmp nat_cmp (u ++ s) (v ++ t) ≡ ordering_then (slice_cmp nat_cmp u v) (slice_cmp nat_cmp s t)
cmp-parts [] [] s t n = refl
cmp-parts [] (y ∷ v) s t n = absurd (omega arith)
cmp-parts (x ∷ u) [] s t n = absurd (omega arith)
cmp-parts (x ∷ u) (y ∷ v) s t n =
    ap (ordering_then (nat_cmp x y)) (cmp-parts u v s t (omega arith)) ∙ sym (then_assoc (nat_cmp x y) (slice_cmp nat_cmp u v) (slice_cmp nat_cmp s t))

-- the first eight bytes as numbers decide, or else what is behind them
eight_first : (s t : Bytes) → Small s → Small t → 8 ≤ length s → 8 ≤ length t
    → order s t ≡ ordering_then (nat_cmp (from_be_bytes w64 (take 8 s)) (from_be_bytes w64 (take 8 t))) (order (drop 8 s) (drop 8 t))
unfolding order
eight_first s t hs ht n m =
    let ls : length (take 8 s) ≡ 8 = length-take-le 8 s n in
    let lt : length (take 8 t) ≡ 8 = length-take-le 8 t m in
    let words : nat_cmp (from_be_bytes w64 (take 8 s)) (from_be_bytes w64 (take 8 t)) ≡ slice_cmp nat_cmp (take 8 s) (take 8 t) =
    rw (be_word (take 8 s) ls, be_word (take 8 t) lt) (word_cmp 0 (take 8 s) (take 8 t) (omega arith) (small-take 8 s hs) (small-take 8 t ht)) in
    rw words (rw (take-append-drop 8 s, take-append-drop 8 t) at (cmp-parts (take 8 s) (take 8 t) (drop 8 s) (drop 8 t) (omega arith)))

-- ---- AS THE LOOP GOES: the first two words that differ decide

abbrev pub by_words : List Bytes → List Bytes → Ordering
by_words [] vs = Equal
by_words (u ∷ us) [] = Equal
by_words (u ∷ us) (v ∷ vs) = ordering_then (nat_cmp (from_be_bytes w64 u) (from_be_bytes w64 v)) (by_words us vs)

words_order : (k : ℕ) (s t : Bytes) → length s ≡ k * 8 → length t ≡ k * 8 → Small s → Small t → by_words (first_chunks 8 k s) (first_chunks 8 k t) ≡ order s t
unfolding order
words_order zero [] [] n m hs ht = refl
words_order zero [] (y ∷ t) n m hs ht = absurd (omega arith)
words_order zero (x ∷ s) t n m hs ht = absurd (omega arith)
words_order (suc k) s t n m hs ht =
    rw (words_order k (drop 8 s) (drop 8 t) (omega (arith, length-drop 8 s)) (omega (arith, length-drop 8 t)) (small-drop 8 s hs) (small-drop 8 t ht))
    (sym (eight_first s t hs ht (omega arith) (omega arith)))

-- two texts of 64 bytes, by the chunks that the loop goes over
pub texts_order : (s t : Bytes) (us vs : List Bytes) → length s ≡ esi_id_size → length t ≡ esi_id_size → Small s → Small t
    → us ≡ first_chunks 8 (length s / 8) s → vs ≡ first_chunks 8 (length t / 8) t → by_words us vs ≡ order s t
texts_order s t us vs n m hs ht eu ev = rw (eu, ev, n, m) (words_order 8 s t n m hs ht)

pub words_none : (us vs : List Bytes) → (length us ≡ 0) ⊎ (length vs ≡ 0) → Equal ≡ by_words us vs
words_none [] vs h = refl
words_none (u ∷ us) [] h = refl
words_none (u ∷ us) (v ∷ vs) h = absurd (⊎_elim (λ n. omega arith) (λ n. omega arith) h)

-- the next two words, in an order o
module _ {us vs : List Bytes} {x : Ordering} (w : by_words us vs ≡ x) (u v : Bytes) (us' vs' : List Bytes) (eu : us ≡ u ∷ us') (ev : vs ≡ v ∷ vs')
    (p q : ℕ) (ep : p ≡ from_be_bytes w64 u) (eq : q ≡ from_be_bytes w64 v) (o : Ordering) (eo : o ≡ nat_cmp p q) where
  by_next : ordering_then o (by_words us' vs') ≡ x
  by_next = rw (eo, ep, eq) (rw (eu, ev) at w)

  pub words_decide : (o ≡ Equal → ⊥) → o ≡ x
  words_decide h = sym (decided o h) ∙ by_next
    where
      decided : (o : Ordering) → (o ≡ Equal → ⊥) → ordering_then o (by_words us' vs') ≡ o
      decided Less h = refl
      decided Equal h = absurd (h refl)
      decided Greater h = refl

  pub words_level : o ≡ Equal → by_words us' vs' ≡ x
  words_level h = rw h at by_next
