-- How many entries a batch has, and the words that it keeps.
-- Assumes nothing.
use mathlib.Core.Path.{◌≡◌, refl, sym, ap, ◌∙◌}
use mathlib.Core.List.{List, [], ◌∷◌, ◌++◌}
use Prim.Native.Nat.{ℕ, zero, suc, ◌+◌, ◌-◌, ◌*◌, ◌<◌, ◌≤◌}
use native.Mathlib.Numerals.{add-one}
use native.Mathlib.Omega.{arith}
use lib.ListN.{length, get_or, take, drop, replicate, length-append, length-drop, take-append-drop, get_or-append}
use lib.Seq.{take-add, drop-cons, drop-drop, drop_at, get_or-take, length-take-le}
use Rattle.std.specs.Prelude.{Option, Some, None}
use Rattle.std.specs.List.{flat_map}
use Rattle.std.proofs.lemmas.List.{drop-replicate}
use Rattle.std.proofs.lemmas.Grind.{flat_map-append}
use Rattle.report.specs.declared.Entry.{Entry}
use Rattle.report.specs.Words.{per_entry, words_of, entry_at, first_entries}
use Rattle.report.proofs.Entries.{entries-count, entries-agree}
use Rattle.units.specs.Answer.{told}
use Rattle.pieces.specs.Ran.{batch_size, batch_words, words_held}

told-few : (said : Option Entry) → length (told said) ≤ 1
told-few None = omega arith
told-few (Some e) = omega arith

-- one more at most, where a verdict may have fallen
pub one-more : (es fs : List Entry) (said : Option Entry) → fs ≡ es ++ told said → length fs ≤ length es + 1
one-more es fs said is = rw is (omega (arith, length-append es (told said), told-few said))

-- ---- THE WORDS OF A BATCH are those of its entries, and zeros behind them.

module _ (w : List ℕ) where
  word-first : (i j : ℕ) → j ≡ i + 1 → i < length w → drop i w ≡ get_or w i 0 ∷ drop j w
  word-first i j e h = rw (e, add-one) (drop-cons w i 0 h)

  entry-first : (k : ℕ) → k + 4 < length w
      → take 5 (drop k w) ≡ get_or w k 0 ∷ get_or w (k + 1) 0 ∷ get_or w (k + 2) 0 ∷ get_or w (k + 3) 0 ∷ get_or w (k + 4) 0 ∷ []
  entry-first k h =
      rw (
        word-first k (k + 1) (omega arith) (omega arith),
        word-first (k + 1) (k + 2) (omega arith) (omega arith),
        word-first (k + 2) (k + 3) (omega arith) (omega arith),
        word-first (k + 3) (k + 4) (omega arith) (omega arith),
        word-first (k + 4) (k + 5) (omega arith) (omega arith),
      )

  words-back : (n : ℕ) → n * per_entry ≤ length w → flat_map words_of (first_entries n w) ≡ take (n * per_entry) w
  unfolding first_entries
  words-back zero h = refl
  words-back (suc n) h =
      let more : suc n * per_entry ≡ n * per_entry + per_entry = omega arith in
      flat_map-append words_of (first_entries n w) (entry_at w n ∷ [])
      ∙ rw (more, take-add (n * per_entry) per_entry w, entry-first (n * per_entry) (omega (arith, h)), words-back n (omega (arith, h)))

held-back : (n : ℕ) (w : List ℕ) → n ≤ batch_size → length w ≡ batch_words → drop (n * per_entry) w ≡ replicate (batch_words - n * per_entry) 0
    → words_held (first_entries n w) ≡ w
unfolding words_held
held-back n w few long clean = rw (entries-count n w, words-back w n (omega (arith, few, long)), ← clean) (take-append-drop (n * per_entry) w)

-- one more entry, put into the words up to its end
module _ (n : ℕ) (w out : List ℕ) (e : Entry) (few : n < batch_size) (long : length w ≡ batch_words)
    (put : (first_entries (n + 1) out ≡ first_entries n (take ((n + 1) * per_entry) w) ++ (e ∷ [])) × (length out ≡ length (take ((n + 1) * per_entry) w))) where
  abbrev end : ℕ
  end = (n + 1) * per_entry

  as_long : length out ≡ end
  as_long = put.1 ∙ length-take-le end w (omega (arith, few, long))

  pub put-entered : first_entries (n + 1) (out ++ drop end w) ≡ first_entries n w ++ (e ∷ [])
  put-entered =
      entries-agree (n + 1) (out ++ drop end w) out (λ i p. get_or-append out (drop end w) 0 i (omega (arith, as_long, p)))
      ∙ put.0
      ∙ ap (λ es. es ++ (e ∷ [])) (entries-agree n (take end w) w (λ i p. get_or-take end w i 0 (omega (arith, p))))

  module _ (kept : words_held (first_entries n w) ≡ w) where
    zeros_left : drop (n * per_entry) w ≡ replicate (batch_words - n * per_entry) 0
    unfolding words_held
    zeros_left =
        let l : length (flat_map words_of (first_entries n w)) ≡ n * per_entry = ap length (words-back w n (omega (arith, few, long))) ∙ length-take-le (n * per_entry) w (omega (arith, few, long)) in
        ap (drop (n * per_entry)) (sym kept)
        ∙ drop_at (flat_map words_of (first_entries n w)) (replicate (batch_words - length (first_entries n w) * per_entry) 0) (n * per_entry) l
        ∙ ap (λ k. replicate (batch_words - k * per_entry) 0) (entries-count n w)

    zeros_behind : drop end (out ++ drop end w) ≡ replicate (batch_words - end) 0
    zeros_behind =
        let on : end ≡ n * per_entry + per_entry = omega arith in
        let less : batch_words - n * per_entry - per_entry ≡ batch_words - (n * per_entry + per_entry) = omega arith in
        drop_at out (drop end w) end as_long
        ∙ rw (on, ← drop-drop per_entry (n * per_entry) w, zeros_left, drop-replicate {X = ℕ} per_entry (batch_words - n * per_entry) 0, less)

    pub put-held : words_held (first_entries (n + 1) (out ++ drop end w)) ≡ out ++ drop end w
    put-held =
        let all : length (out ++ drop end w) ≡ batch_words = length-append out (drop end w) ∙ omega (arith, as_long, length-drop end w, few, long) in
        held-back (n + 1) (out ++ drop end w) (omega (arith, few)) all zeros_behind
