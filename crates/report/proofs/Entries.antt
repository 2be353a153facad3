-- The entries that words are: how many, which, and by which words they go.
-- Assumes nothing.
use mathlib.Core.Path.{◌≡◌, refl, sym, ap, ◌∙◌}
use mathlib.Core.List.{List, [], ◌∷◌, ◌++◌}
use mathlib.Core.Bool.{Bool, true, false}
use Prim.Native.Nat.{ℕ, zero, suc, ◌+◌, ◌*◌, ◌<◌}
use native.Mathlib.Numerals.{add-one}
use native.Mathlib.Omega.{arith}
use lib.Dec.{ltb}
use lib.ListN.{length, get_or, take, drop, length-append, get_or-append}
use lib.Seq.{drop-cons, get_or-take, get_or-append_seam}
use borrow.Author.Tests.{ltb-true, ltb-false}
use Rattle.report.specs.declared.Entry.{Entry}
use Rattle.report.specs.Words.{per_entry, entry_at, first_entries, places_in, report_in}

-- as many as are asked for
pub entries-count : (n : ℕ) (w : List ℕ) → length (first_entries n w) ≡ n
unfolding first_entries
entries-count zero w = refl
entries-count (suc n) w = length-append (first_entries n w) (entry_at w n ∷ []) ∙ ap (λ k. k + 1) (entries-count n w) ∙ add-one n

-- they go by the words that they are made of
pub entries-agree : (n : ℕ) (v w : List ℕ) → ((i : ℕ) → i < n * per_entry → get_or v i 0 ≡ get_or w i 0) → first_entries n v ≡ first_entries n w
unfolding first_entries
entries-agree zero v w h = refl
entries-agree (suc n) v w h =
    rw (
      entries-agree n v w (λ i p. h i (omega arith)),
      h (n * per_entry) (omega arith),
      h (n * per_entry + 1) (omega arith),
      h (n * per_entry + 2) (omega arith),
      h (n * per_entry + 3) (omega arith),
      h (n * per_entry + 4) (omega arith),
    )

pub entries-take : (n : ℕ) (w : List ℕ) → first_entries n (take (n * per_entry) w) ≡ first_entries n w
entries-take n w = entries-agree n (take (n * per_entry) w) w (λ i l. get_or-take (n * per_entry) w i 0 l)

-- each by its place
entry_got : (k : ℕ) (w : List ℕ) (n : ℕ) (d : Entry) → n < k → get_or (first_entries k w) n d ≡ entry_at w n
unfolding first_entries
entry_got zero w n d h = elim h [ ]
entry_got (suc k) w n d h = by_test (ltb n k) refl (entry_got k w n d)
  where
    by_test : (t : Bool) → ltb n k ≡ t → (n < k → get_or (first_entries k w) n d ≡ entry_at w n) → get_or (first_entries k w ++ (entry_at w k ∷ [])) n d ≡ entry_at w n
    by_test true e rest =
        let l : n < length (first_entries k w) = rw (entries-count k w) (ltb-true n k e) in
        get_or-append (first_entries k w) (entry_at w k ∷ []) d n l ∙ rest (ltb-true n k e)
    by_test false e rest =
        let n-is : n ≡ k = omega (arith, h, ltb-false n k e) in
        rw n-is (ap (λ j. get_or (first_entries k w ++ (entry_at w k ∷ [])) j d) (sym (entries-count k w)) ∙ get_or-append_seam (first_entries k w) (entry_at w k) [] d)

pub entry-next : (w : List ℕ) (n : ℕ) (e : Entry) → e ≡ entry_at w n → n < length (report_in w) → drop n (report_in w) ≡ e ∷ drop (n + 1) (report_in w)
entry-next w n e is h =
    let got : get_or (report_in w) n e ≡ e = entry_got (places_in w) w n e (rw (entries-count (places_in w) w) at h) ∙ sym is in
    drop-cons (report_in w) n e h ∙ rw (got, add-one n) refl

pub words-hold : (w : List ℕ) (n : ℕ) → n < length (report_in w) → n * per_entry + 4 < length w
words-hold w n h = omega (arith, rw (entries-count (places_in w) w) at h)
