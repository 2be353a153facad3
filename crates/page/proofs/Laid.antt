-- Where everything stands on the pages that were put out.
-- Assumes nothing.
use mathlib.Core.Path.{◌≡◌, refl, sym, ap, ◌∙◌}
use mathlib.Core.List.{List, [], ◌∷◌, ◌++◌, append_assoc}
use mathlib.Core.Bool.{Bool, true, false}
use Prim.Native.Nat.{ℕ, zero, suc, ◌+◌, ◌-◌, ◌*◌, ◌/◌, ◌%◌, ◌<◌}
use native.Mathlib.Numerals.{add-one}
use native.Mathlib.Omega.{arith}
use lib.Dec.{ltb}
use lib.ListN.{length, get_or, take, drop, length-append, get_or-append}
use lib.Seq.{take_at, drop_at, drop-drop, get_or-drop, get_or-append_right, get_or-append_seam}
use borrow.Author.Tests.{ltb-true, ltb-false}
use Rattle.text.specs.Byte.{Bytes}
use Rattle.lines.specs.Line.{LF}
use Rattle.lines.specs.Text.{row, rows}
use Rattle.report.specs.declared.Entry.{Entry}
use Rattle.pagetext.specs.Line.{line_width, line_size, heading, blank}
use Rattle.pagetext.proofs.Widths.{entry_width, heading_width, blank_width}
use Rattle.page.specs.Page.{per_page, lines_per_page, page_size, place_of, places, page_of, first_pages, pages_for, pages_in, paged}
use Rattle.page.specs.Laid.{line_at, Laid}
use Rattle.page.proofs.Pages.{pages_bytes, pages_are, output_is}
use Rattle.report.specs.Outcome.{passed}
use Rattle.report.specs.Output.{output_with}

-- ---- LINES OF EQUAL WIDTH

-- each line of so many has the width of a page
abbrev Wide : List Bytes → Type 0
Wide ls = (n : ℕ) → n < length ls → length (get_or ls n []) ≡ line_width

module _ (l : Bytes) (ls : List Bytes) (r : Bytes) (wide : length l ≡ line_width) where
  apart_lines : rows (l ∷ ls) ++ r ≡ l ++ (LF ∷ (rows ls ++ r))
  unfolding rows
  apart_lines = append_assoc (row l) (rows ls) r ∙ append_assoc l (LF ∷ []) (rows ls ++ r)

  first_line : line_at 0 (rows (l ∷ ls) ++ r) ≡ l
  first_line = ap (take line_width) apart_lines ∙ take_at l (LF ∷ (rows ls ++ r)) line_width wide

  behind_first : (n : ℕ) → drop (suc n * line_size) (rows (l ∷ ls) ++ r) ≡ drop (n * line_size) (rows ls ++ r)
  unfolding rows
  behind_first n =
      let split : suc n * line_size ≡ line_size + n * line_size = omega arith in
      rw (split, append_assoc (row l) (rows ls) r)
      (sym (drop-drop (n * line_size) line_size (row l ++ (rows ls ++ r)))
      ∙ ap (drop (n * line_size)) (drop_at (row l) (rows ls ++ r) line_size (length-append l (LF ∷ []) ∙ omega (arith, wide))))

line_is : (ls : List Bytes) (r : Bytes) → Wide ls → (n : ℕ) → n < length ls → line_at n (rows ls ++ r) ≡ get_or ls n []
line_is [] r w n h = elim h [ ]
line_is (l ∷ ls) r w zero h = first_line l ls r (w 0 (omega arith))
line_is (l ∷ ls) r w (suc n) h = ap (take line_width) (behind_first l ls r (w 0 (omega arith)) n) ∙ line_is ls r (λ k j. w (suc k) (omega (arith, j))) n (omega (arith, h))

first_end : (l : Bytes) (ls : List Bytes) (r : Bytes) → length l ≡ line_width → get_or (rows (l ∷ ls) ++ r) line_width 0 ≡ LF
first_end l ls r wide =
    rw (apart_lines l ls r wide) (ap (λ k. get_or (l ++ (LF ∷ (rows ls ++ r))) k 0) (sym wide) ∙ get_or-append_seam l LF (rows ls ++ r) 0)

end_is : (ls : List Bytes) (r : Bytes) → Wide ls → (n : ℕ) → n < length ls → get_or (drop (n * line_size) (rows ls ++ r)) line_width 0 ≡ LF
end_is [] r w n h = elim h [ ]
end_is (l ∷ ls) r w zero h = first_end l ls r (w 0 (omega arith))
end_is (l ∷ ls) r w (suc n) h =
    ap (λ (s : Bytes). get_or s line_width 0) (behind_first l ls r (w 0 (omega arith)) n) ∙ end_is ls r (λ k j. w (suc k) (omega (arith, j))) n (omega (arith, h))

-- ---- THE LINES OF PAGES

places_count : (n : ℕ) (es : List Entry) → length (places n es) ≡ n
unfolding places
places_count zero es = refl
places_count (suc n) es = length-append (places n es) (place_of (drop n es) ∷ []) ∙ ap (λ k. k + 1) (places_count n es) ∙ add-one n

place_at : (n i : ℕ) (es : List Entry) → i < n → get_or (places n es) i [] ≡ place_of (drop i es)
unfolding places
place_at zero i es h = elim h [ ]
place_at (suc n) i es h = by_test (ltb i n) refl (place_at n i es)
  where
    by_test : (t : Bool) → ltb i n ≡ t → (i < n → get_or (places n es) i [] ≡ place_of (drop i es)) → get_or (places n es ++ place_of (drop n es) ∷ []) i [] ≡ place_of (drop i es)
    by_test true e rest = get_or-append (places n es) (place_of (drop n es) ∷ []) [] i (rw (places_count n es) (ltb-true i n e)) ∙ rest (ltb-true i n e)
    by_test false e rest =
        let is : i ≡ n = omega (arith, h, ltb-false i n e) in
        rw is (ap (λ k. get_or (places n es ++ place_of (drop n es) ∷ []) k []) (sym (places_count n es)) ∙ get_or-append_seam (places n es) (place_of (drop n es)) [] [])

page_count : (number : ℕ) (es : List Entry) → length (page_of number es) ≡ lines_per_page
unfolding page_of
page_count number es = omega (arith, places_count per_page es)

pages_count : (n : ℕ) (es : List Entry) → length (first_pages n es) ≡ n * lines_per_page
unfolding first_pages
pages_count zero es = refl
pages_count (suc n) es =
    length-append (first_pages n es) (page_of (suc n) (drop (n * per_page) es)) ∙ omega (arith, pages_count n es, page_count (suc n) (drop (n * per_page) es))

-- line i of page p
page_at : (n p i : ℕ) (es : List Entry) → p < n → i < lines_per_page
    → get_or (first_pages n es) (p * lines_per_page + i) [] ≡ get_or (page_of (p + 1) (drop (p * per_page) es)) i []
unfolding first_pages
page_at zero p i es h j = elim h [ ]
page_at (suc n) p i es h j = by_test (ltb p n) refl (λ l. page_at n p i es l j)
  where
    before : List Bytes
    before = first_pages n es

    this : List Bytes
    this = page_of (suc n) (drop (n * per_page) es)

    by_test : (t : Bool) → ltb p n ≡ t
        → (p < n → get_or before (p * lines_per_page + i) [] ≡ get_or (page_of (p + 1) (drop (p * per_page) es)) i [])
        → get_or (before ++ this) (p * lines_per_page + i) [] ≡ get_or (page_of (p + 1) (drop (p * per_page) es)) i []
    by_test true e rest =
        get_or-append before this [] (p * lines_per_page + i) (omega (arith, pages_count n es, ltb-true p n e, j)) ∙ rest (ltb-true p n e)
    by_test false e rest =
        let is : p ≡ n = omega (arith, h, ltb-false p n e) in
        let past : n * lines_per_page + i - length before ≡ i = omega (arith, pages_count n es) in
        rw (is, add-one n)
        (get_or-append_right before this (n * lines_per_page + i) [] (omega (arith, pages_count n es)) ∙ ap (λ k. get_or this k []) past)

place_width : (es : List Entry) → length (place_of es) ≡ line_width
place_width [] = blank_width
place_width (e ∷ es) = entry_width e

line_width_of : (number : ℕ) (es : List Entry) (i : ℕ) → i < lines_per_page → length (get_or (page_of number es) i []) ≡ line_width
unfolding page_of
line_width_of number es zero h = heading_width number
line_width_of number es (suc zero) h = blank_width
line_width_of number es (suc (suc i)) h = rw (place_at per_page i es (omega (arith, h))) (place_width (drop i es))

pages_wide : (n : ℕ) (es : List Entry) → Wide (first_pages n es)
pages_wide n es k h =
    let p : ℕ = k / lines_per_page in
    let i : ℕ = k % lines_per_page in
    let split : k ≡ p * lines_per_page + i = omega arith in
    let within : p < n = omega (arith, h, pages_count n es) in
    let low : i < lines_per_page = omega arith in
    ap (λ j. length (get_or (first_pages n es) j [])) split
    ∙ rw (page_at n p i es within low) (line_width_of (p + 1) (drop (p * per_page) es) i low)

-- ---- THE OUTPUT

module _ (es : List Entry) (pages : ℕ) (before after : Bytes) (enough : pages ≡ pages_for (length es))
    (put : after ≡ rows (first_pages pages es) ++ drop (pages * page_size) before) where
  abbrev rest_of : Bytes
  rest_of = drop (pages * page_size) before

  found : (p i : ℕ) → p < pages → i < lines_per_page → line_at (p * lines_per_page + i) after ≡ get_or (page_of (p + 1) (drop (p * per_page) es)) i []
  found p i h j =
      ap (line_at (p * lines_per_page + i)) put
      ∙ line_is (first_pages pages es) rest_of (pages_wide pages es) (p * lines_per_page + i) (omega (arith, h, j, pages_count pages es))
      ∙ page_at pages p i es h j

  head_found : (p : ℕ) → p < pages → line_at (p * lines_per_page) after ≡ heading (p + 1)
  unfolding page_of
  head_found p h = let z : p * lines_per_page + 0 ≡ p * lines_per_page = omega arith in rw (← z) (found p 0 h (omega arith))

  below_found : (p : ℕ) → p < pages → line_at (p * lines_per_page + 1) after ≡ blank
  unfolding page_of
  below_found p h = found p 1 h (omega arith)

  place_found : (p i : ℕ) → p < pages → i < per_page → line_at (p * lines_per_page + 2 + i) after ≡ place_of (drop (p * per_page + i) es)
  unfolding page_of
  place_found p i h j =
      let z : p * lines_per_page + suc (suc i) ≡ p * lines_per_page + 2 + i = omega arith in
      rw (← z) (found p (suc (suc i)) h (omega (arith, j)))
      ∙ place_at per_page i (drop (p * per_page) es) j ∙ ap place_of (drop-drop i (p * per_page) es)

  pub laid : Laid es pages before after
  laid = record {
    heads = head_found;
    below = below_found;
    places = place_found;
    ends = λ n h.
        sym (get_or-drop (n * line_size) after line_width 0)
        ∙ rw put (end_is (first_pages pages es) rest_of (pages_wide pages es) n (rw (pages_count pages es) h));
    enough = omega (arith, enough);
    fewest = omega (arith, enough);
    rest = rw put (drop_at (rows (first_pages pages es)) rest_of (pages * page_size) (pages_bytes pages es));
  }

-- what a call that is done has put out
pub laid_out : (es : List Entry) (pages : ℕ) (before after : Bytes) → passed pages ≡ pages_in es (length before)
    → after ≡ output_with before (paged es (length before)) → Laid es pages before after
laid_out es pages before after is put = laid es pages before after (pages_are es (length before) pages is) (put ∙ output_is es (length before) pages is before)
