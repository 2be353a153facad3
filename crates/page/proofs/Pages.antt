-- Pages, place by place and page by page, and how many bytes they take.
-- Assumes nothing.
use mathlib.Core.Path.{◌≡◌, refl, sym, ap, ◌∙◌}
use mathlib.Core.List.{List, [], ◌∷◌, ◌++◌, append_assoc, append-nil}
use Prim.Native.Nat.{ℕ, zero, suc, ◌+◌, ◌-◌, ◌*◌, ◌/◌, ◌%◌, ◌≤◌}
use native.Mathlib.Nat.{suc-mul}
use native.Mathlib.Numerals.{add-one}
use native.Mathlib.Omega.{arith}
use lib.ListN.{length, drop, length-append}
use lib.Seq.{drop-drop, drop-length, take_at, drop_at}
use borrow.Rule.Slice.PartMut.{put_mid}
use Rattle.std.specs.Prelude.{min}
use Rattle.text.specs.Byte.{Bytes}
use Rattle.lines.specs.Text.{row, rows}
use Rattle.lines.proofs.Text.{rows_append, rows_more}
use Rattle.report.specs.declared.Entry.{Entry}
use Rattle.pagetext.specs.Line.{line_size, heading, blank}
use Rattle.pagetext.proofs.Widths.{entry_size, heading_size, blank_size}
use Rattle.page.specs.Page.{per_page, page_size, place_of, places, page_of, first_pages, pages_for, pages_text, pages_in, paged, most_pages}
use Rattle.report.specs.Outcome.{Outcome, passed, require, ◌>>◌}
use Rattle.report.specs.Output.{output_with}
use Rattle.report.proofs.Passing.{then_passed, require-passed}
use borrow.Author.Tests.{leb-true}
use mathlib.Core.Bool.{true}
use Rattle.report.specs.Refusal.{short_pages, too_many_pages}
use lib.Dec.{leb}

-- ---- A PAGE

place_size : (es : List Entry) → length (row (place_of es)) ≡ line_size
place_size [] = blank_size
place_size (e ∷ es) = entry_size e

places_more : (n : ℕ) (es : List Entry) → rows (places (n + 1) es) ≡ rows (places n es) ++ row (place_of (drop n es))
unfolding places
places_more n es = rw (add-one n) (rows_more (places n es) (place_of (drop n es)))

places_none : (es : List Entry) → rows (places 0 es) ≡ []
unfolding places rows
places_none es = refl

places_size : (n : ℕ) (es : List Entry) → length (rows (places n es)) ≡ n * line_size
places_size zero es = ap length (places_none es)
places_size (suc n) es =
    rw (← add-one n, places_more n es)
    (length-append (rows (places n es)) (row (place_of (drop n es))) ∙ omega (arith, places_size n es, place_size (drop n es)))

-- a page's lines, one behind the other
pub page_put_together : (number from : ℕ) (es : List Entry) (head below lines : Bytes) → head ≡ row (heading number) → below ≡ row blank
    → lines ≡ rows (places per_page (drop from es)) → head ++ (below ++ lines) ≡ rows (page_of number (drop from es))
unfolding page_of rows
page_put_together number from es head below lines e f g = rw (e, f, g) refl

pub page_bytes : (number : ℕ) (es : List Entry) → length (rows (page_of number es)) ≡ page_size
unfolding page_of rows
page_bytes number es =
    length-append (row (heading number)) (row blank ++ rows (places per_page es))
    ∙ omega (arith, heading_size number, length-append (row blank) (rows (places per_page es)), blank_size, places_size per_page es)

-- ---- PAGE AFTER PAGE

pages_more : (n : ℕ) (es : List Entry) → rows (first_pages (n + 1) es) ≡ rows (first_pages n es) ++ rows (page_of (n + 1) (drop (n * per_page) es))
unfolding first_pages
pages_more n es = rw (add-one n) (rows_append (first_pages n es) (page_of (suc n) (drop (n * per_page) es)))

pub no_pages : (es : List Entry) → rows (first_pages 0 es) ≡ []
unfolding first_pages rows
no_pages es = refl

pub pages_bytes : (n : ℕ) (es : List Entry) → length (rows (first_pages n es)) ≡ n * page_size
pages_bytes zero es = ap length (no_pages es)
pages_bytes (suc n) es =
    rw (← add-one n, pages_more n es)
    (length-append (rows (first_pages n es)) (rows (page_of (n + 1) (drop (n * per_page) es))) ∙ omega (arith, pages_bytes n es, page_bytes (n + 1) (drop (n * per_page) es)))

-- ---- PARTS OF ONE SIZE: n stand in bytes, and one is put in the place of the next
module _ (size n : ℕ) (out was part done : Bytes) (so_far : out ≡ done ++ drop (n * size) was) (whole : length done ≡ n * size) where
  part_put : put_mid (n * size) (n * size + size - n * size) out part ≡ (done ++ part) ++ drop ((n + 1) * size) was
  part_put =
      let one : n * size + size - n * size ≡ size = omega arith in
      let two : n * size + size ≡ (n + 1) * size = sym (rw (add-one n) (suc-mul n size)) in
      rw (
        one,
        so_far,
        take_at done (drop (n * size) was) (n * size) whole,
        drop_at done (drop (n * size) was) (n * size) whole,
        drop-drop size (n * size) was,
        two,
      )
      (sym (append_assoc done part (drop ((n + 1) * size) was)))

pub none_placed : (es : List Entry) (lines : Bytes) → lines ≡ rows (places 0 es) ++ lines
none_placed es lines = rw (places_none es) refl

pub place_put : (n from : ℕ) (es : List Entry) (lines was line : Bytes) → lines ≡ rows (places n (drop from es)) ++ drop (n * line_size) was
    → line ≡ row (place_of (drop (from + n) es))
    → put_mid (n * line_size) (n * line_size + line_size - n * line_size) lines line ≡ rows (places (n + 1) (drop from es)) ++ drop ((n + 1) * line_size) was
place_put n from es lines was line so_far put =
    part_put line_size n lines was line (rows (places n (drop from es))) so_far (places_size n (drop from es))
    ∙ rw (put, places_more n (drop from es), drop-drop n from es) refl

pub places_whole : (n : ℕ) (es : List Entry) (lines was : Bytes) → lines ≡ rows (places n es) ++ drop (n * line_size) was → length was ≡ per_page * line_size
    → n ≤ per_page → per_page ≤ n → lines ≡ rows (places per_page es)
places_whole n es lines was so_far size h k =
    let is : n ≡ per_page = omega (arith, h, k) in
    let all : n * line_size ≡ length was = omega (arith, size, is) in
    let rest : drop (n * line_size) was ≡ [] = rw all (drop-length was) in
    so_far ∙ rw (rest, is) (append-nil (rows (places per_page es)))

pub none_out : (es : List Entry) (output : Bytes) → output ≡ rows (first_pages 0 es) ++ output
none_out es output = rw (no_pages es) refl

pub page_put : (n : ℕ) (es : List Entry) (output was page : Bytes) → output ≡ rows (first_pages n es) ++ drop (n * page_size) was
    → page ≡ rows (page_of (n + 1) (drop (n * per_page) es))
    → put_mid (n * page_size) (n * page_size + page_size - n * page_size) output page ≡ rows (first_pages (n + 1) es) ++ drop ((n + 1) * page_size) was
page_put n es output was page so_far put =
    part_put page_size n output was page (rows (first_pages n es)) so_far (pages_bytes n es) ∙ rw (put, pages_more n es) refl

-- how many pages, as the code finds them
pub pages_found : (n : ℕ) → n / per_page + min 1 (n % per_page) ≡ pages_for n
pages_found n = by_rest (n % per_page) refl
  where
    by_rest : (r : ℕ) → n % per_page ≡ r → n / per_page + min 1 r ≡ pages_for n
    by_rest zero e = omega (arith, e)
    by_rest (suc r) e = omega (arith, e)

pub admitted : (es : List Entry) (room n pages : ℕ) → n ≡ length es → pages ≡ n / per_page + min 1 (n % per_page)
    → pages_in es room ≡ (require (leb pages most_pages) too_many_pages >> (require (leb (pages * page_size) room) short_pages >> passed pages))
unfolding pages_in pages_text
admitted es room n pages e f =
    let found : pages ≡ pages_for (length es) = f ∙ pages_found n ∙ ap pages_for e in
    rw (← found, pages_bytes pages es) refl

-- where it is admitted
module _ (es : List Entry) (room pages : ℕ) (is : passed pages ≡ pages_in es room) where
  tests : (leb (pages_for (length es)) most_pages ≡ true) × (leb (length (pages_text es)) room ≡ true) × (pages_for (length es) ≡ pages)
  unfolding pages_in
  tests =
      let few = then_passed (require (leb (pages_for (length es)) most_pages) too_many_pages) pages _ (sym is) in
      let fit = then_passed (require (leb (length (pages_text es)) room) short_pages) pages _ few.2 in
      let q : ◌≡◌ {A = Outcome ℕ} (passed (pages_for (length es))) (passed pages) = fit.2 in
      (require-passed _ too_many_pages few.0 few.1, require-passed _ short_pages fit.0 fit.1, cc)

  text_size : length (pages_text es) ≡ pages * page_size
  unfolding pages_text
  text_size = rw (tests.2) (pages_bytes pages es)

  pub room_for_pages : (pages ≤ most_pages) × (pages * page_size ≤ room)
  room_for_pages = (
    omega (arith, leb-true (pages_for (length es)) most_pages tests.0, tests.2),
    omega (arith, leb-true (length (pages_text es)) room tests.1, text_size),
  )

  pub pages_are : pages ≡ pages_for (length es)
  pages_are = sym tests.2

  pub output_is : (output : Bytes) → output_with output (paged es room) ≡ rows (first_pages pages es) ++ drop (pages * page_size) output
  unfolding paged pages_text
  output_is output = rw (← is, tests.2, pages_bytes pages es) refl
