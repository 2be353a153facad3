-- The bounds on A, X and B in the form that the proof of isolation uses (`Seams`: behind A's lines no unit takes rows), and that this is the claim's
-- own form: A's last unit is a short record exactly where a unit takes rows behind A's lines. Only the rows being taken are followed along
-- the lines: line numbers and verdicts make no difference to them.
-- Assumes nothing.
use mathlib.Core.Path.{◌≡◌, refl, sym, ◌∙◌}
use mathlib.Core.List.{List, [], ◌∷◌, ◌++◌}
use mathlib.Core.Bool.{Bool, true, false, cond, ◌||◌}
use mathlib.Core.Logic.{inl, inr}
use Prim.Native.Nat.{ℕ, suc}
use native.Mathlib.Omega.{arith}
use lib.Dec.{eqb}
use Rattle.text.specs.Byte.{Bytes}
use Rattle.lines.specs.Line.{LF, Line, ended_line}
use Rattle.lines.specs.declared.line.Kind.{Kind}
use Rattle.lines.specs.declared.line.Kind.TheVariants.{Empty, Opener, Detail, Other}
use Rattle.plain.specs.Rows.{Rows, Row, refused_with, goes_on, complete, Rules}
use Rattle.plain.specs.Loader.{OpenUnit, no_unit, takes_rows, waits, skips, settle, Scan, start, step_kind, step_line, byte_to, scan_to}
use Rattle.plain.specs.Claim.{Whole, lines_from, lines_of, line_kind, is_filled, is_opener, filled, first_kind, has_opener, from_last_opener}
use Rattle.plain.specs.Claim.{LastUnit, none_yet, stray_run, short_record, all_rows, refused_record, behind_record, record_is, unit_is, last_unit}
use Rattle.plain.specs.Claim.{AllowsA, empty, only_empty, ends_stray, ends_with_all_rows, ends_refused, AllowsX, AllowsB}

abbrev pub TakesRows : OpenUnit → Type 0
TakesRows no_unit = ⊥
TakesRows (takes_rows first rows) = Unit {0}
TakesRows (waits first last r) = ⊥
TakesRows skips = ⊥

pub record Seams (R : Rules) (a x b : Bytes) : Type 0 where
  pub a_whole : Whole a
  pub a_unit : ¬ TakesRows (scan_to R start a).unit
  pub x_whole : Whole x
  pub x_first : ¬ (first_kind (filled (lines_of x)) ≡ Detail)
  pub b_opens : AllowsB b

-- the rows that are being taken, if any
data Taking : Type 0 where
  idle : Taking
  taking : Rows → Taking

abbrev is_taking : Taking → Bool
is_taking idle = false
is_taking (taking rows) = true

abbrev unit_taking : OpenUnit → Taking
unit_taking no_unit = idle
unit_taking (takes_rows first rows) = taking rows
unit_taking (waits first last r) = idle
unit_taking skips = idle

abbrev row_taking : Row → Taking
row_taking (refused_with verdict meter day) = idle
row_taking (goes_on rows) = taking rows
row_taking (complete r) = idle

abbrev is_short : LastUnit → Bool
is_short none_yet = false
is_short stray_run = false
is_short short_record = true
is_short all_rows = false
is_short refused_record = false

takes_none : (u : OpenUnit) → is_taking (unit_taking u) ≡ false → ¬ TakesRows u
takes_none no_unit h t = t
takes_none (takes_rows first rows) h t = let z : ◌≡◌ {A = ℕ} 0 1 = cc in omega arith
takes_none (waits first last r) h t = t
takes_none skips h t = t

none-taken : (u : OpenUnit) → ¬ TakesRows u → is_taking (unit_taking u) ≡ false
none-taken no_unit h = refl
none-taken (takes_rows first rows) h = absurd (h tt)
none-taken (waits first last r) h = refl
none-taken skips h = refl

settle-taking : (first n : ℕ) (r : Row) → unit_taking (settle first n r).unit ≡ row_taking r
unfolding settle
settle-taking first n (refused_with verdict meter day) = refl
settle-taking first n (goes_on rows) = refl
settle-taking first n (complete r) = refl

behind-short : (c : Kind) → is_short (behind_record c) ≡ false
behind-short Empty = refl
behind-short Opener = refl
behind-short Detail = refl
behind-short Other = refl

-- no opener is an empty line
opener_filled : (ls : List Line) → has_opener (filled ls) ≡ has_opener ls
unfolding filled has_opener
opener_filled [] = refl
opener_filled (l ∷ ls) = go (line_kind l) refl (opener_filled ls)
  where
    go : (c : Kind) → line_kind l ≡ c → has_opener (filled ls) ≡ has_opener ls
        → has_opener (cond (is_filled c) (l ∷ filled ls) (filled ls)) ≡ is_opener c || has_opener ls
    go Empty e ih = ih
    go Opener e ih = rw e
    go Detail e ih = rw e ih
    go Other e ih = rw e ih

module _ (R : Rules) where
  -- what a line makes of the rows being taken
  abbrev line_taking : Kind → Line → Taking → Taking
  line_taking Empty l t = t
  line_taking Opener l t = row_taking (R.row_one l)
  line_taking Detail l idle = idle
  line_taking Detail l (taking rows) = row_taking (R.row_next rows l)
  line_taking Other l idle = idle
  line_taking Other l (taking rows) = row_taking (R.row_next rows l)

  lines_taking : List Line → Taking → Taking
  lines_taking [] t = t
  lines_taking (l ∷ ls) t = lines_taking ls (line_taking (line_kind l) l t)

  kind-taking : (c : Kind) (n : ℕ) (l : Line) (u : OpenUnit) → unit_taking (step_kind R c n l u).unit ≡ line_taking c l (unit_taking u)
  unfolding step_kind
  kind-taking Empty n l u = refl
  kind-taking Opener n l u = settle-taking n n (R.row_one l)
  kind-taking Detail n l no_unit = refl
  kind-taking Detail n l (takes_rows first rows) = settle-taking first n (R.row_next rows l)
  kind-taking Detail n l (waits first last r) = refl
  kind-taking Detail n l skips = refl
  kind-taking Other n l no_unit = refl
  kind-taking Other n l (takes_rows first rows) = settle-taking first n (R.row_next rows l)
  kind-taking Other n l (waits first last r) = refl
  kind-taking Other n l skips = refl

  -- the scan does the same
  scan-taking : (s : Scan) (x : Bytes) → unit_taking (scan_to R s x).unit ≡ lines_taking (lines_from s.kept x) (unit_taking s.unit)
  unfolding scan_to lines_from lines_taking byte_to step_line
  scan-taking s [] = refl
  scan-taking s (b ∷ x) = scan-taking (byte_to R (eqb b LF) s b) x ∙ go (eqb b LF)
    where
      go : (c : Bool) → lines_taking (lines_from (byte_to R c s b).kept x) (unit_taking (byte_to R c s b).unit)
          ≡ lines_taking (cond c (ended_line s.kept ∷ lines_from [] x) (lines_from (s.kept ++ (b ∷ [])) x)) (unit_taking s.unit)
      go true = rw (kind-taking (line_kind (ended_line s.kept)) (suc s.lines) (ended_line s.kept) s.unit)
      go false = refl

  -- behind an opener it makes no difference what was taken before
  opener_resets : (ls : List Line) (t : Taking) → has_opener ls ≡ true → lines_taking ls t ≡ lines_taking ls idle
  unfolding lines_taking has_opener
  opener_resets [] t h = cc
  opener_resets (l ∷ ls) t h = go (line_kind l) h (opener_resets ls)
    where
      go : (c : Kind) → is_opener c || has_opener ls ≡ true
          → ((q : Taking) → has_opener ls ≡ true → lines_taking ls q ≡ lines_taking ls idle)
          → lines_taking ls (line_taking c l t) ≡ lines_taking ls (line_taking c l idle)
      go Empty g ih = ih t g
      go Opener g ih = refl
      go Detail g ih = ih (line_taking Detail l t) g
      go Other g ih = ih (line_taking Other l t) g

  -- without an opener no record begins
  none-begins : (ls : List Line) → has_opener ls ≡ false → lines_taking ls idle ≡ idle
  unfolding lines_taking has_opener
  none-begins [] h = refl
  none-begins (l ∷ ls) h = go (line_kind l) h (none-begins ls)
    where
      go : (c : Kind) → is_opener c || has_opener ls ≡ false → (has_opener ls ≡ false → lines_taking ls idle ≡ idle)
          → lines_taking ls (line_taking c l idle) ≡ idle
      go Empty g ih = ih g
      go Opener g ih = cc
      go Detail g ih = ih g
      go Other g ih = ih g

  -- a record and the lines behind it
  record-short : (ls : List Line) (r : Row) → has_opener ls ≡ false
      → is_short (record_is R (filled ls) r) ≡ is_taking (lines_taking ls (row_taking r))
  unfolding lines_taking has_opener filled record_is
  record-short [] (refused_with verdict meter day) h = refl
  record-short [] (goes_on rows) h = refl
  record-short [] (complete r) h = refl
  record-short (l ∷ ls) r h = go (line_kind l) r h (record-short ls)
    where
      go : (c : Kind) (q : Row) → is_opener c || has_opener ls ≡ false
          → ((p : Row) → has_opener ls ≡ false → is_short (record_is R (filled ls) p) ≡ is_taking (lines_taking ls (row_taking p)))
          → is_short (record_is R (cond (is_filled c) (l ∷ filled ls) (filled ls)) q) ≡ is_taking (lines_taking ls (line_taking c l (row_taking q)))
      go Empty q g ih = ih q g
      go Opener q g ih = cc
      go Detail (refused_with verdict meter day) g ih = rw (none-begins ls g)
      go Detail (goes_on rows) g ih = ih (R.row_next rows l) g
      go Detail (complete p) g ih = rw (none-begins ls g) (behind-short (line_kind l))
      go Other (refused_with verdict meter day) g ih = rw (none-begins ls g)
      go Other (goes_on rows) g ih = ih (R.row_next rows l) g
      go Other (complete p) g ih = rw (none-begins ls g) (behind-short (line_kind l))

  -- the last unit
  last-short : (ls : List Line) → is_short (unit_is R (from_last_opener (filled ls))) ≡ is_taking (lines_taking ls idle)
  unfolding lines_taking filled from_last_opener unit_is
  last-short [] = refl
  last-short (l ∷ ls) = go (line_kind l) refl (has_opener ls) refl (last-short ls)
    where
      go : (c : Kind) → line_kind l ≡ c → (o : Bool) → has_opener ls ≡ o
          → is_short (unit_is R (from_last_opener (filled ls))) ≡ is_taking (lines_taking ls idle)
          → is_short (unit_is R (from_last_opener (cond (is_filled c) (l ∷ filled ls) (filled ls))))
          ≡ is_taking (lines_taking ls (line_taking c l idle))
      go Empty e o g ih = ih
      go Opener e true g ih = rw (opener_filled ls, g, opener_resets ls (row_taking (R.row_one l)) g) ih
      go Opener e false g ih = rw (opener_filled ls, g, e) (record-short ls (R.row_one l) g)
      go Detail e true g ih = rw (opener_filled ls, g) ih
      go Detail e false g ih = rw (opener_filled ls, g, e, none-begins ls g)
      go Other e true g ih = rw (opener_filled ls, g) ih
      go Other e false g ih = rw (opener_filled ls, g, e, none-begins ls g)

  short-takes : (a : Bytes) → is_short (last_unit R a) ≡ is_taking (unit_taking (scan_to R start a).unit)
  unfolding last_unit
  short-takes a = rw (scan-taking start a) (last-short (lines_of a))

  -- a record is a unit
  record-some : (ls : List Line) (r : Row) → record_is R ls r ≡ none_yet → true ≡ false
  unfolding record_is
  record-some [] (refused_with verdict meter day) h = cc
  record-some [] (goes_on rows) h = cc
  record-some [] (complete r) h = cc
  record-some (l ∷ ls) (refused_with verdict meter day) h = cc
  record-some (l ∷ ls) (goes_on rows) h = record-some ls (R.row_next rows l) h
  record-some (l ∷ ls) (complete r) h = go (line_kind l) h
    where
      go : (c : Kind) → behind_record c ≡ none_yet → true ≡ false
      go Empty g = cc
      go Opener g = cc
      go Detail g = cc
      go Other g = cc

  -- so only where there are no lines there is no last unit
  no_lines : (ls : List Line) → unit_is R (from_last_opener ls) ≡ none_yet → ls ≡ []
  unfolding from_last_opener unit_is has_opener
  no_lines [] h = refl
  no_lines (l ∷ ls) h = go (has_opener ls) refl (is_opener (line_kind l)) refl h (no_lines ls)
    where
      go : (o : Bool) → has_opener ls ≡ o → (c : Bool) → is_opener (line_kind l) ≡ c
          → unit_is R (cond o (from_last_opener ls) (l ∷ ls)) ≡ none_yet → (unit_is R (from_last_opener ls) ≡ none_yet → ls ≡ []) → l ∷ ls ≡ []
      go true g c e q ih = let y : false ≡ true = rw (ih q) at g in cc
      go false g true e q ih = let y : true ≡ false = record-some ls (R.row_one l) (rw e at q) in cc
      go false g false e q ih = let y : stray_run ≡ none_yet = rw e at q in cc

  allows_whole : (a : Bytes) → AllowsA R a → Whole a
  allows_whole a (empty e) = inl e
  allows_whole a (only_empty w h) = inr w
  allows_whole a (ends_stray w h) = inr w
  allows_whole a (ends_with_all_rows w h) = inr w
  allows_whole a (ends_refused w h) = inr w

  allows_unit : (a : Bytes) → AllowsA R a → is_short (last_unit R a) ≡ false
  unfolding last_unit lines_from filled from_last_opener unit_is
  allows_unit a (empty e) = rw e
  allows_unit a (only_empty w h) = rw h
  allows_unit a (ends_stray w h) = rw h
  allows_unit a (ends_with_all_rows w h) = rw h
  allows_unit a (ends_refused w h) = rw h

  allowed : (a : Bytes) → Whole a → is_short (last_unit R a) ≡ false → AllowsA R a
  unfolding last_unit
  allowed a (inl e) h = empty e
  allowed a (inr w) h = go (last_unit R a) refl
    where
      go : (u : LastUnit) → last_unit R a ≡ u → AllowsA R a
      go none_yet e = only_empty w (no_lines (filled (lines_of a)) e)
      go stray_run e = ends_stray w e
      go short_record e = absurd (let y : true ≡ false = rw e at h in let z : ◌≡◌ {A = ℕ} 0 1 = cc in omega arith)
      go all_rows e = ends_with_all_rows w e
      go refused_record e = ends_refused w e

  pub bounded : (a x b : Bytes) → AllowsA R a → AllowsX x → AllowsB b → Seams R a x b
  bounded a x b ha hx hb =
      record {
        a_whole = allows_whole a ha;
        a_unit = takes_none (scan_to R start a).unit (sym (short-takes a) ∙ allows_unit a ha);
        x_whole = hx.whole;
        x_first = hx.first;
        b_opens = hb;
      }

  pub bounded-back : (a x b : Bytes) → Seams R a x b → AllowsA R a × AllowsX x × AllowsB b
  bounded-back a x b s = (
    allowed a s.a_whole (short-takes a ∙ none-taken (scan_to R start a).unit s.a_unit),
    record { whole = s.x_whole; first = s.x_first },
    s.b_opens,
  )
