-- The tests 11, 13 and 14, and a row as they leave it.
-- Assumes nothing.
use mathlib.Core.Path.{◌≡◌, refl, sym, ◌∙◌}
use Prim.Native.Nat.{ℕ, ◌≤◌}
use mathlib.Core.Bool.{not}
use mathlib.Core.List.{List}
use lib.Dec.{eqb}
use lib.ListN.{length}
use borrow.Author.Tests.{eqb-true, not-true}
use Rattle.text.specs.Byte.{Bytes, equals}
use Rattle.text.specs.Field.{cut, first_field}
use Rattle.text.proofs.Comma.{cut_at, cut-some}
use Rattle.text.proofs.Equal.{equals_path}
use Rattle.lines.specs.Line.{Line, is_long, line_limit}
use Rattle.report.specs.Outcome.{Outcome, passed, require}
use Rattle.report.specs.Verdict.{long, wrong_code, wrong_count}
use Rattle.report.proofs.Passing.{then_passed, require-passed}
use Rattle.lines.specs.Row.{fields_of, ◌!◌}
use Rattle.lines.proofs.Lines.{short-line}

pub cut-first : (s : Bytes) → cut s ! 1 ≡ first_field s
cut-first s = cut_at 0 s (cut-some s)

-- a line that 11, 13 and 14 let pass
pub record Due (code : Bytes) (n : ℕ) (line : Bytes) : Type 0 where
  pub short : length line ≤ line_limit
  pub first : first_field line ≡ code
  pub count : length (cut line) ≡ n

-- where the tests let a row pass: it has the fields that its line is cut into, and that line is one that is due
begun : (code : Bytes) (n : ℕ) (line : Line) (fields : List Bytes) → passed fields ≡ fields_of code n line → (cut line.body ≡ fields) × Due code n line.body
unfolding fields_of
begun code n line fields e =
    let short = then_passed (require (not (is_long line)) long) fields _ (sym e) in
    let due = then_passed (require (equals (cut line.body ! 1) code) wrong_code) fields _ short.2 in
    let count = then_passed (require (eqb (length (cut line.body)) n) wrong_count) fields _ due.2 in
    let all : ◌≡◌ {A = Outcome (List Bytes)} (passed (cut line.body)) (passed fields) = count.2 in (
      cc,
      record {
        short = short-line line (is_long line) refl (not-true (is_long line) (require-passed _ _ short.0 short.1));
        first = sym (cut-first line.body) ∙ equals_path (cut line.body ! 1) code (require-passed _ _ due.0 due.1);
        count = eqb-true (length (cut line.body)) n (require-passed _ _ count.0 count.1);
      },
    )

pub begun-due : (code : Bytes) (n : ℕ) (line : Line) (fields : List Bytes) → passed fields ≡ fields_of code n line → Due code n line.body
begun-due code n line fields e = (begun code n line fields e).1

pub fields_cut : (code : Bytes) (n : ℕ) (line : Line) (fields : List Bytes) → passed fields ≡ fields_of code n line → cut line.body ≡ fields
fields_cut code n line fields e = (begun code n line fields e).0

pub fields_counted : (code : Bytes) (n : ℕ) (line : Line) (fields : List Bytes) → passed fields ≡ fields_of code n line → length fields ≡ n
fields_counted code n line fields e = let b = begun code n line fields e in rw (← b.0) b.1.count
