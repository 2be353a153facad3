-- Lines put into a text: one behind the other.
-- Assumes nothing.
use mathlib.Core.Path.{◌≡◌, refl, sym, ap, ◌∙◌}
use mathlib.Core.List.{List, [], ◌∷◌, ◌++◌, append_assoc, append-nil}
use Rattle.text.specs.Byte.{Bytes}
use Rattle.lines.specs.Text.{row, rows}

pub rows_append : (xs ys : List Bytes) → rows (xs ++ ys) ≡ rows xs ++ rows ys
unfolding rows
rows_append [] ys = refl
rows_append (x ∷ xs) ys = ap (λ (s : Bytes). row x ++ s) (rows_append xs ys) ∙ sym (append_assoc (row x) (rows xs) (rows ys))

-- one more
pub rows_more : (xs : List Bytes) (x : Bytes) → rows (xs ++ x ∷ []) ≡ rows xs ++ row x
unfolding rows
rows_more xs x = rows_append xs (x ∷ []) ∙ ap (λ (s : Bytes). rows xs ++ s) (append-nil (row x))
