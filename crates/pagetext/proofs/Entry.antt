-- An entry's line, column behind column.
-- Assumes nothing.
use mathlib.Core.Path.{◌≡◌, refl, ap, ◌∙◌}
use mathlib.Core.List.{[], ◌∷◌, ◌++◌, append_assoc}
use Prim.Native.Nat.{ℕ}
use native.Mathlib.Omega.{arith}
use lib.ListN.{length, set}
use Rattle.text.specs.Byte.{Bytes}
use Rattle.padded.specs.Padding.{pad}
use Rattle.lines.specs.Line.{LF}
use Rattle.lines.specs.Text.{row}
use Rattle.report.specs.declared.Entry.{Entry}
use Rattle.pagetext.specs.Texts.{text_of}
use Rattle.pagetext.specs.Line.{first_width, verdict_width, at_width, meter_width, day_width, text_width, right, entry_line}

-- a number in a column whose width is known
pub in_column : (w width n : ℕ) (column : Bytes) → column ≡ right w n → w ≡ width → column ≡ right width n
in_column w width n column e h = e ∙ ap (λ (v : ℕ). right v n) h

pub entry_put : (e : Entry) (a b c d f t : Bytes) (end : Bytes) → a ≡ right first_width e.first → b ≡ right verdict_width e.verdict → c ≡ right at_width e.at
    → d ≡ right meter_width e.meter → f ≡ right day_width e.day → t ≡ pad text_width (text_of e.verdict) → length end ≡ 1
    → a ++ (b ++ (c ++ (d ++ (f ++ (t ++ set end 0 LF))))) ≡ row (entry_line e)
unfolding entry_line
entry_put e a b c d f t [] ea eb ec ed ef et h = absurd (omega (arith, h))
entry_put e a b c d f t (x ∷ y ∷ s) ea eb ec ed ef et h = absurd (omega (arith, h))
entry_put e a b c d f t (x ∷ []) ea eb ec ed ef et h = rw (ea, eb, ec, ed, ef, et) (simp append_assoc refl)
