-- Estimates: the marks of a sound cell are the estimated ones of its intervals.
-- Assumes nothing.
use mathlib.Core.Path.{◌≡◌, sym, ap, ◌∙◌}
use mathlib.Core.Bool.{true}
use Prim.Native.Nat.{ℕ, ◌≤◌}
use lib.ListN.{get_or}
use Rattle.text.specs.Byte.{Bytes}
use Rattle.report.specs.Outcome.{passed}
use Rattle.cell.specs.Layout.{Words, count_at, max_intervals, mark_bits}
use Rattle.cell.specs.Marks.{estimated}
use Rattle.reads.specs.Sound.{is_sound}
use Rattle.reads.proofs.Count.{sound-estimated}
use Rattle.reads.proofs.SoundParts.{sound-parts}
use Rattle.cells.specs.Sound.{sound_cell, day_intervals}
use Rattle.cells.proofs.Passed.{FoundCell, found-cell}
use Rattle.estimates.specs.Estimates.{estimates_of}

marks_are : (n : ℕ) (w : Words) → n ≤ max_intervals → is_sound n w ≡ true → estimated mark_bits w ≡ estimated (get_or w count_at 0) w
marks_are n w few s = sound-estimated n w few s ∙ ap (λ k. estimated k w) (sym (sound-parts n w s).counted)

pub marks-counted : (reg : Bytes) (table : Words) (m c d : ℕ) (w : Words) → passed w ≡ sound_cell reg table m c d → (k : ℕ) → k ≡ estimated mark_bits w
    → passed k ≡ estimates_of reg table m c d
unfolding estimates_of
marks-counted reg table m c d w here k e =
    let f : FoundCell reg table m c d w = found-cell reg table m c d w (sym here) in
    let marks : k ≡ estimated (get_or w count_at 0) w = e ∙ marks_are (day_intervals reg d) w f.few f.sound in
    rw (← here, marks)
