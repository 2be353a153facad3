-- `cells::find_sound` meets its contract.
-- Assumes nothing.
use mathlib.Core.Path.{refl, sym, ap, ◌∙◌}
use native.Mathlib.Omega.{arith}
use Rattle.report.specs.Refusal.{refusal_number}
use Rattle.report.proofs.Passing.{next-exit}
use Rattle.registry.proofs.Laws.{window-most}
use Rattle.cells.proofs.Stages.{sound_stages}
use Rattle.cells.proofs.Found.{intervals-few, window-ends}
use Rattle.cells.proofs.Passed.{found-day, day-known}
use Rattle.cells.proofs.find_sound.Goals as goal

pub returns-in_err-words : goal.returns-in_err-words
returns-in_err-words c = next-exit refusal_number _ _ c.from_residual.ensures.1 _ ∙ rw (sound_stages c.args.index.now.registry.now c.args.table.now c.args.at.meter c.args.at.channel c.args.at.day, ← c.in_err-words.ensures)

pub overflow_cast-at : goal.overflow_cast-at
overflow_cast-at c = omega (arith, found-day _ _ _ _ c.args.at.day _ (sym c.in_ok-words.ensures), window-most c.args.index.now.registry.now)

pub overflow_add-window : goal.overflow_add-window
overflow_add-window c = omega (arith, found-day _ _ _ _ c.args.at.day _ (sym c.in_ok-words.ensures), window-ends _ _ _ refl c.window.ensures, ap (λ w. w.days) c.window.ensures)

pub is_sound-requires : goal.is_sound-requires
is_sound-requires c = intervals-few _ _ c.intervals_of-intervals.ensures

pub returns-in_err-require : goal.returns-in_err-require
returns-in_err-require c =
    next-exit refusal_number _ _ c.from_residual-in_err-require.ensures.1 _
    ∙ rw (sound_stages c.args.index.now.registry.now c.args.table.now c.args.at.meter c.args.at.channel c.args.at.day, ← c.in_ok-words.ensures, ← day-known _ _ _ _ c.args.at.day _ (sym c.in_ok-words.ensures) _ c.window.ensures (window-ends _ _ _ refl c.window.ensures) _ c.intervals_of-intervals.ensures, ← c.is_sound.ensures, ← c.in_err-require.ensures)

pub returns : goal.returns
returns c = rw (sound_stages c.args.index.now.registry.now c.args.table.now c.args.at.meter c.args.at.channel c.args.at.day, ← c.in_ok-words.ensures, ← day-known _ _ _ _ c.args.at.day _ (sym c.in_ok-words.ensures) _ c.window.ensures (window-ends _ _ _ refl c.window.ensures) _ c.intervals_of-intervals.ensures, ← c.is_sound.ensures, ← c.in_ok-require.ensures)
