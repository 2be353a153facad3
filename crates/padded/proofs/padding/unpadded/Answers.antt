-- `padded::padding::unpadded` meets its contract.
-- Assumes nothing.
use mathlib.Core.Path.{◌∙◌}
use borrow.Author.Rules.{rules}
use Rattle.padded.proofs.Unpad.{space_left_out, other_stays, none_left}
use Rattle.padded.proofs.padding.unpadded.Goals as goal

pub loop-left-preserved : goal.loop-left-preserved
loop-left-preserved c = space_left_out _ (search rules) ∙ c.loop-left.invariant

pub returns-in_default : goal.returns-in_default
returns-in_default c = none_left _ c.in_default.len_below ∙ c.loop-left.invariant

pub returns-in_default-2 : goal.returns-in_default-2
returns-in_default-2 c = other_stays _ (search rules) ∙ c.loop-left.invariant
