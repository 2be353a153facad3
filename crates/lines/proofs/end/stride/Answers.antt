-- `lines::end::stride` meets its contract.
-- Assumes nothing.
use Rattle.std.proofs.Common.{rules, ◌∙◌}
use Rattle.text.proofs.Left.{left-whole}
use Rattle.lines.proofs.Ends.{none_here, stride_left, stride_none}
use Rattle.lines.proofs.end.stride.Goals as goal

pub loop-part-init : goal.loop-part-init
loop-part-init c = record { size = search rules; left = cc (left-whole c.args.piece.now c.args.at); none = search (none_here, rules) }

pub loop-part-preserved : goal.loop-part-preserved
loop-part-preserved c =
    let steps = c.in-Some.ensures.steps.1 in
    record {
      size = search rules;
      left = search (stride_left, rules);
      none = stride_none _ _ _ c.loop-part.invariant.none _ _ 16 (c.loop-part.invariant.left ∙ steps.0) (steps.1 ∙ c.loop-part.invariant.size) (search rules);
    }
