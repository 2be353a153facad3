-- `text::bytes::every` meets its contract.
-- Assumes nothing.
use Rattle.std.proofs.Common.{rules, ap, ◌∙◌}
use Rattle.text.proofs.Class.{every_step, every_end}
use Rattle.text.proofs.bytes.every.Goals as goal

pub loop-item-preserved : goal.loop-item-preserved
loop-item-preserved g c = record {
  callable = search rules;
  found = λ test says.
      every_step test _ _ _ _ _ (c.loop-item.invariant.found test says) c.loop-item-test.true (says _ _ c.class-all.ensures ∙ ap test c.item-item.is);
}

pub returns : goal.returns
returns g c test says = every_end test _ _ _ (c.loop-item.invariant.found test says) (search rules)
