-- `direct::triple::long_triple` meets its contract.
-- Assumes nothing.
use Rattle.std.proofs.Common.{◌∙◌}
use Rattle.report.proofs.Passing.{value-taken}
use Rattle.direct.proofs.Value.{long-short, long-done}
use Rattle.direct.proofs.triple.long_triple.Goals as goal

pub read_tail-requires : goal.read_tail-requires
read_tail-requires c = long-short _ _ _ c.field-f.ensures (value-taken _ _ c.in_ok-wh.ensures.value ∙ c.read_value.ensures)

pub returns : goal.returns
returns c = long-done _ _ _ c.field-f.ensures (value-taken _ _ c.in_ok-wh.ensures.value ∙ c.read_value.ensures) _ c.in_ok-estimated.ensures
