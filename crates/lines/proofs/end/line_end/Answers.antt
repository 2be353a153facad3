-- `lines::end::line_end` meets its contract.
-- Assumes nothing.
use Rattle.std.proofs.Common.{rules, refl}
use Rattle.lines.proofs.Ends.{lf_at, no_lf}
use Rattle.lines.proofs.end.line_end.Goals as goal

pub returns-in_err-n : goal.returns-in_err-n
returns-in_err-n c = rw c.from_residual.ensures (no_lf _ _ _ c.stride-e.ensures _ refl (λ k l. search rules))

pub returns : goal.returns
returns c = lf_at _ _ _ c.stride-e.ensures _ refl _ (search rules) (search rules) (λ k l. search rules)
