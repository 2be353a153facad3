-- `text::numbers::digits` meets its contract.
-- Assumes nothing.
use Rattle.std.proofs.Common.{rules}
use Rattle.text.proofs.Decimal.{run_until}
use Rattle.text.proofs.numbers.digits.Goals as goal

pub returns : goal.returns
returns c = run_until c.args.s.now _ (search rules) (λ k l. search rules) (λ l. search rules)
