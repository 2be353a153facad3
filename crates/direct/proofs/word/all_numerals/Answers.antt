-- `direct::word::all_numerals` meets its contract.
-- Assumes nothing.
use Rattle.std.proofs.Common.{refl, eqb-true}
use Rattle.direct.proofs.Numeral.{all_small}
use Rattle.direct.proofs.word.all_numerals.Goals as goal

pub returns : goal.returns
returns c = λ e. all_small c.args.a _ refl (eqb-true _ _ e)
