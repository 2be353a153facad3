-- `direct::begins_code` meets its contract.
-- Assumes nothing.
use Rattle.std.proofs.Common.{◌≤◌, length, arith}
use Rattle.text.specs.Number.{digits_of}
use Rattle.direct.specs.Guess.{code_size}
use Rattle.direct.proofs.Front.{begins}
use Rattle.direct.proofs.begins_code.Goals as goal

pub returns : goal.returns
unfolding digits_of
returns c = λ e. let room : code_size ≤ length c.args.t.now = omega (arith, c.told-t) in search begins
