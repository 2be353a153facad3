-- `padded::padding::is_padded_duns` meets its contract.
-- Assumes nothing.
use native.Mathlib.Omega.{arith}
use lib.ListN.{length-take}
use borrow.Author.Rules.{rules}
use Rattle.padded.proofs.Identifiers.{duns-tests}
use Rattle.padded.proofs.padding.is_padded_duns.Goals as goal

pub slice_bounds-nine-end : goal.slice_bounds-nine-end
slice_bounds-nine-end c = simp length-take (omega arith)

pub returns : goal.returns
returns c = search (duns-tests, rules)
