-- `records::row_thirty` meets its contract.
-- Assumes nothing.
use mathlib.Core.Path.{◌≡◌, sym}
use native.Mathlib.Omega.{arith}
use borrow.Author.Rules.{rules}
use lib.ListN.{length}
use Rattle.registry.specs.Entry.{owner_size}
use Rattle.plain.specs.Rows.{with_row}
use Rattle.records.proofs.Steps.{thirty-fits}
use Rattle.records.proofs.row_thirty.Goals as goal

pub put_padded-requires : goal.put_padded-requires
put_padded-requires c = omega (arith, thirty-fits _ _ (sym c.in_ok-number.ensures))

pub returns-clause-says : goal.returns-clause-says
unfolding with_row
returns-clause-says c =
    let sized : length c.args.parts.now.sender ≡ owner_size = search rules in
    rw (c.counted.ensures, c.put_padded.ensures, sized, ← c.in_ok-number.ensures)
