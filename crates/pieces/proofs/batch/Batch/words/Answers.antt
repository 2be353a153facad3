-- `pieces::batch::Batch::words` meets its contract.
-- Assumes nothing.
use mathlib.Core.Path.{◌≡◌}
use native.Mathlib.Omega.{arith}
use borrow.Author.Rules.{rules}
use lib.ListN.{length}
use lib.Seq.{length-take-le}
use Rattle.pieces.specs.Ran.{batch_words}
use Rattle.report.proofs.Entries.{entries-count, entries-take}
use Rattle.pieces.proofs.batch.Batch.words.Goals as goal

pub returns : goal.returns
returns c =
    let wide : length c.self.inside.words ≡ batch_words = search rules in
    rw (← c.self.view_is, entries-count c.self.inside.count c.self.inside.words)
    (entries-take c.self.inside.count c.self.inside.words, length-take-le _ c.self.inside.words (omega (arith, c.self.invariant.0, wide)))
