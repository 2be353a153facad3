-- `batches::end_file` meets its contract.
-- Assumes nothing.
use mathlib.Core.Path.{refl}
use borrow.Author.Rules.{rules}
use Rattle.batches.proofs.Ending.{file-ends}
use Rattle.batches.proofs.end_file.Goals as goal

pub returns : goal.returns
returns c =
    file-ends c.args.index.now.registry.now c.args.scan.now (search rules) c.requires.holds.few _ _ _ c.read_line-read.result _ c.lines_in.result c.closing-last.result
    c.read_line-read.ensures (c.load_waiting.ensures _) c.lines_in.ensures (c.closing-last.ensures _) _
    (rw (c.put-3.ensures, c.put-2.ensures, c.put.ensures, c.new-batch.ensures) refl)
