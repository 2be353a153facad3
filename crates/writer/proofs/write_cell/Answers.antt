-- `writer::write_cell` meets its contract.
-- Assumes nothing.
use mathlib.Core.Path.{ap}
use native.Mathlib.Omega.{arith}
use Rattle.registry.proofs.Laws.{window-most, window-last}
use Rattle.writer.proofs.Records.{record-most}
use Rattle.writer.proofs.Answers.{behind_none, cell-text, meter-short}
use Rattle.writer.proofs.write_cell.Goals as goal

pub overflow_add-window : goal.overflow_add-window
overflow_add-window c =
    omega (arith, c.requires.day, window-most c.args.index.now.registry.now, window-last c.args.index.now.registry.now, ap (λ w. w.first) c.window.ensures, ap (λ w. w.days) c.window.ensures)

pub put_record-requires : goal.put_record-requires
put_record-requires c =
    let short = meter-short c.requires c.unpadded-id.ensures c.id_of.ensures c.unpadded-owner.ensures c.owner_of.ensures in (
      omega arith,
      (
        (c.requires.few, c.requires.values),
        behind_none _ c.new-text.ensures (record-most _ _ _ _ _ _ (omega (arith, short.0, short.1)) short.1 (omega (arith, short.1, c.requires.short)) c.requires.few),
      ),
    )

pub returns-clause-answer : goal.returns-clause-answer
returns-clause-answer c =
    rw (c.bytes.ensures, c.put_record.ensures, c.new-text.ensures, cell-text c.args.at.channel c.requires c.window.ensures c.unpadded-id.ensures c.id_of.ensures c.unpadded-owner.ensures c.owner_of.ensures c.date_of-date.ensures)
    at c.put_out.ensures.answer

pub returns-clause-bytes : goal.returns-clause-bytes
returns-clause-bytes c =
    rw (c.bytes.ensures, c.put_record.ensures, c.new-text.ensures, cell-text c.args.at.channel c.requires c.window.ensures c.unpadded-id.ensures c.id_of.ensures c.unpadded-owner.ensures c.owner_of.ensures c.date_of-date.ensures)
    at c.put_out.ensures.bytes
