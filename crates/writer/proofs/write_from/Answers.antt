-- `writer::write_from` meets its contract.
-- Assumes nothing.
use mathlib.Core.Path.{sym, ◌∙◌}
use Rattle.report.proofs.Passing.{answers-exit, test-passed}
use Rattle.writer.specs.Write.{writes, written_record, fitting}
use Rattle.writer.proofs.Answers.{writable}
use Rattle.writer.proofs.write_from.Goals as goal

pub returns-in_err-words-clause-answer : goal.returns-in_err-words-clause-answer
unfolding writes written_record fitting
returns-in_err-words-clause-answer c =
    answers-exit _ _ c.from_residual.ensures.1
    ∙ rw (← c.in_err-words.ensures)

pub returns-in_err-words-clause-bytes : goal.returns-in_err-words-clause-bytes
unfolding writes written_record fitting
returns-in_err-words-clause-bytes c = rw (← c.in_err-words.ensures)

pub returns-in_err-require-clause-answer : goal.returns-in_err-require-clause-answer
unfolding writes written_record fitting
returns-in_err-require-clause-answer c =
    answers-exit _ _ c.from_residual-in_err-require.ensures.1
    ∙ rw (← c.in_ok-words.ensures, ← c.is_descriptor.ensures, ← c.in_err-require.ensures)

pub returns-in_err-require-clause-bytes : goal.returns-in_err-require-clause-bytes
unfolding writes written_record fitting
returns-in_err-require-clause-bytes c =
    rw (← c.in_ok-words.ensures, ← c.is_descriptor.ensures, ← c.in_err-require.ensures)

pub write_cell-requires : goal.write_cell-requires
write_cell-requires c = writable _ _ _ _ _ _ _ c.in_ok-words.ensures (sym c.is_descriptor.ensures ∙ test-passed _ _ c.in_ok-require.ensures)

pub returns-clause-answer : goal.returns-clause-answer
unfolding writes written_record
returns-clause-answer c =
    rw (← c.in_ok-words.ensures, ← c.is_descriptor.ensures, ← c.in_ok-require.ensures)
    c.write_cell.ensures.answer

pub returns-clause-bytes : goal.returns-clause-bytes
unfolding writes written_record
returns-clause-bytes c =
    rw (← c.in_ok-words.ensures, ← c.is_descriptor.ensures, ← c.in_ok-require.ensures)
    c.write_cell.ensures.bytes
