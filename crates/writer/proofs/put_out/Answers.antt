-- `writer::put_out` meets its contract.
-- Assumes nothing.
use mathlib.Core.Path.{◌∙◌}
use Rattle.report.proofs.Passing.{answers-exit}
use Rattle.writer.proofs.Answers.{fitting-tested}
use Rattle.writer.proofs.put_out.Goals as goal

pub returns-in_err-require-clause-answer : goal.returns-in_err-require-clause-answer
returns-in_err-require-clause-answer c = answers-exit _ _ c.from_residual.ensures.1 ∙ rw (fitting-tested c.args.output.now c.args.bytes.now, ← c.in_err-require.ensures)

pub returns-in_err-require-clause-bytes : goal.returns-in_err-require-clause-bytes
returns-in_err-require-clause-bytes c = rw (fitting-tested c.args.output.now c.args.bytes.now, ← c.in_err-require.ensures)

pub returns-clause-answer : goal.returns-clause-answer
returns-clause-answer c = rw (fitting-tested c.args.output.now c.args.bytes.now, ← c.in_ok-require.ensures)

pub returns-clause-bytes : goal.returns-clause-bytes
returns-clause-bytes c = rw (fitting-tested c.args.output.now c.args.bytes.now, ← c.in_ok-require.ensures, c.copy.ensures)
