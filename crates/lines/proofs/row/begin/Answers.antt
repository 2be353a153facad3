-- `lines::row::begin` meets its contract.
-- Assumes nothing.
use native.Mathlib.Omega.{arith}
use borrow.Author.Tests.{not-true}
use Rattle.report.proofs.Passing.{says-exit, test-passed}
use Rattle.lines.specs.Row.{fields_of}
use Rattle.lines.proofs.Begin.{cut-first}
use Rattle.lines.proofs.Lines.{short-line}
use Rattle.lines.proofs.row.begin.Goals as goal

pub returns-in_err-require : goal.returns-in_err-require
unfolding fields_of
returns-in_err-require c = rw (says-exit _ _ c.from_residual.ensures.1, ← c.is_long.ensures, ← c.in_err-require.ensures)

pub returns-in_err-require-2 : goal.returns-in_err-require-2
unfolding fields_of
returns-in_err-require-2 c =
    rw (says-exit _ _ c.from_residual-in_err-require-2.ensures.1, ← c.is_long.ensures, ← c.in_ok-require.ensures, cut-first c.args.line.body.now, ← c.field.ensures, ← c.same.ensures, ← c.in_err-require-2.ensures)

pub field_count-requires : goal.field_count-requires
field_count-requires c = omega (arith, short-line _ _ c.is_long.ensures (not-true _ (test-passed _ _ c.in_ok-require.ensures)))

pub returns-in_err-require-3 : goal.returns-in_err-require-3
unfolding fields_of
returns-in_err-require-3 c =
    rw (says-exit _ _ c.from_residual-in_err-require-3.ensures.1, ← c.is_long.ensures, ← c.in_ok-require.ensures, cut-first c.args.line.body.now, ← c.field.ensures, ← c.same.ensures, ← c.in_ok-require-2.ensures, ← c.field_count.ensures, ← c.in_err-require-3.ensures)

pub returns : goal.returns
unfolding fields_of
returns c =
    rw (← c.is_long.ensures, ← c.in_ok-require.ensures, cut-first c.args.line.body.now, ← c.field.ensures, ← c.same.ensures, ← c.in_ok-require-2.ensures, ← c.field_count.ensures, ← c.in_ok-require-3.ensures, c.of.ensures)
