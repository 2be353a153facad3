-- `pieces::run::read_lines` meets its contract.
-- Assumes nothing.
use mathlib.Core.Path.{refl, ◌∙◌}
use native.Mathlib.Omega.{arith}
use borrow.Author.Rules.{rules}
use lib.ListN.{length}
use Rattle.pieces.proofs.Batches.{one-more}
use Rattle.pieces.proofs.Moving.{comes_first, comes_run, comes_line, comes_end, goes_true, further}
use Rattle.pieces.proofs.run.read_lines.Goals as goal

pub loop-scan-init : goal.loop-scan-init
loop-scan-init c = (comes_first _ _ _ _ _ c.requires.holds c.requires.within _ c.new-batch.ensures, refl, rw c.new-batch.ensures (omega arith), refl)

pub loop-scan-preserved : goal.loop-scan-preserved
loop-scan-preserved c =
    let run = comes_run _ _ _ _ _ _ _ _ _ c.loop-scan.invariant.0 c.run_over-passed.result _ c.run_over-passed.ensures c.judged-next.result c.judged-next.ensures in
    let more = goes_true c.loop-scan.e (length c.args.piece.now) c.count.result _ c.goes_on.ensures c.loop-scan-test.true in
    let on = further c.loop-scan.e c.run_over-passed.result.at c.next_line-moved.result.at (length c.args.piece.now) more.0 c.run_over-passed.ensures.behind c.next_line-moved.ensures.behind c.next_line-moved.ensures.moved in (
      rw (c.leave_hint.ensures, c.put-in-loop-scan-2.ensures, c.put-in-loop-scan.ensures, c.put.ensures)
          (comes_line _ _ _ _ _ _ _ _ _ run c.next_line-moved.result _ _ (rw c.leave_hint.ensures at c.next_line-moved.ensures)),
      search rules,
      omega (
        arith,
        c.loop-scan.invariant.2,
        c.loop-scan.invariant.0.behind,
        on,
        one-more _ _ _ c.put.ensures,
        one-more _ _ _ c.put-in-loop-scan.ensures,
        one-more _ _ _ c.put-in-loop-scan-2.ensures,
      ),
      c.leave_hint.ensures ∙ c.loop-scan.invariant.3,
    )

pub put-requires : goal.put-requires
put-requires c = omega (arith, (goes_true c.loop-scan.e (length c.args.piece.now) c.count.result _ c.goes_on.ensures c.loop-scan-test.true).1, c.count.ensures.0)

pub next_line-moved-requires-clause-room : goal.next_line-moved-requires-clause-room
next_line-moved-requires-clause-room c = rw (c.leave_hint.ensures, c.loop-scan.invariant.3) (omega (arith, c.requires.room, c.loop-scan.invariant.1))

pub next_line-moved-requires-clause-holds : goal.next_line-moved-requires-clause-holds
next_line-moved-requires-clause-holds c =
    (comes_run _ _ _ _ _ _ _ _ _ c.loop-scan.invariant.0 c.run_over-passed.result _ c.run_over-passed.ensures c.judged-next.result c.judged-next.ensures).holds

pub put-requires-in-loop-scan : goal.put-requires-in-loop-scan
put-requires-in-loop-scan c = omega (arith, (goes_true c.loop-scan.e (length c.args.piece.now) c.count.result _ c.goes_on.ensures c.loop-scan-test.true).1, c.count.ensures.0, one-more _ _ _ c.put.ensures)

pub put-requires-in-loop-scan-2 : goal.put-requires-in-loop-scan-2
put-requires-in-loop-scan-2 c = omega (arith, (goes_true c.loop-scan.e (length c.args.piece.now) c.count.result _ c.goes_on.ensures c.loop-scan-test.true).1, c.count.ensures.0, one-more _ _ _ c.put.ensures, one-more _ _ _ c.put-in-loop-scan.ensures)

pub loop-scan-smaller : goal.loop-scan-smaller
loop-scan-smaller c = omega (arith, further c.loop-scan.e c.run_over-passed.result.at c.next_line-moved.result.at (length c.args.piece.now) (goes_true c.loop-scan.e (length c.args.piece.now) c.count.result _ c.goes_on.ensures c.loop-scan-test.true).0 c.run_over-passed.ensures.behind c.next_line-moved.ensures.behind c.next_line-moved.ensures.moved, c.next_line-moved.ensures.within)

pub returns : goal.returns
returns c =
    record {
      index = c.loop-scan.invariant.3;
      ran = rw (← c.loop-scan.invariant.3) (comes_end _ _ _ _ _ _ _ _ _ c.loop-scan.invariant.0 _ c.count.ensures.0 _ c.goes_on.ensures c.loop-scan-test.false c.loop-scan.invariant.2);
    }
