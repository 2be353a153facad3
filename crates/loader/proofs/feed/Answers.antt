-- `loader::feed` meets its contract.
-- Assumes nothing.
use mathlib.Core.Path.{refl, ◌∙◌}
use native.Mathlib.Omega.{arith}
use borrow.Author.Rules.{rules}
use Rattle.plain.specs.Call.{feed}
use Rattle.state.proofs.Refusals.{few_bytes}
use Rattle.loader.proofs.Batching.{refusal-keeps, begins, few, fits, steps, stops}
use Rattle.loader.proofs.feed.Goals as goal

pub returns-in_err-admit : goal.returns-in_err-admit
returns-in_err-admit g c = refusal-keeps _ _ _ _ _ _ _ _ _ c.from_residual.ensures.1 (rw (← c.of.ensures, ← c.room.ensures) c.in_err-admit.ensures.number)

pub overflow_add-state : goal.overflow_add-state
overflow_add-state g c = omega (arith, few_bytes _ _ _ _ (feed c.args.piece.now) c.in_ok-admit.ensures.number)

pub loop-at-init : goal.loop-at-init
loop-at-init g c = (begins _ _ _ _ _ _ _ (rw (← c.of.ensures, ← c.room.ensures) c.in_ok-admit.ensures.number) c.admit.ensures.kept _ refl, c.of.ensures)

pub put-requires : goal.put-requires
put-requires g c = fits _ _ _ _ _ _ _ _ _ _ _ _ c.loop-at.invariant.0 _ (record { scan = c.read_lines-next.new.scan; taken = c.loop-at.state.taken }) _ _ (rw c.loop-at.invariant.1 at c.read_lines-next.ensures.ran)

pub overflow_add-count : goal.overflow_add-count
overflow_add-count g c = omega (arith, c.count-count.ensures.0, few _ _ _ _ _ _ _ _ _ _ _ _ c.loop-at.invariant.0 _ (record { scan = c.read_lines-next.new.scan; taken = c.loop-at.state.taken }) _ _ (rw c.loop-at.invariant.1 at c.read_lines-next.ensures.ran))

pub loop-at-preserved : goal.loop-at-preserved
loop-at-preserved g c = (
  rw c.count-count.ensures.0 (steps _ _ _ _ _ _ _ _ _ _ _ _ c.loop-at.invariant.0 _ _ _ _ (rw c.loop-at.invariant.1 at c.read_lines-next.ensures.ran) _ c.put.ensures.entered c.put.ensures.behind refl (search rules)),
  c.read_lines-next.ensures.index ∙ c.loop-at.invariant.1,
)

pub loop-at-smaller : goal.loop-at-smaller
loop-at-smaller g c = omega (arith, c.read_lines-next.ensures.ran.moved c.loop-at-test.true, c.read_lines-next.ensures.ran.within)

pub returns : goal.returns
returns g c =
    stops _ _ _ _ _ _ _ _ _ _ _ _ c.loop-at.invariant.0 (omega (arith, c.loop-at-test.false)) (search rules)
