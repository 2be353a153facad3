-- `registry::Index::search` meets its contract.
-- Assumes nothing.
use Rattle.registry.proofs.Halves.{bracket_all, bracket_none, bracket_found, bracket_up, bracket_down, middle-from, middle-below, middle-within}
use Rattle.registry.proofs.Index.search.Goals as goal

pub loop-low-init : goal.loop-low-init
loop-low-init c = bracket_all _ _ _ (c.args.self.now.holds.counted)

pub id_of-requires : goal.id_of-requires
id_of-requires c = middle-within _ _ _ _ c.loop-low.invariant c.loop-low-test.true

pub loop-low-preserved-in-Less : goal.loop-low-preserved-in-Less
loop-low-preserved-in-Less c =
    bracket_up _ _ _ _ c.loop-low.invariant _ (middle-from _ _ c.loop-low-test.true) (middle-below _ _ c.loop-low-test.true) _ c.id_of.ensures _ c.compare.ensures c.in-Less.is

pub returns-in-Equal : goal.returns-in-Equal
returns-in-Equal c =
    bracket_found _ _ _ _ c.loop-low.invariant _ (middle-from _ _ c.loop-low-test.true) (middle-below _ _ c.loop-low-test.true) _ c.id_of.ensures _ c.compare.ensures c.in-Equal.is

pub loop-low-preserved : goal.loop-low-preserved
loop-low-preserved c =
    bracket_down _ _ _ _ c.loop-low.invariant _ (middle-from _ _ c.loop-low-test.true) (middle-below _ _ c.loop-low-test.true) _ c.id_of.ensures _ c.compare.ensures c.in-Greater.is

pub returns : goal.returns
returns c = bracket_none _ _ _ _ c.loop-low.invariant c.loop-low-test.false
