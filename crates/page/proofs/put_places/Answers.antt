-- `page::put_places` meets its contract.
-- Assumes nothing.
use Rattle.page.proofs.Pages.{none_placed, place_put, places_whole}
use Rattle.page.proofs.put_places.Goals as goal

pub loop-i-init : goal.loop-i-init
loop-i-init g c = none_placed _ c.args.lines.now

pub loop-i-preserved : goal.loop-i-preserved
loop-i-preserved g c = place_put c.loop-i.i c.args.from _ _ _ _ c.loop-i.invariant c.put_place.ensures

pub returns : goal.returns
returns g c = places_whole c.loop-i.i _ _ c.args.lines.now c.loop-i.invariant c.requires.0 c.loop-i.auto.i-end c.loop-i-test.false
