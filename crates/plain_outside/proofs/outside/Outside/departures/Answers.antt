use Rattle.plain_outside.proofs.OutsideSteps.{departures_more}
use Rattle.plain_outside.proofs.outside.Outside.departures.Goals as goal

pub loop-item-preserved : goal.loop-item-preserved
loop-item-preserved c = departures_more c.args.self.now c.as_slice-item-items.result.now
    c.loop-item.item-index c.item-item.result c.loop-item.events c.add_departure.new.events
    c.loop-item-test.true c.item-item.is c.loop-item.invariant c.in_ok-add_departure.ensures
