use Rattle.std.proofs.Common.{arith}
use Rattle.plain_declared.proofs.Places.{places_more}
use Rattle.plain_declared.proofs.declared.places_in.Goals as goal

pub loop-number-preserved : goal.loop-number-preserved
loop-number-preserved c = places_more c.args.outline.now c.args.sort c.args.names.now
    c.loop-number.number (c.entry.result.0.now, c.entry.result.1) c.loop-number.places
    c.add_place.new.places (omega arith) c.entry.ensures c.loop-number.invariant
    c.in_ok-add_place.ensures
