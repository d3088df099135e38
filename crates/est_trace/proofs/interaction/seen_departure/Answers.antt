use Rattle.est_trace.proofs.SeenReading.{seen_departs, seen_lost}
use Rattle.est_trace.proofs.interaction.seen_departure.Goals as goal

pub returns-in-Ok : goal.returns-in-Ok
returns-in-Ok c = seen_departs c.args.kinds.now c.args.place.port c.args.place.signal
    c.seens-seen.result c.departed.result c.seens-seen.ensures c.departed.ensures

pub returns-in-Err : goal.returns-in-Err
returns-in-Err c = seen_lost c.args.kinds.now c.args.place.port c.args.place.signal
    c.seens-seen.result c.seens-seen.ensures c.spend.ensures.still c.spend.ensures.spent
