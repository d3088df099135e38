use Rattle.est_trace.proofs.SeenDepartures.{departed_whole, departed_part}
use Rattle.est_trace.proofs.interaction.departed.Goals as goal

pub returns-in-Some : goal.returns-in-Some
returns-in-Some c = departed_whole c.args.place.port c.args.place.signal c.args.seen
    c.in-Some.values c.args.values c.at_place.result c.in-Some.is c.requires c.at_place.ensures

pub returns-in-None : goal.returns-in-None
returns-in-None c = departed_part c.args.place.port c.args.place.signal c.args.seen c.args.values
    c.in-None.is c.requires
