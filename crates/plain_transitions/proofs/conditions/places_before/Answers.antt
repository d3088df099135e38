use Rattle.std.proofs.Common.{refl}
use Rattle.plain_transitions.proofs.ContextLaws.{places_are}
use Rattle.plain_transitions.proofs.conditions.places_before.Goals as goal

pub returns : goal.returns
returns c = places_are c.args.clause.now c.args.context.now _ c.count_before-count.result
    c.in_ok-list.list.items c.count_before-count.ensures.count refl c.in_ok-list.ensures
