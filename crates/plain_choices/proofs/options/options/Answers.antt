use Rattle.std.proofs.Common.{subst}
use Rattle.plain_guards.specs.plain_systems.HeldSystems.{situation_of}
use Rattle.est_meaning.specs.mean_blocks.GlobalSituation.{Situation}
use Rattle.est_meaning.specs.declared.answers.Offers.{Offers}
use Rattle.plain_choices.specs.inside.SystemOffers.{IsAllFound, IsKept}
use Rattle.plain_choices.proofs.Possible.{offers_are}
use Rattle.plain_choices.proofs.options.options.Goals as goal

pub returns-clause-offers : goal.returns-clause-offers
returns-clause-offers c = offers_are c.args.limit c.args.behaviour.now
    (situation_of c.args.working.now.system) c.find.new.found
    (subst (λ (o : Offers). IsAllFound c.args.limit c.args.behaviour.now
    (situation_of c.args.working.now.system) c.find.new.found o) c.in-Settled.is
    c.in_ok-find.ensures.found)
    c.keep_unpreceded.new.into.items
    (subst (λ (s : Situation). IsKept s c.find.new.found.dues.items
    c.find.new.found.firings.items c.keep_unpreceded.new.into.items) c.in_ok-find.ensures.system
    c.in_ok-keep_unpreceded.ensures)
