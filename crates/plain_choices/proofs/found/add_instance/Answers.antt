use Rattle.std.proofs.Common.{sym, subst}
use Rattle.plain_guards.specs.plain_systems.HeldSystems.{situation_of}
use Rattle.est_meaning.specs.declared.answers.Offers.{Offers}
use Rattle.plain_choices.specs.inside.InstanceOffers.{IsSurvey, IsFiringOf, IsGathered}
use Rattle.plain_choices.proofs.found.add_instance.Goals as goal

pub returns-clause-found : goal.returns-clause-found
returns-clause-found c = c.in_ok-add_offers.ensures c.args.limit c.args.behaviour.now
    (situation_of c.args.working.now.system)
    (subst (IsSurvey c.args.limit c.args.behaviour.now (situation_of c.args.working.now.system)
    (IsFiringOf c.args.instance.number)) (sym c.as_slice.ensures.value)
    (subst (λ (o : Offers). IsGathered c.args.limit c.args.behaviour.now
    (situation_of c.args.working.now.system) (IsFiringOf c.args.instance.number)
    c.gather.new.offers.items o) c.in-Settled.is c.in_ok-gather.ensures.survey))
    c.requires.found
