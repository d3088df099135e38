use Rattle.std.proofs.Common.{subst, vec_len}
use Rattle.plain_guards.specs.plain_systems.HeldSystems.{situation_of}
use Rattle.est_meaning.specs.declared.answers.Offers.{Offers}
use Rattle.plain_choices.specs.inside.SystemOffers.{IsAllFound}
use Rattle.plain_choices.proofs.Possible.{due_so}
use Rattle.plain_choices.proofs.options.due_any.Goals as goal

pub unreachable-requires : goal.unreachable-requires
unreachable-requires c =
    subst (λ (o : Offers). IsAllFound c.args.limit c.args.behaviour.now
    (situation_of c.args.working.now.system) c.find.new.found o) c.in-Unsettled.is
    c.in_ok-find.ensures.found c.requires.settled

pub returns : goal.returns
returns c = due_so c.args.limit c.args.behaviour.now
    (situation_of c.args.working.now.system) c.find.new.found
    (subst (λ (o : Offers). IsAllFound c.args.limit c.args.behaviour.now
    (situation_of c.args.working.now.system) c.find.new.found o) c.in-Settled.is
    c.in_ok-find.ensures.found)
    (vec_len c.find.new.found.dues) c.find.new.found.dues.ok.0 c.is_empty.result
    c.is_empty.ensures
