use Rattle.std.proofs.Common.{sym, subst, Some, None}
use Rattle.plain_guards.specs.plain_systems.HeldSystems.{situation_of}
use Rattle.est_meaning.specs.mean_blocks.GlobalSituation.{Situation}
use Rattle.plain_guards.specs.plain_transitions.FittingTransitions.{AtState, IsNextFitting}
use Rattle.plain_choices.specs.inside.InstanceOffers.{IsSurvey, IsUpTo}
use Rattle.plain_choices.proofs.Candidates.{next_fits, none_fits}
use Rattle.plain_choices.proofs.offers.gather.Goals as goal

pub add_transition-requires-clause-survey : goal.add_transition-requires-clause-survey
add_transition-requires-clause-survey c = subst (λ (s : Situation). IsSurvey c.args.limit
    c.args.behaviour.now s (IsUpTo c.args.instance.number c.in-Some.number 1)
    c.loop-number.offers.items) (sym c.loop-number.invariant.0)
    (next_fits c.args.limit c.args.behaviour.now (situation_of c.args.working.now.system)
    c.args.instance c.requires.living c.loop-number.after c.in-Some.number
    c.loop-number.offers.items next.0 next.2 c.loop-number.invariant.1)
  where
    next : IsNextFitting c.args.behaviour.now c.args.instance.body c.args.instance.state
        c.loop-number.after (Some c.in-Some.number)
    next = subst (λ (x : AtState). IsNextFitting x.text x.body x.state c.loop-number.after
        (Some c.in-Some.number)) c.fits-fits.ensures c.in-Some.ensures

pub returns-clause-survey : goal.returns-clause-survey
returns-clause-survey c = none_fits c.args.limit c.args.behaviour.now
    (situation_of c.args.working.now.system) c.args.instance c.requires.living
    c.loop-number.after c.loop-number.offers.items
    (subst (λ (x : AtState). IsNextFitting x.text x.body x.state c.loop-number.after None)
    c.fits-fits.ensures c.in_default.ensures) c.loop-number.invariant.1
