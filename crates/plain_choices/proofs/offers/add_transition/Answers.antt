use Rattle.std.proofs.Common.{◌≡◌, subst, None}
use Rattle.plain_guards.specs.plain_systems.HeldSystems.{situation_of}
use Rattle.est_meaning.specs.ClauseContexts.{transitions_of}
use Rattle.est_meaning.specs.TransitionChoices.{numbered}
use Rattle.plain_guards.specs.plain_transitions.FittingTransitions.{AtState}
use Rattle.plain_choices.specs.declared.offers.Instance.{Instance}
use Rattle.plain_choices.proofs.Candidates.{transition_skips}
use Rattle.plain_choices.proofs.offers.add_transition.Goals as goal

pub returns-in-None-clause-survey : goal.returns-in-None-clause-survey
returns-in-None-clause-survey c = transition_skips c.args.limit c.args.behaviour.now
    (situation_of c.args.working.now.system) c.requires.living.0 c.args.instance.number
    c.args.number c.args.offers.now.items c.requires.living.1
    (subst (λ (y : Instance). numbered (transitions_of c.args.behaviour.now y.body) c.args.number
    ≡ None) c.requires.living.2
    (subst (λ (x : AtState). numbered (transitions_of x.text x.body) c.args.number ≡ None)
    c.requires.fits c.in-None.ensures)) c.requires.survey
