use Rattle.plain_guards.specs.plain_systems.HeldSystems.{situation_of}
use Rattle.plain_choices.proofs.Candidates.{transition_missed}
use Rattle.plain_choices.proofs.offers.add_candidate.Goals as goal

pub returns-then-is_missed-clause-survey : goal.returns-then-is_missed-clause-survey
returns-then-is_missed-clause-survey c = transition_missed c.args.limit c.args.behaviour.now
    (situation_of c.args.working.now.system) c.args.candidate.now c.requires.candidate
    (c.is_missed.ensures c.if-is_missed.true c.args.behaviour.now c.args.limit)
    c.args.offers.now.items c.requires.survey
