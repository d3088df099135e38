use Rattle.std.proofs.Common.{sym, subst, ◌∙◌}
use Rattle.plain_guards.specs.plain_systems.HeldSystems.{situation_of}
use Rattle.est_meaning.specs.mean_blocks.GlobalSituation.{Situation}
use Rattle.est_meaning.specs.TransitionChoices.{any_frame, any_tuples, numbered}
use Rattle.plain_choices.specs.inside.InstanceOffers.{HasChoice}
use Rattle.plain_choices.proofs.Candidates.{has_choice, choices_end, unmapped}
use Rattle.plain_choices.proofs.offers.add_choices.Goals as goal

pub add_choice-requires-clause-choice : goal.add_choice-requires-clause-choice
add_choice-requires-clause-choice c = (let d = c.requires.candidate in
    subst (λ (s : Situation). HasChoice c.args.behaviour.now s c.args.candidate.now
    c.loop-chosen.choice c.in-Some.chosen) (sym c.loop-chosen.invariant.0)
    (has_choice c.args.behaviour.now (situation_of c.args.working.now.system)
    c.args.candidate.now c.loop-chosen.choice c.in-Some.chosen d (sym c.in-Some.is
    ∙ c.in_ok-chosen.ensures d.transition d.written)))

pub returns-clause-survey : goal.returns-clause-survey
returns-clause-survey c = (let d = c.requires.candidate in
    choices_end c.args.limit c.args.behaviour.now (situation_of c.args.working.now.system)
    c.args.candidate.now c.loop-chosen.choice c.loop-chosen.offers.items d
    c.loop-chosen.invariant.1 (unmapped (any_frame c.args.behaviour.now.outline d.transition)
    (numbered (any_tuples c.args.behaviour.now.outline d.transition) c.loop-chosen.choice)
    (sym (c.in_ok-chosen.ensures d.transition d.written) ∙ c.in_default.is))
    c.loop-chosen.invariant.2)
