use Rattle.std.proofs.Common.{◌+◌, sym, subst, refl}
use Rattle.plain_guards.specs.plain_systems.HeldSystems.{situation_of}
use Rattle.est_meaning.specs.TransitionChoices.{Choice}
use Rattle.plain_guards.specs.plain_clauses.JudgedGuards.{IsOf, IsVerdict}
use Rattle.est_meaning.specs.mean_blocks.TextByPlace.{Text}
use Rattle.plain_choices.specs.inside.InstanceOffers.{IsSurvey, IsUpTo, firing_of}
use Rattle.plain_choices.proofs.Candidates.{choice_passes, choice_fails, choice_offers}
use Rattle.plain_choices.proofs.offers.add_choice.Goals as goal

pub returns-then-verdict-clause-survey : goal.returns-then-verdict-clause-survey
returns-then-verdict-clause-survey c = choice_passes c.args.limit c.args.behaviour.now
    (situation_of c.args.working.now.system) c.args.candidate.now c.args.choice c.args.chosen
    c.requires.choice c.in_ok-verdict.verdict
    (subst (λ (t : Text). (x : Choice) → IsOf t c.args.candidate.now c.args.chosen x
    → IsVerdict c.args.limit t (situation_of c.args.working.now.system) x c.in_ok-verdict.verdict)
    c.text.ensures c.in_ok-verdict.ensures.verdict) c.if-verdict.true

pub returns-in_ok-push-clause-survey : goal.returns-in_ok-push-clause-survey
returns-in_ok-push-clause-survey c = subst (IsSurvey c.args.limit c.args.behaviour.now
    (situation_of c.args.working.now.system)
    (IsUpTo c.args.candidate.now.instance c.args.candidate.now.number (c.args.choice + 1)))
    (sym c.in_ok-push.ensures.items)
    (choice_offers c.args.limit c.args.behaviour.now
    (situation_of c.args.working.now.system) c.args.candidate.now c.args.choice c.args.chosen
    c.requires.choice c.in_ok-verdict.verdict
    (subst (λ (t : Text). (x : Choice) → IsOf t c.args.candidate.now c.args.chosen x
    → IsVerdict c.args.limit t (situation_of c.args.working.now.system) x c.in_ok-verdict.verdict)
    c.text.ensures c.in_ok-verdict.ensures.verdict) c.args.offers.now.items
    (record {
      firing = firing_of c.args.candidate.now c.args.choice;
      due = c.in_ok-verdict.verdict.due;
      priority = c.args.candidate.now.transition.now.priority;
    }) c.if-verdict.false c.if-verdict-2.true refl refl refl c.requires.survey)

pub returns-else-verdict-2-clause-survey : goal.returns-else-verdict-2-clause-survey
returns-else-verdict-2-clause-survey c = choice_fails c.args.limit c.args.behaviour.now
    (situation_of c.args.working.now.system) c.args.candidate.now c.args.choice c.args.chosen
    c.requires.choice c.in_ok-verdict.verdict
    (subst (λ (t : Text). (x : Choice) → IsOf t c.args.candidate.now c.args.chosen x
    → IsVerdict c.args.limit t (situation_of c.args.working.now.system) x c.in_ok-verdict.verdict)
    c.text.ensures c.in_ok-verdict.ensures.verdict) c.args.offers.now.items
    c.if-verdict.false c.if-verdict-2.false c.requires.survey
