use Rattle.std.proofs.Common.{rules, subst, ◌∙◌, ◌≡◌, Some}
use Rattle.est_meaning.specs.mean_blocks.TextByPlace.{Text}
use Rattle.plain_frames.specs.plain_systems.HeldSystems.{situation_of}
use Rattle.est_meaning.specs.DelayStamps.{restamped}
use Rattle.est_meaning.specs.FiringSteps.{fired_by}
use Rattle.est_meaning.specs.TransitionChoices.{Choice}
use Rattle.plain_guards.specs.plain_clauses.JudgedGuards.{IsOf}
use Rattle.plain_steps.specs.inside.FiredChoices.{Leads}
use Rattle.plain_steps.proofs.FiredSteps.{choice_there}
use Rattle.plain_steps.proofs.choice.fire_choice.Goals as goal

pub returns : goal.returns
returns c f r x n e h =
    let s = situation_of c.args.working.now.system in
    let there : Some c.in-Some.chosen ≡ c.in_ok-chosen.field-0 = search rules in
    choice_there c.args.limit c.args.behaviour.now s f r x c.args.number c.args.candidate.now
    c.in-Some.chosen c.perform.result c.perform.new.working n e h
    (there ∙ c.in_ok-chosen.ensures x h)
    (subst (λ (t : Text). (k : Choice) → IsOf t c.args.candidate.now c.in-Some.chosen k
    → Leads t (restamped c.args.limit t (Some f)) (fired_by c.args.limit t s f k)
    c.perform.result c.perform.new.working) c.text.ensures (c.perform.ensures f))
