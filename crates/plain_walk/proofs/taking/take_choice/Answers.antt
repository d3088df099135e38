use Rattle.std.proofs.Common.{◌≡◌, sym, ap, subst, ◌∙◌}
use Rattle.std.specs.Option.{option_map}
use Rattle.est_meaning.specs.rule_scope.declared.outline.Outline.{Outline}
use Rattle.plain_frames.specs.plain_systems.HeldSystems.{situation_of}
use Rattle.est_meaning.specs.TransitionChoices.{numbered, any_places, any_tuples, any_frame}
use Rattle.plain_walk.proofs.TakenItems.{choice_there}
use Rattle.plain_walk.proofs.taking.take_choice.Goals as goal

pub returns-clause-taken : goal.returns-clause-taken
returns-clause-taken c =
    choice_there c.args.limit c.args.text.now (situation_of c.args.working.now.system)
    (situation_of c.take_by.new.working.system) c.args.candidate.now c.args.number
    c.in_ok-item.item c.in-Some.chosen
    (λ x h. sym c.in-Some.is ∙ subst (λ (o : Outline). c.in_ok-chosen.field-0
    ≡ option_map (any_frame o x) (numbered (any_tuples o x) c.args.number)) c.outline.ensures
    (c.in_ok-chosen.ensures x (ap (λ (o : Outline). any_places o x) c.outline.ensures
    ∙ sym h.variables))) c.in_ok-item.ensures.taken
