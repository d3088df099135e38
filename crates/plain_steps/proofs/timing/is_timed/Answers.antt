use Rattle.std.proofs.Common.{sym, ap, subst, ◌∙◌}
use Rattle.std.specs.Prelude.{not}
use Rattle.est_meaning.specs.mean_blocks.TextByPlace.{Text}
use Rattle.est_meaning.specs.TransitionChoices.{Choice}
use Rattle.plain_frames.specs.plain_systems.HeldSystems.{situation_of}
use Rattle.plain_guards.specs.plain_clauses.JudgedGuards.{IsOf, IsVerdict}
use Rattle.plain_steps.proofs.TimedChoices.{waits_by}
use Rattle.plain_steps.proofs.timing.is_timed.Goals as goal

-- it has a delay and a first choice
pub returns-clause-timed : goal.returns-clause-timed
returns-clause-timed c r x n e h =
    let s = situation_of c.args.working.now.system in
    waits_by c.args.limit c.args.behaviour.now s r x c.args.candidate.now h c.in-Some.chosen
    c.in_ok-verdict.verdict n e (c.is_none.ensures ∙ ap not c.if-is_none.false)
    (sym c.in-Some.is ∙ c.in_ok-chosen.ensures x h)
    (subst (λ (t : Text). (k : Choice) → IsOf t c.args.candidate.now c.in-Some.chosen k
    → IsVerdict c.args.limit t s k c.in_ok-verdict.verdict) c.text.ensures
    c.in_ok-verdict.ensures.verdict)
