use Rattle.std.proofs.Common.{sym, subst}
use Rattle.plain_frames.specs.plain_systems.HeldSystems.{situation_of}
use Rattle.est_meaning.specs.mean_blocks.TextByPlace.{Text, text_of}
use Rattle.est_meaning.specs.mean_blocks.GlobalSituation.{Situation}
use Rattle.est_meaning.specs.TransitionSelection.{IsSettled}
use Rattle.est_plain.specs.inside.HeldStacks.{stack_of}
use Rattle.est_plain.proofs.WorldLaws.{due_told}
use Rattle.est_plain.proofs.world.PlainWorldWorld.due_any.Goals as goal

pub due_any-requires-clause-settled : goal.due_any-requires-clause-settled
due_any-requires-clause-settled c =
    let w = c.args.self.now in
    subst (λ (t : Text). IsSettled w.limit t (situation_of c.in_ok-working.working.system))
    (sym w.behaviour_is)
    (subst (λ (s : Situation). IsSettled w.limit (text_of w.behaviour.spec) s)
    (sym c.in_ok-working.ensures.same) (c.requires w.behaviour.spec w.behaviour_is))

pub returns-clause-due : goal.returns-clause-due
returns-clause-due c =
    let w = c.args.self.now in
    due_told c.due_any.result w.limit w.behaviour (situation_of c.in_ok-working.working.system)
    (stack_of w.history).now c.in_ok-working.ensures.same c.due_any.ensures
