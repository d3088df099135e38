use Rattle.std.proofs.Common.{ap, ◌∙◌, None}
use Rattle.est_meaning.specs.mean_blocks.TextByPlace.{Text}
use Rattle.est_meaning.specs.mean_blocks.GlobalSituation.{Situation}
use Rattle.plain_frames.specs.plain_systems.HeldSystems.{situation_of, waiting_in}
use Rattle.est_meaning.specs.declared.event.Event.TheVariants as event
use Rattle.est_meaning.specs.OutsideEvents.{after_event}
use Rattle.plain_walk.specs.SentItems.{alone}
use Rattle.plain_walk.proofs.walk.Walk.arrived.Goals as goal

pub returns-in-Ok : goal.returns-in-Ok
returns-in-Ok c =
    let w = c.args.self.now in
    let e = event.Arrives c.args.interaction.now in
    ap waiting_in c.queues_of.ensures
    ∙ ap (λ (s : Situation). s.queues) (c.in-Ok.ensures
    ∙ (ap (λ (s : Situation). after_event w.outside s e) c.in_ok-system.ensures.alone
    ∙ ap (λ (t : Text). after_event t (alone w.behaviour None (situation_of w.system)) e)
    w.outside_is))
