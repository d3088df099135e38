use Rattle.std.proofs.Common.{sym, subst, List}
use Rattle.plain_frames.specs.plain_systems.declared.system.Waiting.{Waiting}
use Rattle.plain_frames.specs.plain_systems.HeldSystems.{situation_of, waiting_in}
use Rattle.plain_walk.specs.SentItems.{IsSentBy}
use Rattle.plain_walk.proofs.SentItems.{sent_there}
use Rattle.plain_walk.proofs.walk.Walk.sendings.Goals as goal

pub returns-in-Ok : goal.returns-in-Ok
returns-in-Ok c =
    let w = c.args.self.now in
    subst (λ (ws : List Waiting). IsSentBy w.limit w.behaviour (situation_of w.system)
    c.args.firing.now c.args.item.now (waiting_in ws)) (sym c.queues_of.ensures)
    (sent_there w.limit w.behaviour (situation_of w.system) (situation_of c.in_ok-system.system)
    (situation_of c.in-Ok.stepped.system) c.args.firing.now c.args.item.now c.in-Ok.stepped.outs
    c.in_ok-system.ensures.alone c.in-Ok.ensures)
