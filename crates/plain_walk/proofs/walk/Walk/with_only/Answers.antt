use Rattle.std.proofs.Common.{◌≡◌, subst}
use Rattle.est_meaning.specs.mean_blocks.TextByPlace.{Text}
use Rattle.plain_frames.specs.plain_systems.HeldSystems.{waiting_in}
use Rattle.plain_walk.specs.SentItems.{queue_with}
use Rattle.plain_walk.proofs.SentItems.{waits_alone}
use Rattle.plain_walk.proofs.walk.Walk.with_only.Goals as goal

pub returns-in-Ok-clause-alone : goal.returns-in-Ok-clause-alone
returns-in-Ok-clause-alone c =
    waits_alone c.args.self.now.behaviour c.args.item.now c.in-Ok.system c.args.self.now.system
    c.in_ok-queues.queues c.in-Ok.ensures
    (subst (λ (t : Text). waiting_in c.in_ok-queues.queues ≡ queue_with t c.args.item.now)
    c.text.ensures c.in_ok-queues.ensures)
