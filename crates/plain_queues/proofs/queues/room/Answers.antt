use Rattle.std.proofs.Common.{ap, ◌∙◌, sym, ◌≡◌, true, Some, ℕ}
use Rattle.std.specs.List.{position}
use Rattle.plain_systems.specs.declared.system.QueueKey.{QueueKey}
use Rattle.plain_systems.specs.HeldSystems.{queue_of, is_waiting, waiting_in}
use Rattle.plain_systems.proofs.FirstFound.{none_found}
use Rattle.plain_texts.specs.mean_blocks.GlobalSituation.{is_queue}
use Rattle.plain_systems.proofs.FirstPlaces.{last_place}
use Rattle.plain_queues.proofs.QueueLaws.{empty_queue}
use Rattle.plain_systems.proofs.SamePoints.{queue_self}
use Rattle.plain_queues.proofs.queues.room.Goals as goal

pub returns-in_ok-push-in-None-clause-same : goal.returns-in_ok-push-in-None-clause-same
returns-in_ok-push-in-None-clause-same c =
    ap waiting_in c.in_ok-push-in-None.ensures.ok
    ∙ empty_queue c.args.queues.now c.in_ok-waiting-in-None.waiting c.in_ok-waiting-in-None.ensures.items

pub returns-in_ok-push-in-None-clause-there : goal.returns-in_ok-push-in-None-clause-there
returns-in_ok-push-in-None-clause-there c =
    let q = queue_of c.args.key.now in
    let own : is_waiting q c.in_ok-waiting-in-None.waiting ≡ true =
    ap (λ (k : QueueKey). is_queue q (queue_of k)) c.in_ok-waiting-in-None.ensures.queue ∙ queue_self q in
    ap (position (is_waiting q)) c.in_ok-push-in-None.ensures.ok
    ∙ last_place (is_waiting q) c.args.queues.now c.in_ok-waiting-in-None.waiting
    (none_found (is_waiting q) c.args.queues.now (sym c.in-None.ensures)) own
    ∙ ap (λ (n : ℕ). Some n) (sym c.len-at.ensures)
