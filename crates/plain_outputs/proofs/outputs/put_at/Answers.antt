use Rattle.std.proofs.Common.{[], ◌∷◌}
use Rattle.plain_queues.specs.plain_systems.HeldSystems.{queue_of, situation_of, waiting_in}
use Rattle.plain_outputs.proofs.DeliveryLaws.{appended_by}
use Rattle.plain_outputs.proofs.outputs.put_at.Goals as goal

pub returns : goal.returns
returns c =
    appended_by c.args.text.now (situation_of c.args.system.now) c.args.item.at
    (c.args.item ∷ []) (queue_of c.in-Ok.key) (waiting_in c.put-done.new.queues)
    c.in-Ok.ensures c.in_ok-done.ensures
