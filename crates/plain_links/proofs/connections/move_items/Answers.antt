use Rattle.plain_queues.specs.plain_systems.HeldSystems.{queue_of, situation_of, waiting_in}
use Rattle.plain_links.proofs.SystemLaws.{moved_by}
use Rattle.plain_links.proofs.connections.move_items.Goals as goal

pub returns : goal.returns
returns c =
    moved_by c.args.text.now (situation_of c.args.system.now) c.args.from.now c.args.to.now
    (queue_of c.in_ok-out_of.out_of) (queue_of c.in_ok-into.into)
    (waiting_in c.transfer-done.new.queues) c.in_ok-out_of.ensures c.in_ok-into.ensures
    c.in_ok-done.ensures
