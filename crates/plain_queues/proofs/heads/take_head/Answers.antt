use Rattle.plain_systems.specs.HeldSystems.{queue_of, situation_of, waiting_in}
use Rattle.plain_queues.proofs.HeadLaws.{headless_by}
use Rattle.plain_queues.proofs.heads.take_head.Goals as goal

pub returns-clause-rest : goal.returns-clause-rest
returns-clause-rest c =
    headless_by c.args.text.now (situation_of c.args.system.now) c.args.point.now
    (queue_of c.in_ok-key.key) (waiting_in c.take-taken.new.queues) c.in_ok-key.ensures
    c.in_ok-item.ensures.rest
