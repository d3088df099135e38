use Rattle.plain_queues.specs.plain_systems.HeldSystems.{situation_of}
use Rattle.plain_outputs.proofs.DeliveryLaws.{delivered_by}
use Rattle.plain_outputs.proofs.outputs.deliver_at.Goals as goal

pub returns : goal.returns
returns c =
    delivered_by c.args.text.now (situation_of c.args.system.now) c.args.point.now
    c.in-Ok.at c.args.item c.at_point.result (situation_of c.put_at.new.system)
    c.in-Ok.ensures c.at_point.ensures c.in_ok-put_at.ensures
