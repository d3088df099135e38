use Rattle.std.proofs.Common.{◌∙◌}
use Rattle.plain_systems.specs.HeldSystems.{queue_of, waiting_in}
use Rattle.plain_queues.proofs.QueueLaws.{some_transferred}
use Rattle.plain_queues.proofs.queues.transfer.Goals as goal

pub returns : goal.returns
returns c =
    some_transferred c.args.from.now c.args.to.now (queue_of c.args.out_of.now)
    (queue_of c.args.into.now) (waiting_in c.args.queues.now) (waiting_in c.take_out.new.queues)
    (waiting_in c.append-appended.new.queues) c.as_slice.result.now c.in_ok-appended.ensures
    c.in_ok-moved.ensures.stay (c.as_slice.ensures ∙ c.in_ok-moved.ensures.moved)
