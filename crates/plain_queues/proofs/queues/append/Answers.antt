use Rattle.std.proofs.Common.{ap, ◌∙◌, ◌++◌, List}
use Rattle.plain_texts.specs.mean_blocks.declared.situation.Item.{Item}
use Rattle.plain_systems.specs.HeldSystems.{queue_of, waiting_in}
use Rattle.plain_queues.proofs.QueueLaws.{changed_there}
use Rattle.plain_queues.proofs.queues.append.Goals as goal

pub returns : goal.returns
returns c =
    changed_there (queue_of c.args.key.now) c.room.new.queues c.queues.inside.items.items
    c.in_ok-at.at c.index_mut.result.now (λ (xs : List Item). xs ++ c.args.items.now)
    c.put_all.new.queue
    (waiting_in c.args.queues.now) c.queues.view_is c.in_ok-at.ensures.there
    c.index_mut.ensures.value
    (c.in_ok-at.ensures.same ∙ ap waiting_in c.in_ok-queues.ensures.value) c.in_ok-put_all.ensures
