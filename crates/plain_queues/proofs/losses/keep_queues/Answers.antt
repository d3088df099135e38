use Rattle.std.proofs.Common.{rules, ap, ◌∙◌, not, List}
use Rattle.std.specs.List.{filter}
use Rattle.std.proofs.lemmas.Fn.{filter_same}
use Rattle.plain_texts.specs.mean_blocks.GlobalSituation.{QueueName}
use Rattle.plain_texts.specs.mean_blocks.InstanceEffects.{is_among, owner}
use Rattle.plain_systems.specs.declared.system.Waiting.{Waiting}
use Rattle.plain_systems.specs.HeldSystems.{queue_of, waiting_in}
use Rattle.plain_queues.proofs.QueueLaws.{kept_queues}
use Rattle.plain_queues.proofs.losses.keep_queues.Goals as goal

pub returns : goal.returns
returns c =
    ap waiting_in (filter_same _
    (λ (w : Waiting). not (is_among c.args.gone.now (owner (queue_of w.queue)))) _
    (λ x b f' k. search rules) _ _ c.retain.ensures.filtered)
    ∙ ap (λ (ws : List Waiting). waiting_in (filter
    (λ (w : Waiting). not (is_among c.args.gone.now (owner (queue_of w.queue)))) ws))
    (c.queues.view_is ∙ c.in_ok-queues.ensures.value)
    ∙ kept_queues (λ (q : QueueName). is_among c.args.gone.now (owner q)) c.args.queues.now
