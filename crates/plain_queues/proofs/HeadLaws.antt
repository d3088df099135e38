-- Systems of which the head of a queue is taken.
use Rattle.std.proofs.Common.{◌≡◌, ap, ◌∙◌, List, drop}
use Rattle.plain_texts.specs.mean_blocks.declared.situation.InteractionPoint.{InteractionPoint}
use Rattle.plain_texts.specs.mean_blocks.declared.situation.Item.{Item}
use Rattle.plain_texts.specs.mean_blocks.TextByPlace.{Text}
use Rattle.plain_texts.specs.mean_blocks.GlobalSituation.{QueueName, Situation}
use Rattle.plain_texts.specs.mean_blocks.QueueEffects.{queue_of, without_head}
use Rattle.plain_queues.specs.ChangedQueues.{with_items}

abbrev with_queues : (QueueName → List Item) → Situation → Situation
with_queues m s = record s { queues = m }

-- an item is taken from the head of a queue
pub headless_by : (t : Text) (s : Situation) (p : InteractionPoint) (q : QueueName)
    (after : QueueName → List Item) → q ≡ queue_of t p
    → after ≡ with_items q (drop 1 (s.queues q)) s.queues
    → with_queues after s ≡ without_head t p s
headless_by t s p q after e h =
    ap (λ m. with_queues m s) (h ∙ ap (λ k. with_items k (drop 1 (s.queues k)) s.queues) e)
