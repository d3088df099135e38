-- Systems in whose queues an item goes down.
use Rattle.std.proofs.Common.{◌≡◌, ap, ◌∙◌, List, [], ◌∷◌, ◌++◌}
use Rattle.plain_queues.specs.mean_blocks.declared.situation.InteractionPoint.{InteractionPoint}
use Rattle.plain_queues.specs.mean_blocks.declared.situation.Item.{Item}
use Rattle.plain_queues.specs.mean_blocks.TextByPlace.{Text}
use Rattle.plain_queues.specs.mean_blocks.GlobalSituation.{QueueName, Situation}
use Rattle.plain_queues.specs.mean_blocks.Attachments.{bottom}
use Rattle.plain_queues.specs.mean_blocks.QueueEffects.{queue_of, appended, passed_to}
use Rattle.plain_queues.specs.mean_blocks.OutputEffects.{delivered_at}
use Rattle.plain_queues.specs.ChangedQueues.{with_items}

abbrev with_queues : (QueueName → List Item) → Situation → Situation
with_queues m s = record s { queues = m }

-- items go to the end of the queue of an interaction point
pub appended_by : (t : Text) (s : Situation) (p : InteractionPoint) (items : List Item)
    (q : QueueName) (after : QueueName → List Item) → q ≡ queue_of t p
    → after ≡ with_items q (s.queues q ++ items) s.queues
    → with_queues after s ≡ appended t p items s
appended_by t s p items q after e h =
    ap (λ m. with_queues m s)
    (h ∙ ap (λ k. with_items k (s.queues k ++ items) s.queues) e)

-- an item goes down into the queue of the innermost interaction point
pub delivered_by : (t : Text) (s : Situation) (p b : InteractionPoint) (i j : Item)
    (after : Situation) → b ≡ bottom s p → j ≡ passed_to b i
    → after ≡ appended t j.at (j ∷ []) s → after ≡ delivered_at t p i s
delivered_by t s p b i j after e f h =
    h ∙ ap (λ (k : Item). appended t k.at (k ∷ []) s) f
    ∙ ap (λ c. appended t c (passed_to c i ∷ []) s) e
