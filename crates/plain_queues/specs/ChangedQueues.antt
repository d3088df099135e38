-- Lists of queues that are changed.
use Rattle.std.specs.Prelude.{◌≡◌, List, ◌++◌, map, not, if◌then◌else◌}
use Rattle.std.specs.List.{filter}
use Rattle.plain_texts.specs.mean_blocks.declared.situation.InteractionPoint.{InteractionPoint}
use Rattle.plain_texts.specs.mean_blocks.declared.situation.Item.{Item}
use Rattle.plain_texts.specs.mean_blocks.GlobalSituation.{QueueName, is_queue}
use Rattle.plain_texts.specs.mean_blocks.QueueEffects.{belongs, passed_to}

-- queues of which one has these items
abbrev pub with_items : QueueName → List Item → (QueueName → List Item) → QueueName → List Item
with_items queue items m = λ q. if is_queue queue q then items else m q

-- queues after the items of one interaction point went from its queue to that of another
abbrev pub transferred : InteractionPoint → QueueName → InteractionPoint → QueueName
    → (QueueName → List Item) → QueueName → List Item
transferred p out_of q into m =
    with_items into
    (with_items out_of (filter (λ i. not (belongs p i)) (m out_of)) m into
    ++ map (passed_to q) (filter (belongs p) (m out_of)))
    (with_items out_of (filter (λ i. not (belongs p i)) (m out_of)) m)

-- The items of a queue that were looked at stay or, where they belong to one interaction point,
-- move to another.
pub record IsParted (p q : InteractionPoint) (all rest stay moved : List Item) : Type 0 where
  pub stayed : stay ++ filter (λ i. not (belongs p i)) rest ≡ filter (λ i. not (belongs p i)) all
  pub passed : moved ++ map (passed_to q) (filter (belongs p) rest)
      ≡ map (passed_to q) (filter (belongs p) all)
