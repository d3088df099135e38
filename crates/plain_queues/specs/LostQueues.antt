-- Queues that are left where instances are released.
use Rattle.std.specs.Prelude.{ℕ, List, [], if◌then◌else◌}
use Rattle.plain_texts.specs.mean_blocks.declared.situation.Item.{Item}
use Rattle.plain_texts.specs.mean_blocks.GlobalSituation.{QueueName}
use Rattle.plain_texts.specs.mean_blocks.InstanceEffects.{is_among, owner}

-- the queues of others than these instances
abbrev pub queues_without : List ℕ → (QueueName → List Item) → QueueName → List Item
queues_without ns m = λ q. if is_among ns (owner q) then [] else m q
