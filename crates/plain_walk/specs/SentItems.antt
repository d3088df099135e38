-- What blocks send to instances.
use Rattle.std.specs.Prelude.{◌≡◌, ℕ, List, [], ◌∷◌, Option, Some, None, if◌then◌else◌}
use Rattle.est_meaning.specs.mean_blocks.declared.situation.Item.{Item}
use Rattle.est_meaning.specs.mean_blocks.Outcome.{Done}
use Rattle.est_meaning.specs.mean_blocks.TextByPlace.{Text}
use Rattle.est_meaning.specs.mean_blocks.GlobalSituation.{QueueName, Situation, is_queue}
use Rattle.est_meaning.specs.mean_blocks.QueueEffects.{queue_of}
use Rattle.est_meaning.specs.declared.event.Event.{Event}
use Rattle.est_meaning.specs.declared.firing.Firing.{Firing}
use Rattle.est_meaning.specs.FiringSteps.{outcome}

-- queues in which nothing waits but one item, if it is given
abbrev pub queue_with : Text → Option Item → QueueName → List Item
queue_with t None q = []
queue_with t (Some i) q = if is_queue q (queue_of t i.at) then i ∷ [] else []

-- the situation in which nothing waits but that
abbrev pub alone : Text → Option Item → Situation → Situation
alone t item s = record s { queues = queue_with t item }

-- what waits after a firing, if it is done where nothing waits before it but the item that it takes
abbrev pub IsSentBy : ℕ → Text → Situation → Firing → Option Item → (QueueName → List Item)
    → Type 0
IsSentBy limit t s f item queues = (outs : List Event) (u : Situation)
    → outcome limit t (alone t item s) f ≡ Done outs u → queues ≡ u.queues
