-- What is left where instances are released.
use Rattle.std.proofs.Common.{◌≡◌, ℕ, List, ap, ◌∙◌, Some, None}
use Rattle.plain_queues.specs.mean_blocks.declared.situation.InteractionPoint.{InteractionPoint}
use Rattle.plain_queues.specs.mean_blocks.declared.situation.Item.{Item}
use Rattle.plain_queues.specs.mean_blocks.declared.situation.Row.{Row}
use Rattle.plain_queues.specs.mean_blocks.GlobalSituation.{Map, QueueName, Clocked}
use Rattle.plain_queues.specs.mean_blocks.GlobalSituation.{Situation}
use Rattle.plain_queues.specs.mean_blocks.InstanceEffects.{links_without, without}
use Rattle.plain_births.specs.LostRows.{rows_without, stamps_without}
use Rattle.plain_queues.specs.LostQueues.{queues_without}
use Rattle.plain_queues.specs.mean_blocks.TextByPlace.{Text}
use Rattle.plain_queues.specs.mean_blocks.Attachments.{bottom}
use Rattle.plain_queues.specs.mean_blocks.QueueEffects.{queue_of, moved}
use Rattle.plain_queues.specs.mean_blocks.LinkEffects.{with_point}
use Rattle.plain_links.specs.ChangedSystems.{fastened, unfastened}
use Rattle.plain_queues.specs.ChangedQueues.{transferred}

-- all that goes
pub without_by : (ns : List ℕ) (s : Situation) (r : List Row)
    (p d : Map InteractionPoint InteractionPoint) (q : QueueName → List Item) (k : Map Clocked ℕ)
    → r ≡ rows_without ns s.rows → p ≡ links_without ns s.peer → d ≡ links_without ns s.down
    → q ≡ queues_without ns s.queues → k ≡ stamps_without ns s.stamps
    → ◌≡◌ {A = Situation} (record s { rows = r; peer = p; down = d; queues = q; stamps = k })
    (without ns s)
without_by ns s r p d q k a b e f g =
    λ i. record s { rows = a i; peer = b i; down = e i; queues = f i; stamps = g i }

abbrev with_queues : (QueueName → List Item) → Situation → Situation
with_queues m s = record s { queues = m }

-- items go from one queue to another
pub moved_by : (t : Text) (s : Situation) (p q : InteractionPoint) (a b : QueueName)
    (after : QueueName → List Item) → a ≡ queue_of t p → b ≡ queue_of t q
    → after ≡ transferred p a q b s.queues → with_queues after s ≡ moved t p q s
moved_by t s p q a b after e f h =
    ap (λ m. with_queues m s)
    (h ∙ ap (λ k. transferred p k q b s.queues) e
    ∙ ap (λ k. transferred p (queue_of t p) q k s.queues) f)

-- an interaction point is attached, and is attached no more
abbrev with_downs : Map InteractionPoint InteractionPoint → Situation → Situation
with_downs m s = record s { down = m }

pub fastened_by : (t : Text) (s : Situation) (e c b : InteractionPoint) (u : Situation)
    (d : Map InteractionPoint InteractionPoint) → b ≡ bottom s c → u ≡ moved t e b s
    → d ≡ with_point e (Some c) u.down → with_downs d u ≡ fastened t e c s
fastened_by t s e c b u d x y z =
    ap (λ m. with_downs m u) z
    ∙ ap (λ v. with_downs (with_point e (Some c) v.down) v) (y ∙ ap (λ i. moved t e i s) x)

pub unfastened_by : (t : Text) (s : Situation) (e b : InteractionPoint) (u : Situation)
    (d : Map InteractionPoint InteractionPoint) → b ≡ bottom s e → u ≡ moved t b e s
    → d ≡ with_point e None u.down → with_downs d u ≡ unfastened t e s
unfastened_by t s e b u d x y z =
    ap (λ m. with_downs m u) z
    ∙ ap (λ v. with_downs (with_point e None v.down) v) (y ∙ ap (λ i. moved t i e s) x)
