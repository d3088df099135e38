-- Queues, and items that move from one to another (ISO 9074, 5: queues; 7: queue-discipline).
use Rattle.std.specs.Prelude.{Bool, List, ◌++◌, map, not, drop, slice_get, Option}
use Rattle.std.specs.List.{filter}
use Rattle.est_syntax.specs.declared.header.Queue.{Queue}
use Rattle.est_syntax.specs.declared.header.Queue.TheVariants.{Individual, Common}
use Rattle.mean_blocks.specs.declared.situation.InteractionPoint.{InteractionPoint}
use Rattle.mean_blocks.specs.declared.situation.Item.{Item}
use Rattle.mean_blocks.specs.TextByPlace.{Text, discipline}
use Rattle.mean_blocks.specs.GlobalSituation.{is_point, QueueName, Own, Shared, Situation}
use Rattle.mean_blocks.specs.GlobalSituation.{with_queue}

-- the queue of an interaction point of this discipline
abbrev pub queue_by : InteractionPoint → Queue → QueueName
queue_by p Individual = Own p
queue_by p Common = Shared p.instance

-- the queue of an interaction point
abbrev pub queue_of : Text → InteractionPoint → QueueName
queue_of t p = queue_by p (discipline t p.declared)

-- items go after those of the queue of an interaction point
abbrev pub appended : Text → InteractionPoint → List Item → Situation → Situation
appended t p items s = with_queue (queue_of t p) (s.queues (queue_of t p) ++ items) s

-- The first item of the queue in which those of an interaction point wait, if there is one. Of a
-- common queue it may belong to another interaction point.
abbrev pub head_at : Text → InteractionPoint → Situation → Option Item
head_at t p s = slice_get (s.queues (queue_of t p)) 0

-- the situation in which that queue is without its first item
abbrev pub without_head : Text → InteractionPoint → Situation → Situation
without_head t p s = with_queue (queue_of t p) (drop 1 (s.queues (queue_of t p))) s

-- whether an item belongs to an interaction point
abbrev pub belongs : InteractionPoint → Item → Bool
belongs p i = is_point p i.at

-- an item that belongs to another interaction point
abbrev pub passed_to : InteractionPoint → Item → Item
passed_to p i = record i { at = p }

-- the situation in which the queue of an interaction point has none of its items
abbrev pub emptied : Text → InteractionPoint → Situation → Situation
emptied t p s = with_queue (queue_of t p)
    (filter (λ i. not (belongs p i)) (s.queues (queue_of t p))) s

-- The items of one interaction point go, in order, after those of the queue of another, to which
-- they then belong.
abbrev pub moved : Text → InteractionPoint → InteractionPoint → Situation → Situation
moved t p q s = appended t q
    (map (passed_to q) (filter (belongs p) (s.queues (queue_of t p)))) (emptied t p s)
