-- The situation that a system is, and the state that a block works on.
--
-- Of links from one interaction point the first counts, and so with queues and stamps.
use Rattle.std.specs.Prelude.{◌≡◌, ℕ, Bool, ◌&&◌, nat_eq, List, [], find}
use Rattle.std.specs.Option.{option_map, option_map_or}
use Rattle.mean_blocks.specs.declared.situation.InteractionPoint.{InteractionPoint}
use Rattle.mean_blocks.specs.declared.situation.Item.{Item}
use Rattle.mean_blocks.specs.GlobalSituation.{Map, is_point, QueueName, Own, Shared}
use Rattle.mean_blocks.specs.GlobalSituation.{is_queue}
use Rattle.mean_blocks.specs.GlobalSituation.{Clocked, Situation}
use Rattle.mean_blocks.specs.WorkingState.{State}
use Rattle.plain_systems.specs.declared.system.Link.{Link}
use Rattle.plain_systems.specs.declared.system.QueueKey.{QueueKey}
use Rattle.plain_systems.specs.declared.system.QueueKey.TheVariants as key
use Rattle.plain_systems.specs.declared.system.Stamp.{Stamp}
use Rattle.plain_systems.specs.declared.system.System.{System}
use Rattle.plain_systems.specs.declared.system.Waiting.{Waiting}
use Rattle.plain_systems.specs.declared.system.Working.{Working}

-- LINKS

-- whether a link leads from an interaction point
abbrev pub is_from : InteractionPoint → Link → Bool
is_from p l = is_point p l.from

-- where links lead
abbrev pub linked : List Link → Map InteractionPoint InteractionPoint
linked ls p = option_map (λ (l : Link). l.to) (find (is_from p) ls)

-- QUEUES

-- the queue that a key is that of
abbrev pub queue_of : QueueKey → QueueName
queue_of (key.Own p) = Own p
queue_of (key.Common n) = Shared n

-- whether these are the items of a queue
abbrev pub is_waiting : QueueName → Waiting → Bool
is_waiting q w = is_queue q (queue_of w.queue)

-- the items of queues
abbrev pub waiting_in : List Waiting → QueueName → List Item
waiting_in ws q = option_map_or (λ (w : Waiting). w.items) (find (is_waiting q) ws) []

-- STAMPS

-- whether a stamp is that of a transition
abbrev pub is_stamp : Clocked → Stamp → Bool
is_stamp c s = nat_eq c.instance s.instance && nat_eq c.transition s.transition

-- since when transitions are enabled
abbrev pub stamped : List Stamp → Map Clocked ℕ
stamped ss c = option_map (λ (s : Stamp). s.since) (find (is_stamp c) ss)

-- SITUATIONS AND STATES

-- the situation that a system is
abbrev pub situation_of : System → Situation
situation_of s = record {
  rows = s.rows;
  peer = linked s.peers;
  down = linked s.downs;
  queues = waiting_in s.queues;
  stamps = stamped s.stamps;
  clock = s.clock;
  next = s.next;
}

-- the state of a block that may enter so many statements yet
abbrev pub state_of : Working → ℕ → State
state_of w n =
    record { situation = situation_of w.system; outs = w.outs; frames = w.frames; left = n }

-- the same situation, sent items and frames
abbrev pub LooksSame : Working → Working → Type 0
LooksSame w u = (situation_of u.system ≡ situation_of w.system)
    × ((u.outs ≡ w.outs) × (u.frames ≡ w.frames))
