-- Changes of a system that are parts of statements on links and of releases.
use Rattle.std.specs.Prelude.{Some, None, ℕ}
use Rattle.plain_queues.specs.mean_blocks.declared.situation.InteractionPoint.{InteractionPoint}
use Rattle.plain_queues.specs.mean_blocks.TextByPlace.{Text}
use Rattle.plain_queues.specs.mean_blocks.GlobalSituation.{Situation}
use Rattle.plain_queues.specs.mean_blocks.Attachments.{bottom}
use Rattle.plain_queues.specs.mean_blocks.QueueEffects.{moved}
use Rattle.plain_queues.specs.mean_blocks.LinkEffects.{with_point, each}
use Rattle.plain_queues.specs.mean_blocks.InstancePoints.{external_of}
use Rattle.plain_queues.specs.mean_blocks.InstanceEffects.{untied}

-- two interaction points are connected, whatever ties they have
abbrev pub tied : InteractionPoint → InteractionPoint → Situation → Situation
tied p q s = record s { peer = with_point p (Some q) (with_point q (Some p) s.peer) }

-- an interaction point is attached to one of a child, whatever ties they have
abbrev pub fastened : Text → InteractionPoint → InteractionPoint → Situation → Situation
fastened t e c s = record (moved t e (bottom s c) s) { down = with_point e (Some c) s.down }

-- the items of the innermost point below one come back, and it is attached to none
abbrev pub unfastened : Text → InteractionPoint → Situation → Situation
unfastened t e s = record (moved t (bottom s e) e s) { down = with_point e None s.down }

-- the external interaction points of a child are untied
abbrev pub all_untied : Text → ℕ → Situation → Situation
all_untied t n s = each (untied t) (external_of t.outline s n) s
