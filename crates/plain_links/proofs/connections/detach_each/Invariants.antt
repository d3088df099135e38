use Rattle.std.proofs.Common.{◌≡◌, drop}
use Rattle.plain_queues.specs.mean_blocks.LinkEffects.{each, detached_end}
use Rattle.plain_queues.specs.plain_systems.HeldSystems.{situation_of}
use Rattle.plain_links.proofs.connections.detach_each.Given as goal

-- the points that are left lead to where all lead
abbrev pub invariant-loop-point : goal.invariant-loop-point
invariant-loop-point l =
    each (detached_end l.text l.instance) (drop l.point-index l.points) (situation_of l.system)
    ≡ each (detached_end l.text l.instance) l.points (situation_of l.fn.system)
