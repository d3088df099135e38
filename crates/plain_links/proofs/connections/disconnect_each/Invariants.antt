use Rattle.std.proofs.Common.{◌≡◌, drop}
use Rattle.plain_queues.specs.mean_blocks.LinkEffects.{each, disconnected}
use Rattle.plain_queues.specs.plain_systems.HeldSystems.{situation_of}
use Rattle.plain_links.proofs.connections.disconnect_each.Given as goal

-- the points that are left lead to where all lead
abbrev pub invariant-loop-point : goal.invariant-loop-point
invariant-loop-point l =
    each disconnected (drop l.point-index l.points) (situation_of l.system)
    ≡ each disconnected l.points (situation_of l.fn.system)
