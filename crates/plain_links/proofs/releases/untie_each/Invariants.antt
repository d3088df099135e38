use Rattle.std.proofs.Common.{◌≡◌, drop}
use Rattle.plain_queues.specs.mean_blocks.LinkEffects.{each}
use Rattle.plain_queues.specs.mean_blocks.InstanceEffects.{untied}
use Rattle.plain_queues.specs.plain_systems.HeldSystems.{situation_of}
use Rattle.plain_links.proofs.releases.untie_each.Given as goal

-- the points that are left lead to where all lead
abbrev pub invariant-loop-point : goal.invariant-loop-point
invariant-loop-point l =
    each (untied l.text) (drop l.point-index l.points) (situation_of l.system)
    ≡ each (untied l.text) l.points (situation_of l.fn.system)
