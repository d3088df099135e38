use Rattle.std.proofs.Common.{◌≡◌, ◌++◌, map, take}
use Rattle.plain_declared.specs.mean_blocks.InstancePoints.{point}
use Rattle.plain_points.proofs.declared.add_each.Given as goal

-- so many points are added
abbrev pub invariant-loop-index : goal.invariant-loop-index
invariant-loop-index l =
    l.points ≡ l.fn.points ++ map (point l.instance l.declared) (take l.index-index l.indices)
