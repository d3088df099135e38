use Rattle.std.proofs.Common.{◌-◌, length}
use Rattle.est_values.specs.OrdinalTuples.{ordinal_tuples}
use Rattle.plain_points.specs.PointsOfHeaders.{AreListed}
use Rattle.plain_points.proofs.subscripts.ordinal_tuples.Given as goal

-- so many tuples are listed
abbrev pub invariant-next : goal.invariant-next
invariant-next l = AreListed l.kinds l.tuples l.tuple

-- and one less is to come
abbrev pub decreases-next : goal.decreases-next
decreases-next l = length (ordinal_tuples l.kinds) - length l.tuples
