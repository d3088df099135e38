use Rattle.std.proofs.Common.{◌≡◌, take}
use Rattle.plain_points.specs.PointsOfHeaders.{points_at}
use Rattle.plain_points.proofs.declared.points_at.Given as goal

-- the points of so many places are there
abbrev pub invariant-loop-place : goal.invariant-loop-place
invariant-loop-place l =
    l.points ≡ points_at l.outline l.instance (take l.place-index l.places)
