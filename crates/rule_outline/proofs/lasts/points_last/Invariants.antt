use Rattle.std.proofs.Common.{◌≡◌, drop}
use Rattle.rule_declares.specs.Lasts.{points_last}
use Rattle.rule_outline.proofs.lasts.points_last.Given as goal

abbrev pub invariant-loop-point : goal.invariant-loop-point
invariant-loop-point l = points_last (drop l.point-index l.points) l.last ≡ points_last l.points
    l.fn.last
