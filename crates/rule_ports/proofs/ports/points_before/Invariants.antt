use Rattle.std.proofs.Common.{◌-◌}
use Rattle.rule_ports.specs.PortTable.{IsSplit}
use Rattle.rule_ports.proofs.ports.points_before.Given as goal

abbrev pub invariant-loop-low : goal.invariant-loop-low
invariant-loop-low l = IsSplit l.points l.number l.low l.high

abbrev pub decreases-loop-low : goal.decreases-loop-low
decreases-loop-low l = l.high - l.low
