use Rattle.std.proofs.Common.{◌≡◌, drop}
use Rattle.rule_ports.specs.inside.Counted.{group_counts}
use Rattle.rule_ports.proofs.counts.group_counts.Given as goal

abbrev pub invariant-loop-i : goal.invariant-loop-i
invariant-loop-i l = l.sum ≡ group_counts (drop l.i l.groups)
