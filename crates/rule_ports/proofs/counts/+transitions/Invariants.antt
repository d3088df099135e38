use Rattle.std.proofs.Common.{◌≡◌, drop}
use Rattle.rule_ports.specs.Counts.{transitions}
use Rattle.rule_ports.proofs.counts.+transitions.Given as goal

abbrev pub invariant-transitions-loop-i : goal.invariant-transitions-loop-i
invariant-transitions-loop-i l = l.sum ≡ transitions (drop l.i l.parts)
