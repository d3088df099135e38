use Rattle.std.proofs.Common.{◌≡◌, drop}
use Rattle.rule_ports.specs.Counts.{names_elements}
use Rattle.rule_ports.proofs.counts.names_elements.Given as goal

abbrev pub invariant-loop-i : goal.invariant-loop-i
invariant-loop-i l = l.sum ≡ names_elements l.outline (drop l.i l.names)
