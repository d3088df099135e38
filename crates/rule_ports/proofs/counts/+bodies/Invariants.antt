use Rattle.std.proofs.Common.{◌≡◌, drop}
use Rattle.rule_ports.specs.Counts.{bodies}
use Rattle.rule_ports.proofs.counts.+bodies.Given as goal

abbrev pub invariant-bodies-loop-i : goal.invariant-bodies-loop-i
invariant-bodies-loop-i l = l.sum ≡ bodies (drop l.i l.parts)
