use Rattle.std.proofs.Common.{◌≡◌, drop}
use Rattle.est_meaning.specs.rule_kinds.Dims.{elements}
use Rattle.est_trace.proofs.directory.elements.Given as goal

abbrev pub invariant-loop-i : goal.invariant-loop-i
invariant-loop-i l = l.all ≡ elements (drop l.i l.kinds)
