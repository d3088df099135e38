use Rattle.std.proofs.Common.{◌≡◌, drop}
use Rattle.rule_kinds.specs.Dims.{elements}
use Rattle.rule_kinds.proofs.dims.elements.Given as goal

abbrev pub invariant-loop-i : goal.invariant-loop-i
invariant-loop-i l = l.all ≡ elements (drop l.i l.kinds)
