use Rattle.std.proofs.Common.{◌≡◌, drop}
use Rattle.rule_scope.specs.LeastSoFar.{least_with}
use Rattle.rule_scope.specs.Uses.{twices_faults}
use Rattle.rule_scope.proofs.outline.Outline.check_twices.Given as goal

abbrev pub invariant-loop-used : goal.invariant-loop-used
invariant-loop-used l = least_with l.least.at (twices_faults l.self (drop l.used-index l.names))
    ≡ least_with l.fn.least.at (twices_faults l.self l.names)
