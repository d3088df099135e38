use Rattle.std.specs.Prelude.{flat_map}
use Rattle.std.proofs.Common.{◌≡◌, drop}
use Rattle.rule_scope.specs.LeastSoFar.{least_with}
use Rattle.est_check.specs.Clauses.{state_faults}
use Rattle.est_check.proofs.clauses.check_states.Given as goal

abbrev pub invariant-loop-used : goal.invariant-loop-used
invariant-loop-used l = least_with l.least.at (flat_map (state_faults l.outline) (drop l.used-index l.names))
    ≡ least_with l.fn.least.at (flat_map (state_faults l.outline) l.names)
