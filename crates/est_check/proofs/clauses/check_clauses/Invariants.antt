use Rattle.std.specs.Prelude.{flat_map}
use Rattle.std.proofs.Common.{◌≡◌, drop}
use Rattle.rule_scope.specs.LeastSoFar.{least_with}
use Rattle.est_check.specs.Clauses.{clause_faults}
use Rattle.est_check.proofs.clauses.check_clauses.Given as goal

abbrev pub invariant-loop-clause : goal.invariant-loop-clause
invariant-loop-clause l = least_with l.least.at
    (flat_map (clause_faults l.outline) (drop l.clause-index l.clauses)) ≡ least_with l.fn.least.at
    (flat_map (clause_faults l.outline) l.clauses)
