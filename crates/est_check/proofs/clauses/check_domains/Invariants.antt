use Rattle.std.specs.Prelude.{flat_map}
use Rattle.std.proofs.Common.{◌≡◌, drop, Some}
use Rattle.rule_scope.specs.LeastSoFar.{least_with}
use Rattle.est_check.specs.Clauses.{tuples, domain_faults}
use Rattle.est_check.proofs.clauses.check_domains.Given as goal

abbrev pub invariant-loop-def : goal.invariant-loop-def
invariant-loop-def l =
    (tuples l.outline l.number (drop l.def-index l.defs) ≡ tuples l.outline (Some 1) l.defs)
    × (least_with l.least.at (flat_map (domain_faults l.outline) (drop l.def-index l.defs))
    ≡ least_with l.fn.least.at (flat_map (domain_faults l.outline) l.defs))
