use Rattle.std.specs.Prelude.{flat_map}
use Rattle.std.proofs.Common.{◌≡◌, drop}
use Rattle.rule_scope.specs.LeastSoFar.{least_with}
use Rattle.est_types.specs.DeclarationFaults.{role_faults}
use Rattle.est_types.proofs.modules.check_roles.Given as goal

abbrev pub invariant-loop-used : goal.invariant-loop-used
invariant-loop-used l = least_with l.least.at (flat_map (role_faults l.outline l.channel)
    (drop l.used-index l.names)) ≡ least_with l.fn.least.at (flat_map (role_faults l.outline l.channel)
    l.names)
