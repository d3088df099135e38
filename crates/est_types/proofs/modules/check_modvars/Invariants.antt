use Rattle.std.specs.Prelude.{flat_map}
use Rattle.std.proofs.Common.{◌≡◌, drop}
use Rattle.rule_scope.specs.LeastSoFar.{least_with}
use Rattle.est_types.specs.DeclarationFaults.{modvar_faults}
use Rattle.est_types.proofs.modules.check_modvars.Given as goal

abbrev pub invariant-loop-item : goal.invariant-loop-item
invariant-loop-item l = least_with l.least.at (flat_map (modvar_faults l.outline l.owner)
    (drop l.item-index l.items)) ≡ least_with l.fn.least.at (flat_map (modvar_faults l.outline l.owner)
    l.items)
