use Rattle.std.specs.Prelude.{flat_map}
use Rattle.std.proofs.Common.{◌≡◌, drop}
use Rattle.rule_scope.specs.LeastSoFar.{least_with}
use Rattle.est_types.specs.DeclarationFaults.{part_faults}
use Rattle.est_types.specs.inside.DeclarationParts.{transitions_faults, groups_faults}
use Rattle.est_types.proofs.parts.+part.Given as goal

abbrev pub invariant-check_transitions-loop-item : goal.invariant-check_transitions-loop-item
invariant-check_transitions-loop-item l = least_with l.least.at (transitions_faults l.outline
    (drop l.item-index l.items)) ≡ least_with l.fn.least.at (transitions_faults l.outline l.items)

abbrev pub invariant-check_groups-loop-item : goal.invariant-check_groups-loop-item
invariant-check_groups-loop-item l = least_with l.least.at
    (groups_faults l.outline (drop l.item-index l.items)) ≡ least_with l.fn.least.at
    (groups_faults l.outline l.items)

abbrev pub invariant-check_parts-loop-part : goal.invariant-check_parts-loop-part
invariant-check_parts-loop-part l = least_with l.least.at (flat_map (part_faults l.outline l.owner)
    (drop l.part-index l.parts)) ≡ least_with l.fn.least.at (flat_map (part_faults l.outline l.owner) l.parts)
