use Rattle.std.specs.Prelude.{flat_map}
use Rattle.std.proofs.Common.{refl}
use Rattle.rule_scope.proofs.LeastLaws.{least_loop}
use Rattle.est_types.specs.DeclarationFaults.{part_faults}
use Rattle.est_types.specs.inside.DeclarationParts.{transitions_faults, transition_faults}
use Rattle.est_types.specs.inside.DeclarationParts.{groups_faults, group_faults}
use Rattle.est_types.proofs.parts.+part.Goals as goal

pub check_transitions-loop-item-preserved : goal.check_transitions-loop-item-preserved
check_transitions-loop-item-preserved t c = least_loop (transitions_faults c.args.outline.now)
    (transition_faults c.args.outline.now) _ _ _ _ _ _ (λ y ys. refl) c.loop-item-test.true
    c.item-item.is c.in_ok-check_transition.ensures c.loop-item.invariant

pub check_groups-loop-item-preserved : goal.check_groups-loop-item-preserved
check_groups-loop-item-preserved t c = least_loop (groups_faults c.args.outline.now)
    (group_faults c.args.outline.now) _ _ _ _ _ _ (λ y ys. refl) c.loop-item-test.true
    c.item-item.is c.in_ok-check_group.ensures c.loop-item.invariant

pub check_parts-loop-part-preserved : goal.check_parts-loop-part-preserved
check_parts-loop-part-preserved t c = least_loop (flat_map (part_faults c.args.outline.now c.args.owner))
    (part_faults c.args.outline.now c.args.owner) _ _ _ _ _ _ (λ y ys. refl) c.loop-part-test.true
    c.part-item.is c.in_ok-check_part.ensures c.loop-part.invariant
