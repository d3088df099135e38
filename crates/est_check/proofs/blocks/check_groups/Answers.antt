use Rattle.std.proofs.Common.{refl}
use Rattle.rule_scope.proofs.LeastLaws.{least_loop}
use Rattle.est_check.specs.inside.BlockParts.{groups_faults, group_faults}
use Rattle.est_check.proofs.blocks.check_groups.Goals as goal

pub loop-item-preserved : goal.loop-item-preserved
loop-item-preserved c = least_loop (groups_faults c.args.outline.now)
    (group_faults c.args.outline.now) _ _ _ _ _ _ (λ y ys. refl) c.loop-item-test.true
    c.item-item.is c.in_ok-check_group.ensures c.loop-item.invariant
