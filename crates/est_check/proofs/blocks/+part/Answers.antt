use Rattle.std.specs.Prelude.{flat_map}
use Rattle.std.proofs.Common.{refl}
use Rattle.rule_scope.proofs.LeastLaws.{least_loop}
use Rattle.est_check.specs.BlockFaults.{part_faults}
use Rattle.est_check.proofs.blocks.+part.Goals as goal

pub check_parts-loop-part-preserved : goal.check_parts-loop-part-preserved
check_parts-loop-part-preserved t c = least_loop (flat_map (part_faults c.args.outline.now))
    (part_faults c.args.outline.now) _ _ _ _ _ _ (λ y ys. refl) c.loop-part-test.true c.part-item.is
    c.in_ok-check_part.ensures c.loop-part.invariant
