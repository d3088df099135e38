use Rattle.std.specs.Prelude.{flat_map}
use Rattle.std.proofs.Common.{refl}
use Rattle.rule_scope.proofs.LeastLaws.{least_loop}
use Rattle.est_types.specs.DeclarationFaults.{constdef_faults}
use Rattle.est_types.proofs.sections.check_constdefs.Goals as goal

pub loop-item-preserved : goal.loop-item-preserved
loop-item-preserved c = least_loop (flat_map (constdef_faults c.args.outline.now))
    (constdef_faults c.args.outline.now) _ _ _ _ _ _ (λ y ys. refl) c.loop-item-test.true
    c.item-item.is c.in_ok-check_constdef.ensures c.loop-item.invariant
