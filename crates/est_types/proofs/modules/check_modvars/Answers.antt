use Rattle.std.specs.Prelude.{flat_map}
use Rattle.std.proofs.Common.{refl}
use Rattle.rule_scope.proofs.LeastLaws.{least_loop}
use Rattle.est_types.specs.DeclarationFaults.{modvar_faults}
use Rattle.est_types.proofs.modules.check_modvars.Goals as goal

pub loop-item-preserved : goal.loop-item-preserved
loop-item-preserved c = least_loop (flat_map (modvar_faults c.args.outline.now c.args.owner))
    (modvar_faults c.args.outline.now c.args.owner) _ _ _ _ _ _ (λ y ys. refl) c.loop-item-test.true
    c.item-item.is c.in_ok-check_modvar.ensures c.loop-item.invariant
