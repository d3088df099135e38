use Rattle.std.specs.Prelude.{flat_map}
use Rattle.std.proofs.Common.{refl}
use Rattle.rule_scope.proofs.LeastLaws.{least_loop}
use Rattle.est_types.specs.DeclarationFaults.{role_faults}
use Rattle.est_types.proofs.modules.check_roles.Goals as goal

pub loop-used-preserved : goal.loop-used-preserved
loop-used-preserved c = least_loop (flat_map (role_faults c.args.outline.now c.args.channel))
    (role_faults c.args.outline.now c.args.channel) _ _ _ _ _ _ (λ y ys. refl) c.loop-used-test.true
    c.used-item.is c.check_role.ensures c.loop-used.invariant
