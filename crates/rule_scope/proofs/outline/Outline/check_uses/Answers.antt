use Rattle.std.proofs.Common.{refl}
use Rattle.rule_scope.specs.Uses.{uses_faults, use_faults}
use Rattle.rule_scope.proofs.LeastLaws.{least_loop}
use Rattle.rule_scope.proofs.outline.Outline.check_uses.Goals as goal

pub loop-used-preserved : goal.loop-used-preserved
loop-used-preserved c = least_loop (uses_faults c.args.self.now c.args.sort)
    (use_faults c.args.self.now c.args.sort) _ _ _ _ _ _ (λ y ys. refl) c.loop-used-test.true
    c.used-item.is c.check_use.ensures c.loop-used.invariant
