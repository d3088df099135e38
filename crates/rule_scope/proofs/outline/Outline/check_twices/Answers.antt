use Rattle.std.proofs.Common.{refl}
use Rattle.rule_scope.specs.Uses.{twices_faults, twice_faults}
use Rattle.rule_scope.proofs.LeastLaws.{least_loop}
use Rattle.rule_scope.proofs.outline.Outline.check_twices.Goals as goal

pub loop-used-preserved : goal.loop-used-preserved
loop-used-preserved c = least_loop (twices_faults c.args.self.now) (twice_faults c.args.self.now) _
    _ _ _ _ _ (λ y ys. refl) c.loop-used-test.true c.used-item.is c.check_twice.ensures
    c.loop-used.invariant
