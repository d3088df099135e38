use Rattle.std.specs.Prelude.{flat_map}
use Rattle.std.proofs.Common.{refl}
use Rattle.rule_scope.proofs.LeastLaws.{least_loop}
use Rattle.est_check.specs.Clauses.{state_faults}
use Rattle.est_check.proofs.clauses.check_states.Goals as goal

pub loop-used-preserved : goal.loop-used-preserved
loop-used-preserved c = least_loop (flat_map (state_faults c.args.outline.now))
    (state_faults c.args.outline.now) _ _ _ _ _ _ (λ y ys. refl) c.loop-used-test.true
    c.used-item.is c.check_state.ensures c.loop-used.invariant
