use Rattle.std.specs.Prelude.{flat_map}
use Rattle.std.proofs.Common.{refl}
use Rattle.rule_scope.proofs.LeastLaws.{least_loop}
use Rattle.est_check.specs.Clauses.{clause_faults}
use Rattle.est_check.proofs.clauses.check_clauses.Goals as goal

pub loop-clause-preserved : goal.loop-clause-preserved
loop-clause-preserved c = least_loop (flat_map (clause_faults c.args.outline.now))
    (clause_faults c.args.outline.now) _ _ _ _ _ _ (λ y ys. refl) c.loop-clause-test.true
    c.clause-item.is c.in_ok-check_clause.ensures c.loop-clause.invariant
