use Rattle.std.proofs.Common.{sym, subst}
use Rattle.est_syntax.specs.Least.{IsIn, IsLeast}
use Rattle.rule_scope.proofs.LeastLaws.{least_is}
use Rattle.est_check.specs.LeastFault.{specification_faults}
use Rattle.est_check.specs.LeastFault.{IsLeastFault}
use Rattle.est_check.proofs.rules.judge.Goals as goal

pub returns : goal.returns
unfolding IsLeastFault
returns c =
    subst (IsLeast (λ f. IsIn f (specification_faults c.args.spec.now)))
    (sym c.in_ok-fault.ensures) (least_is (specification_faults c.args.spec.now))
