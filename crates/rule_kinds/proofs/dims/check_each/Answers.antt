use Rattle.std.proofs.Common.{refl}
use Rattle.rule_scope.proofs.LeastLaws.{least_loop}
use Rattle.rule_kinds.specs.TypeTexts.{text_type}
use Rattle.rule_kinds.specs.Dims.{dims_after, with_dim, dim_faults, each_dim_faults}
use Rattle.rule_kinds.proofs.Turns.{after_loop}
use Rattle.rule_kinds.proofs.dims.check_each.Goals as goal

pub loop-dim-preserved : goal.loop-dim-preserved
loop-dim-preserved c = (
  after_loop (λ ts ks. dims_after c.args.outline.now ks ts)
      (λ ks t. with_dim ks (text_type c.args.outline.now t)) _ _ _ _ _ _ (λ y ys s. refl)
      c.loop-dim-test.true c.dim-item.is c.in_ok-kinds.ensures.kinds c.loop-dim.invariant.0,
  least_loop (each_dim_faults c.args.outline.now) (dim_faults c.args.outline.now) _ _ _ _ _ _
      (λ y ys. refl) c.loop-dim-test.true c.dim-item.is c.in_ok-kinds.ensures.faults
      c.loop-dim.invariant.1,
)
