use Rattle.std.proofs.Common.{◌≡◌, drop}
use Rattle.est_types.specs.Scalars.{vars_scalars}
use Rattle.est_types.proofs.sizes.vars_scalars.Given as goal

abbrev pub invariant-loop-var : goal.invariant-loop-var
invariant-loop-var l = vars_scalars l.outline l.sum (drop l.var-index l.vars)
    ≡ vars_scalars l.outline l.fn.sum l.vars
