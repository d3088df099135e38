use Rattle.std.proofs.Common.{◌≡◌, drop}
use Rattle.rule_scope.specs.LeastSoFar.{least_with}
use Rattle.rule_kinds.specs.Dims.{dims_after, dims_of, each_dim_faults}
use Rattle.rule_kinds.proofs.dims.check_each.Given as goal

abbrev pub invariant-loop-dim : goal.invariant-loop-dim
invariant-loop-dim l =
    (dims_after l.outline l.kinds (drop l.dim-index l.dims) ≡ dims_of l.outline l.dims)
    × (least_with l.least.at (each_dim_faults l.outline (drop l.dim-index l.dims))
    ≡ least_with l.fn.least.at (each_dim_faults l.outline l.dims))
