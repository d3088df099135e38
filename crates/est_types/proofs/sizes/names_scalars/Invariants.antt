use Rattle.std.proofs.Common.{◌≡◌, drop}
use Rattle.est_types.specs.Scalars.{names_scalars}
use Rattle.est_types.proofs.sizes.names_scalars.Given as goal

abbrev pub invariant-loop-used : goal.invariant-loop-used
invariant-loop-used l = names_scalars l.outline l.sum (drop l.used-index l.names)
    ≡ names_scalars l.outline l.fn.sum l.names
