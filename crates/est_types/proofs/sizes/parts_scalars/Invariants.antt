use Rattle.std.proofs.Common.{◌≡◌, drop}
use Rattle.est_types.specs.Scalars.{parts_scalars}
use Rattle.est_types.proofs.sizes.parts_scalars.Given as goal

abbrev pub invariant-loop-part : goal.invariant-loop-part
invariant-loop-part l = parts_scalars l.outline l.sum (drop l.part-index l.parts)
    ≡ parts_scalars l.outline 0 l.parts
