use Rattle.std.specs.Prelude.{flat_map}
use Rattle.std.proofs.Common.{◌≡◌, drop}
use Rattle.rule_scope.specs.LeastSoFar.{least_with}
use Rattle.est_check.specs.BlockFaults.{part_faults}
use Rattle.est_check.proofs.blocks.+part.Given as goal

abbrev pub invariant-check_parts-loop-part : goal.invariant-check_parts-loop-part
invariant-check_parts-loop-part l = least_with l.least.at
    (flat_map (part_faults l.outline) (drop l.part-index l.parts)) ≡ least_with l.fn.least.at
    (flat_map (part_faults l.outline) l.parts)
