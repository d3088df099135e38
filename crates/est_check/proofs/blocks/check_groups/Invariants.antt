use Rattle.std.proofs.Common.{◌≡◌, drop}
use Rattle.rule_scope.specs.LeastSoFar.{least_with}
use Rattle.est_check.specs.inside.BlockParts.{groups_faults}
use Rattle.est_check.proofs.blocks.check_groups.Given as goal

abbrev pub invariant-loop-item : goal.invariant-loop-item
invariant-loop-item l = least_with l.least.at (groups_faults l.outline (drop l.item-index l.items))
    ≡ least_with l.fn.least.at (groups_faults l.outline l.items)
