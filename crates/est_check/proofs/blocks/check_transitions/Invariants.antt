use Rattle.std.proofs.Common.{◌≡◌, drop}
use Rattle.rule_scope.specs.LeastSoFar.{least_with}
use Rattle.est_check.specs.inside.BlockParts.{transitions_faults}
use Rattle.est_check.proofs.blocks.check_transitions.Given as goal

abbrev pub invariant-loop-item : goal.invariant-loop-item
invariant-loop-item l = least_with l.least.at (transitions_faults l.outline l.context
    (drop l.item-index l.items)) ≡ least_with l.fn.least.at (transitions_faults l.outline
    l.fn.context l.items)
