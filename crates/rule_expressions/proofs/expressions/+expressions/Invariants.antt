use Rattle.std.specs.Prelude.{flat_map}
use Rattle.std.proofs.Common.{◌≡◌, ◌&&◌, Some, None, drop}
use Rattle.rule_scope.specs.LeastSoFar.{least_with}
use Rattle.est_values.specs.Types.{yielded, Set}
use Rattle.rule_expressions.specs.Selections.{selects}
use Rattle.rule_expressions.specs.Expressions.{summed, multiplied, are_taken, components}
use Rattle.rule_expressions.specs.Expressions.{selected, members, summed_faults}
use Rattle.rule_expressions.specs.Expressions.{multiplied_faults, expr_faults, are_taken_faults}
use Rattle.rule_expressions.specs.Expressions.{components_faults, selected_faults, members_faults}
use Rattle.rule_expressions.proofs.expressions.+expressions.Given as goal

abbrev pub invariant-check_components-loop-expr : goal.invariant-check_components-loop-expr
invariant-check_components-loop-expr l =
    (components l.outline (selects l.selected) (drop l.expr-index l.exprs) ≡ components l.outline
    (selects l.fn.array) l.exprs)
    × (least_with l.least.at (components_faults l.outline (selects l.selected) l.name
    (drop l.expr-index l.exprs))
    ≡ least_with l.fn.least.at (components_faults l.outline (selects l.fn.array) l.name l.exprs))

abbrev pub invariant-check_exprs-loop-expr : goal.invariant-check_exprs-loop-expr
invariant-check_exprs-loop-expr l =
    least_with l.least.at (flat_map (expr_faults l.outline) (drop l.expr-index l.exprs))
    ≡ least_with l.fn.least.at (flat_map (expr_faults l.outline) l.exprs)

abbrev pub invariant-check_members-loop-member : goal.invariant-check_members-loop-member
invariant-check_members-loop-member l =
    (members l.outline (yielded l.set) (drop l.member-index l.list) ≡ members l.outline
    (Some (Set None)) l.list)
    × (least_with l.least.at (members_faults l.outline (yielded l.set) (drop l.member-index l.list))
    ≡ least_with l.fn.least.at (members_faults l.outline (Some (Set None)) l.list))

abbrev pub invariant-check_product_steps-loop-step : goal.invariant-check_product_steps-loop-step
invariant-check_product_steps-loop-step l =
    (multiplied l.outline (yielded l.kind) (drop l.step-index l.steps) ≡ multiplied l.outline
    (yielded l.fn.first) l.steps)
    × (least_with l.least.at (multiplied_faults l.outline (yielded l.kind) l.place
    (drop l.step-index l.steps))
    ≡ least_with l.fn.least.at (multiplied_faults l.outline (yielded l.fn.first) l.place l.steps))

abbrev pub invariant-check_rest-loop-number : goal.invariant-check_rest-loop-number
invariant-check_rest-loop-number l =
    ((l.taken && are_taken l.outline l.receiver l.number (drop l.number l.exprs))
    ≡ are_taken l.outline l.receiver l.from (drop l.from l.exprs))
    × (least_with l.least.at (are_taken_faults l.outline l.receiver l.number l.name
    (drop l.number l.exprs))
    ≡ least_with l.fn.least.at (are_taken_faults l.outline l.receiver l.from l.name
    (drop l.from l.exprs)))

abbrev pub invariant-check_selectors-loop-selector : goal.invariant-check_selectors-loop-selector
invariant-check_selectors-loop-selector l =
    (selected l.outline (selects l.selected) (drop l.selector-index l.path) ≡ selected l.outline
    (selects l.fn.start) l.path)
    × (least_with l.least.at (selected_faults l.outline (selects l.selected) l.name
    (drop l.selector-index l.path))
    ≡ least_with l.fn.least.at (selected_faults l.outline (selects l.fn.start) l.name l.path))

abbrev pub invariant-check_sum_steps-loop-step : goal.invariant-check_sum_steps-loop-step
invariant-check_sum_steps-loop-step l =
    (summed l.outline (yielded l.kind) (drop l.step-index l.steps) ≡ summed l.outline
    (yielded l.fn.first) l.steps)
    × (least_with l.least.at (summed_faults l.outline (yielded l.kind) l.place
    (drop l.step-index l.steps))
    ≡ least_with l.fn.least.at (summed_faults l.outline (yielded l.fn.first) l.place l.steps))
