use Rattle.std.proofs.Common.{◌≡◌, drop}
use Rattle.rule_uses.specs.Closed.{all_free}
use Rattle.rule_uses.specs.NamesInExpressions.{exprs_names, members_names, product_steps_names}
use Rattle.rule_uses.specs.NamesInExpressions.{selectors_names, sum_steps_names}
use Rattle.rule_uses.proofs.expression.+expression.Given as goal

abbrev pub invariant-exprs-loop-one : goal.invariant-exprs-loop-one
invariant-exprs-loop-one l =
    all_free l.outline l.routine (exprs_names (drop l.one-index l.exprs))
    ≡ all_free l.outline l.routine (exprs_names l.exprs)

abbrev pub invariant-members-loop-one : goal.invariant-members-loop-one
invariant-members-loop-one l =
    all_free l.outline l.routine (members_names (drop l.one-index l.members))
    ≡ all_free l.outline l.routine (members_names l.members)

abbrev pub invariant-product_steps-loop-step : goal.invariant-product_steps-loop-step
invariant-product_steps-loop-step l =
    all_free l.outline l.routine (product_steps_names (drop l.step-index l.steps))
    ≡ all_free l.outline l.routine (product_steps_names l.steps)

abbrev pub invariant-selectors-loop-one : goal.invariant-selectors-loop-one
invariant-selectors-loop-one l =
    all_free l.outline l.routine (selectors_names (drop l.one-index l.selectors))
    ≡ all_free l.outline l.routine (selectors_names l.selectors)

abbrev pub invariant-sum_steps-loop-step : goal.invariant-sum_steps-loop-step
invariant-sum_steps-loop-step l =
    all_free l.outline l.routine (sum_steps_names (drop l.step-index l.steps))
    ≡ all_free l.outline l.routine (sum_steps_names l.steps)
