use Rattle.std.proofs.Common.{◌≡◌}
use Rattle.plain_names.proofs.expression_names.+expression.Given as goal

abbrev pub invariant-exprs-loop-one : goal.invariant-exprs-loop-one
invariant-exprs-loop-one l = l.known ≡ l.fn.known

abbrev pub invariant-sum_steps-loop-step : goal.invariant-sum_steps-loop-step
invariant-sum_steps-loop-step l = l.known ≡ l.fn.known

abbrev pub invariant-product_steps-loop-step : goal.invariant-product_steps-loop-step
invariant-product_steps-loop-step l = l.known ≡ l.fn.known

abbrev pub invariant-members-loop-one : goal.invariant-members-loop-one
invariant-members-loop-one l = l.known ≡ l.fn.known

abbrev pub invariant-selectors-loop-one : goal.invariant-selectors-loop-one
invariant-selectors-loop-one l = l.known ≡ l.fn.known
