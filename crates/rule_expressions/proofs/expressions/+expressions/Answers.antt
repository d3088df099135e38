use Rattle.std.specs.Prelude.{flat_map}
use Rattle.std.proofs.Common.{refl}
use Rattle.rule_scope.proofs.LeastLaws.{least_loop}
use Rattle.rule_expressions.specs.Variables.{component}
use Rattle.rule_expressions.specs.Expressions.{expr_type, with_term, summed, with_factor}
use Rattle.rule_expressions.specs.Expressions.{multiplied, components, selection, selected}
use Rattle.rule_expressions.specs.Expressions.{with_members, members, expr_faults, with_term_faults}
use Rattle.rule_expressions.specs.Expressions.{summed_faults, with_factor_faults, multiplied_faults}
use Rattle.rule_expressions.specs.Expressions.{one_component_faults}
use Rattle.rule_expressions.specs.Expressions.{components_faults, selection_faults, selected_faults}
use Rattle.rule_expressions.specs.Expressions.{with_members_faults, members_faults}
use Rattle.rule_expressions.proofs.Rows.{group_yields, variable_gives, call_gives, call_breaks}
use Rattle.rule_expressions.proofs.Turns.{after_loop, broken_loop, taken_turn, taken_broken_turn}
use Rattle.rule_expressions.proofs.expressions.+expressions.Goals as goal

pub check_exprs-loop-expr-preserved : goal.check_exprs-loop-expr-preserved
check_exprs-loop-expr-preserved t c =
    least_loop (flat_map (expr_faults c.args.outline.now)) (expr_faults c.args.outline.now) _ _ _ _ _ _
    (λ y ys. refl) c.loop-expr-test.true c.expr-item.is c.check_alone.ensures
    c.loop-expr.invariant

pub check_factor-returns-in-Group-clause-kind : goal.check_factor-returns-in-Group-clause-kind
check_factor-returns-in-Group-clause-kind t c = group_yields _ _ _ _ _ _ c.in-Group.is c.get.ensures
    c.check_expr.ensures.kind

pub check_factor-returns-in-Variable-clause-kind :
    goal.check_factor-returns-in-Variable-clause-kind
check_factor-returns-in-Variable-clause-kind t c = variable_gives _ _ _ _ _ _ _ c.in-Variable.is
    c.as_slice-in-Variable.ensures c.check_variable.ensures.kind

pub check_factor-returns-in-Call-clause-kind : goal.check_factor-returns-in-Call-clause-kind
check_factor-returns-in-Call-clause-kind t c = call_gives _ _ _ _ _ _ _ c.in-Call.is
    c.as_slice-in-Call.ensures c.check_call.ensures.kind

pub check_factor-returns-in-Call-clause-faults : goal.check_factor-returns-in-Call-clause-faults
check_factor-returns-in-Call-clause-faults t c = call_breaks _ _ _ _ _ _ _ _ c.in-Call.is
    c.as_slice-in-Call.ensures c.check_call.ensures.faults

pub check_rest-loop-number-preserved : goal.check_rest-loop-number-preserved
check_rest-loop-number-preserved t c = (
  taken_turn c.args.outline.now _ _ _ _ _ _ _ c.loop-number-test.true c.index-exprs-number.is
      c.check_numbered-taken.ensures.taken c.loop-number.invariant.0,
  taken_broken_turn c.args.outline.now _ _ _ _ _ _ _ _ c.loop-number-test.true
      c.index-exprs-number.is c.check_numbered-taken.ensures.faults c.loop-number.invariant.1,
)

pub check_sum_steps-loop-step-preserved : goal.check_sum_steps-loop-step-preserved
check_sum_steps-loop-step-preserved t c = (
  after_loop (summed c.args.outline.now) (with_term c.args.outline.now) _ _ _ _ _ _ (λ s y ys. refl)
      c.loop-step-test.true c.step-item.is c.check_sum_step-kind.ensures.kind
      c.loop-step.invariant.0,
  broken_loop (λ s xs. summed_faults c.args.outline.now s c.args.place xs)
      (λ s x. with_term_faults c.args.outline.now s c.args.place x) (with_term c.args.outline.now) _
      _ _ _ _ _ _ _ (λ s y ys. refl) c.loop-step-test.true c.step-item.is
      c.check_sum_step-kind.ensures.kind c.check_sum_step-kind.ensures.faults
      c.loop-step.invariant.1,
)

pub check_product_steps-loop-step-preserved : goal.check_product_steps-loop-step-preserved
check_product_steps-loop-step-preserved t c = (
  after_loop (multiplied c.args.outline.now) (with_factor c.args.outline.now) _ _ _ _ _ _
      (λ s y ys. refl) c.loop-step-test.true c.step-item.is c.check_product_step-kind.ensures.kind
      c.loop-step.invariant.0,
  broken_loop (λ s xs. multiplied_faults c.args.outline.now s c.args.place xs)
      (λ s x. with_factor_faults c.args.outline.now s c.args.place x)
      (with_factor c.args.outline.now) _ _ _ _ _ _ _ _ (λ s y ys. refl) c.loop-step-test.true
      c.step-item.is c.check_product_step-kind.ensures.kind c.check_product_step-kind.ensures.faults
      c.loop-step.invariant.1,
)

pub check_members-loop-member-preserved : goal.check_members-loop-member-preserved
check_members-loop-member-preserved t c = (
  after_loop (members c.args.outline.now) (with_members c.args.outline.now) _ _ _ _ _ _
      (λ s y ys. refl) c.loop-member-test.true c.member-item.is c.check_member-set.ensures.kind
      c.loop-member.invariant.0,
  broken_loop (members_faults c.args.outline.now) (with_members_faults c.args.outline.now)
      (with_members c.args.outline.now) _ _ _ _ _ _ _ _ (λ s y ys. refl) c.loop-member-test.true
      c.member-item.is c.check_member-set.ensures.kind c.check_member-set.ensures.faults
      c.loop-member.invariant.1,
)

pub check_selectors-loop-selector-preserved : goal.check_selectors-loop-selector-preserved
check_selectors-loop-selector-preserved t c = (
  after_loop (selected c.args.outline.now) (selection c.args.outline.now) _ _ _ _ _ _
      (λ s y ys. refl) c.loop-selector-test.true c.selector-item.is
      c.check_selector-selected.ensures.selection c.loop-selector.invariant.0,
  broken_loop (λ s xs. selected_faults c.args.outline.now s c.args.name xs)
      (λ s x. selection_faults c.args.outline.now s c.args.name x) (selection c.args.outline.now) _
      _ _ _ _ _ _ _ (λ s y ys. refl) c.loop-selector-test.true c.selector-item.is
      c.check_selector-selected.ensures.selection c.check_selector-selected.ensures.faults
      c.loop-selector.invariant.1,
)

pub check_components-loop-expr-preserved : goal.check_components-loop-expr-preserved
check_components-loop-expr-preserved t c = (
  after_loop (components c.args.outline.now) (λ s e. component s (expr_type c.args.outline.now e)) _
      _ _ _ _ _ (λ s y ys. refl) c.loop-expr-test.true c.expr-item.is
      c.check_component-selected.ensures.selection c.loop-expr.invariant.0,
  broken_loop (λ s xs. components_faults c.args.outline.now s c.args.name xs)
      (λ s e. one_component_faults c.args.outline.now s c.args.name e)
      (λ s e. component s (expr_type c.args.outline.now e)) _ _ _ _ _ _ _ _ (λ s y ys. refl)
      c.loop-expr-test.true c.expr-item.is c.check_component-selected.ensures.selection
      c.check_component-selected.ensures.faults c.loop-expr.invariant.1,
)
