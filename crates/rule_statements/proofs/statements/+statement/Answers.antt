use Rattle.std.specs.Prelude.{flat_map}
use Rattle.std.proofs.Common.{◌≡◌, refl, sym, subst, OnOk}
use Rattle.std.proofs.lemmas.Result.{on_ok_weaker}
use Rattle.est_syntax.specs.declared.statement.Arm.{Arm}
use Rattle.rule_scope.specs.LeastSoFar.{least_with}
use Rattle.rule_scope.proofs.LeastLaws.{least_loop}
use Rattle.rule_statements.specs.Cases.{with_constants}
use Rattle.rule_statements.specs.Statements.{statement_faults}
use Rattle.rule_statements.specs.Statements.{arm_faults, arms_faults}
use Rattle.rule_expressions.proofs.Turns.{broken_loop}
use Rattle.rule_statements.proofs.StatementRows.{all_at, if_least, for_least}
use Rattle.rule_statements.proofs.statements.+statement.Goals as goal

pub check_statement-returns-in_ok-check_guarded-in-If :
    goal.check_statement-returns-in_ok-check_guarded-in-If
check_statement-returns-in_ok-check_guarded-in-If t c =
    on_ok_weaker c.check_optional.result
    (if_least c.args.outline.now c.args.function c.args.loops.now _ _ _ _ _ _ _ _ c.in-If.is
    c.in_ok-check_guarded-in-If.ensures)
    c.check_optional.ensures

pub check_statement-returns-in-For : goal.check_statement-returns-in-For
check_statement-returns-in-For t c =
    on_ok_weaker c.check_turn.result
    (for_least c.args.outline.now c.args.function c.args.loops.now _ _ _ _ _ _ _ _ _ _ c.in-For.is
    c.check_for.ensures)
    c.check_turn.ensures

pub check_statement-returns-in-All : goal.check_statement-returns-in-All
check_statement-returns-in-All t c =
    subst (λ fs. OnOk c.check_all.result (c.check_all.new.least.at ≡ least_with c.args.least.now.at
    fs))
    (sym (all_at c.args.outline.now c.args.function c.args.loops.now _ _ _ _ _ c.in-All.is))
    c.check_all.ensures

pub check_statements-loop-statement-preserved : goal.check_statements-loop-statement-preserved
check_statements-loop-statement-preserved t c = least_loop (flat_map (statement_faults c.args.outline.now c.args.function c.args.loops.now)) (statement_faults c.args.outline.now c.args.function
    c.args.loops.now) _ _ _ _ _ _ (λ y ys. refl) c.loop-statement-test.true c.statement-item.is
    c.in_ok-check_statement.ensures c.loop-statement.invariant

pub check_arms-loop-arm-preserved : goal.check_arms-loop-arm-preserved
check_arms-loop-arm-preserved t c = broken_loop (arms_faults c.args.outline.now c.args.function
    c.args.loops.now c.args.host) (arm_faults c.args.outline.now c.args.function c.args.loops.now
    c.args.host) (λ seen (a : Arm). with_constants c.args.outline.now c.args.host seen a.constants)
    _ _ _ _ _ _ _ _ (λ s y ys. refl) c.loop-arm-test.true c.arm-item.is
    c.in_ok-check_arm.ensures.chosen c.in_ok-check_arm.ensures.faults c.loop-arm.invariant
