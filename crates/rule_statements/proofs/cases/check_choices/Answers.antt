use Rattle.std.proofs.Common.{refl}
use Rattle.rule_expressions.proofs.Turns.{after_loop, broken_loop}
use Rattle.rule_statements.specs.Cases.{with_constant, with_constants, choice_faults}
use Rattle.rule_statements.specs.Cases.{choices_faults}
use Rattle.rule_statements.proofs.cases.check_choices.Goals as goal

pub loop-constant-preserved : goal.loop-constant-preserved
loop-constant-preserved c = (
  after_loop (with_constants c.args.outline.now c.args.host) (with_constant c.args.outline.now
      c.args.host) _ _ _ _ _ _ (λ s y ys. refl) c.loop-constant-test.true c.constant-item.is
      c.in_ok-check_choice.ensures.chosen c.loop-constant.invariant.0,
  broken_loop (choices_faults c.args.outline.now c.args.host) (choice_faults c.args.outline.now
      c.args.host) (with_constant c.args.outline.now c.args.host) _ _ _ _ _ _ _ _ (λ s y ys. refl)
      c.loop-constant-test.true c.constant-item.is c.in_ok-check_choice.ensures.chosen
      c.in_ok-check_choice.ensures.faults c.loop-constant.invariant.1,
)
