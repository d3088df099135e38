-- An operator on a value and a right operand, step by step.
use Rattle.std.proofs.Common.{◌≡◌, ◌∙◌, ℕ}
use Rattle.std.specs.Prelude.{if◌then◌else◌}
use Rattle.est_syntax.specs.declared.expression.ProductStep.{ProductStep}
use Rattle.est_syntax.specs.declared.expression.Relation.{Relation, out-Relation}
use Rattle.est_syntax.specs.declared.expression.SumStep.{SumStep, out-SumStep}
use Rattle.est_values.specs.declared.value.Value.{Value}
use Rattle.plain_values.specs.JoinedValues.{stops}
use Rattle.plain_values.proofs.JoinedOperators.{joined_at, after_both}
use Rattle.mean_blocks.specs.ExpressionValues.{related, with_term, simple_of, term_of, factor_of}
use Rattle.mean_blocks.specs.Outcome.{onward, give, lift}
use Rattle.mean_blocks.specs.WorkingState.{View}
use Rattle.mean_blocks.proofs.ExpressionLayers.{related_at, with_term_at}
use Rattle.plain_effects.specs.plain_operands.ExpressionSteps.{with_factor}

pub related_step : (r : Relation) (a : Value) (v : View) (n : ℕ) → related r a v n
    ≡ onward (lift (stops (out-Relation r).operator a) n) (λ t. if t then give a
    else after_both (out-Relation r).operator a (simple_of (out-Relation r).right v))
related_step r a v n = related_at r a v n
    ∙ joined_at (out-Relation r).operator a (simple_of (out-Relation r).right v) n

pub with_term_step : (s : SumStep) (a : Value) (v : View) (n : ℕ) → with_term s a v n
    ≡ onward (lift (stops (out-SumStep s).operator a) n) (λ t. if t then give a
    else after_both (out-SumStep s).operator a (term_of (out-SumStep s).right v))
with_term_step s a v n = with_term_at s a v n
    ∙ joined_at (out-SumStep s).operator a (term_of (out-SumStep s).right v) n

pub with_factor_step : (s : ProductStep) (a : Value) (v : View) (n : ℕ) → with_factor s a v n
    ≡ onward (lift (stops s.operator a) n) (λ t. if t then give a
    else after_both s.operator a (factor_of s.right v))
with_factor_step s a v n = joined_at s.operator a (factor_of s.right v) n
