-- An expression that is an operand and nothing else: what it yields, and what it weighs.
use Rattle.std.proofs.Common.{◌≡◌, refl, ap, ◌∙◌, ℕ, ◌+◌, ◌≤◌, List, [], ◌∷◌}
use Rattle.std.proofs.Common.{Option, Some, None, arith}
use Rattle.est_syntax.specs.declared.constant.Sign.{Sign}
use Rattle.est_syntax.specs.declared.constant.Sign.TheVariants.{Plus, Minus}
use Rattle.est_syntax.specs.declared.expression.Expr.{Expr, out-Expr}
use Rattle.est_syntax.specs.declared.expression.Factor.{Factor}
use Rattle.est_syntax.specs.declared.expression.ProductStep.{ProductStep}
use Rattle.est_syntax.specs.declared.expression.Relation.{Relation}
use Rattle.est_syntax.specs.declared.expression.Simple.{Simple, out-Simple}
use Rattle.est_syntax.specs.declared.expression.SumStep.{SumStep}
use Rattle.est_syntax.specs.declared.expression.Term.{Term, out-Term}
use Rattle.est_values.specs.declared.value.Value.{Value}
use Rattle.mean_blocks.specs.Outcome.{Outcome, Done, Fault, Limit, onward, ◌>>=◌, give}
use Rattle.mean_blocks.specs.ValueOperators.{signed}
use Rattle.mean_blocks.specs.WorkingState.{View}
use Rattle.mean_blocks.specs.ExpressionValues.{value_of, simple_of, term_of, factor_of}
use Rattle.mean_blocks.specs.ExpressionValues.{related_in, sums_in, products_in}
use Rattle.mean_blocks.proofs.ExpressionLayers.{value_at, simple_at, term_at}
use Rattle.plain_effects.specs.plain_operands.LoneOperands.{lone_product, lone_term, lone_sum}
use Rattle.plain_effects.specs.plain_operands.LoneOperands.{lone_by}
use Rattle.plain_effects.specs.plain_operands.LoneOperands.{lone_operand}
use Rattle.plain_blocks.proofs.Weights.{expr_weight, simple_weight, term_weight, factor_weight}
use Rattle.plain_blocks.proofs.Weights.{expr_weighs, simple_weighs, term_weighs}

none_some : {P : Type 0} (f : Factor) → ◌≡◌ {A = Option Factor} None (Some f) → P
none_some f h = absurd (cc)

one_some : (f g : Factor) → ◌≡◌ {A = Option Factor} (Some f) (Some g) → f ≡ g
one_some f g h = cc

-- what gives a thing at last, and nothing else after it
onward_give : {S A : Type 0} (o : Outcome S A) → onward o give ≡ o
onward_give (Done a s) = refl
onward_give (Fault f) = refl
onward_give Limit = refl

-- WHAT IT YIELDS

product_value : (x : Factor) (ss : List ProductStep) (f : Factor) (v : View) (n : ℕ)
    → lone_product x ss ≡ Some f
    → (factor_of x v >>= λ a. products_in ss a v) n ≡ factor_of f v n
product_value x [] f v n h =
    onward_give (factor_of x v n) ∙ ap (λ g. factor_of g v n) (one_some x f h)
product_value x (s ∷ ss) f v n h = none_some f h

bare_sum_value : (t : Term) (ss : List SumStep) (f : Factor) (v : View) (n : ℕ)
    → lone_sum None t ss ≡ Some f
    → (term_of t v >>= λ a. give a >>= λ c. sums_in ss c v) n ≡ factor_of f v n
bare_sum_value t [] f v n h =
    onward_give (term_of t v n) ∙ term_at t v n
    ∙ product_value (out-Term t).first (out-Term t).rest f v n h
bare_sum_value t (s ∷ ss) f v n h = none_some f h

sum_value : (sign : Option Sign) (t : Term) (ss : List SumStep) (f : Factor) (v : View) (n : ℕ)
    → lone_sum sign t ss ≡ Some f
    → (term_of t v >>= λ a. signed sign a >>= λ c. sums_in ss c v) n ≡ factor_of f v n
sum_value None t ss f v n h = bare_sum_value t ss f v n h
sum_value (Some Plus) t [] f v n h = bare_sum_value t [] f v n h
sum_value (Some Plus) t (s ∷ ss) f v n h = none_some f h
sum_value (Some Minus) t ss f v n h = none_some f h

relation_value : (s : Simple) (r : Option Relation) (f : Factor) (v : View) (n : ℕ)
    → lone_by s r ≡ Some f
    → (simple_of s v >>= λ a. related_in r a v) n ≡ factor_of f v n
relation_value s None f v n h =
    onward_give (simple_of s v n) ∙ simple_at s v n
    ∙ sum_value (out-Simple s).sign (out-Simple s).first (out-Simple s).rest f v n h
relation_value s (Some r) f v n h = none_some f h

pub lone_value : (e : Expr) (f : Factor) (v : View) (n : ℕ) → lone_operand e ≡ Some f
    → value_of e v n ≡ factor_of f v n
lone_value e f v n h = value_at e v n
    ∙ relation_value (out-Expr e).left (out-Expr e).relation f v n h

-- WHAT IT WEIGHS

product_weighs : (x : Factor) (ss : List ProductStep) (f : Factor) → lone_product x ss ≡ Some f
    → factor_weight f ≡ factor_weight x
product_weighs x [] f h = let e : f ≡ x = cc in ap factor_weight e
product_weighs x (s ∷ ss) f h = none_some f h

lone_term_weighs : (t : Term) (f : Factor) → lone_term t ≡ Some f
    → factor_weight f + 1 ≤ term_weight t
lone_term_weighs t f h = omega (
  arith,
  term_weighs t,
  product_weighs (out-Term t).first (out-Term t).rest f h,
)

sum_weighs : (sign : Option Sign) (t : Term) (ss : List SumStep) (f : Factor)
    → lone_sum sign t ss ≡ Some f → factor_weight f + 1 ≤ term_weight t
sum_weighs None t [] f h = lone_term_weighs t f h
sum_weighs None t (s ∷ ss) f h = none_some f h
sum_weighs (Some Plus) t [] f h = lone_term_weighs t f h
sum_weighs (Some Plus) t (s ∷ ss) f h = none_some f h
sum_weighs (Some Minus) t ss f h = none_some f h

relation_weighs : (s : Simple) (r : Option Relation) (f : Factor) → lone_by s r ≡ Some f
    → factor_weight f + 2 ≤ simple_weight s
relation_weighs s None f h = omega (
  arith,
  simple_weighs s,
  sum_weighs (out-Simple s).sign (out-Simple s).first (out-Simple s).rest f h,
)
relation_weighs s (Some r) f h = none_some f h

pub lone_weighs : (e : Expr) (f : Factor) → lone_operand e ≡ Some f
    → factor_weight f + 3 ≤ expr_weight e
lone_weighs e f h = omega (
  arith,
  expr_weighs e,
  relation_weighs (out-Expr e).left (out-Expr e).relation f h,
)
