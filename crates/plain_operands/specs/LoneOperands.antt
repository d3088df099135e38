-- The operand that an expression is, where it has no operator and no minus.
use Rattle.std.specs.Prelude.{List, [], ◌∷◌, Option, Some, None}
use Rattle.est_syntax.specs.declared.constant.Sign.{Sign}
use Rattle.est_syntax.specs.declared.constant.Sign.TheVariants.{Minus}
use Rattle.est_syntax.specs.declared.expression.Expr.{Expr, out-Expr}
use Rattle.est_syntax.specs.declared.expression.Factor.{Factor}
use Rattle.est_syntax.specs.declared.expression.ProductStep.{ProductStep}
use Rattle.est_syntax.specs.declared.expression.Relation.{Relation}
use Rattle.est_syntax.specs.declared.expression.Simple.{Simple, out-Simple}
use Rattle.est_syntax.specs.declared.expression.SumStep.{SumStep}
use Rattle.est_syntax.specs.declared.expression.Term.{Term, out-Term}

-- of a product, with these steps after its first operand
abbrev pub lone_product : Factor → List ProductStep → Option Factor
lone_product f [] = Some f
lone_product f (s ∷ ss) = None

abbrev pub lone_term : Term → Option Factor
lone_term t = lone_product (out-Term t).first (out-Term t).rest

-- of a sum, with these steps after its first product
abbrev pub lone_sum : Option Sign → Term → List SumStep → Option Factor
lone_sum (Some Minus) t ss = None
lone_sum _ t [] = lone_term t
lone_sum _ t (s ∷ ss) = None

abbrev pub lone_simple : Simple → Option Factor
lone_simple s = lone_sum (out-Simple s).sign (out-Simple s).first (out-Simple s).rest

-- of a sum, with a relation after it or none
abbrev pub lone_by : Simple → Option Relation → Option Factor
lone_by s None = lone_simple s
lone_by s (Some r) = None

abbrev pub lone_operand : Expr → Option Factor
lone_operand e = lone_by (out-Expr e).left (out-Expr e).relation
