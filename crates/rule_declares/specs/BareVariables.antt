-- Expressions that are a variable and nothing else (ISO 7185, 6.6.3.3).
use Rattle.std.specs.Prelude.{List, [], ◌∷◌, Option, Some, None}
use Rattle.std.specs.Option.{option_map}
use Rattle.est_syntax.specs.declared.constant.Sign.{Sign}
use Rattle.est_syntax.specs.declared.expression.Expr.{Expr, out-Expr}
use Rattle.est_syntax.specs.declared.expression.Factor.{Factor, out-Factor}
use Rattle.est_syntax.specs.declared.expression.Factor.TheOpen as opened
use Rattle.est_syntax.specs.declared.expression.Member.{Member}
use Rattle.est_syntax.specs.declared.expression.ProductStep.{ProductStep}
use Rattle.est_syntax.specs.declared.expression.Relation.{Relation}
use Rattle.est_syntax.specs.declared.expression.Selector.{Selector}
use Rattle.est_syntax.specs.declared.expression.Simple.{Simple, out-Simple}
use Rattle.est_syntax.specs.declared.expression.SumStep.{SumStep}
use Rattle.est_syntax.specs.declared.expression.Term.{Term, out-Term}
use Rattle.est_syntax.specs.declared.name.Used.{Used}
use Rattle.rule_declares.specs.declared.variables.VariableAccess.{VariableAccess}

-- a variable: its name and its selectors
abbrev pub Variable : Type 0
Variable = Used × List Selector

-- the variable that an operand is, if it is one and nothing else
abbrev pub bare_factor : Factor → Option Variable
bare_factor x = held (out-Factor x)
  where
    held : opened.Factor-F Factor Selector Expr Member ProductStep Relation Simple SumStep Term
        → Option Variable
    held (opened.Variable name path place) = Some (name, path)
    held _ = None

-- that of a product of this operand and these steps
abbrev pub bare_product : Factor → List ProductStep → Option Variable
bare_product x [] = bare_factor x
bare_product x (s ∷ ss) = None

-- that of a product
abbrev pub bare_term : Term → Option Variable
bare_term t = bare_product (out-Term t).first (out-Term t).rest

-- that of a sum of a sign, if there is one, this operand and these steps
abbrev pub bare_sum : Option Sign → Term → List SumStep → Option Variable
bare_sum None t [] = bare_term t
bare_sum _ t ss = None

-- that of a sum
abbrev pub bare_simple : Simple → Option Variable
bare_simple s = bare_sum (out-Simple s).sign (out-Simple s).first (out-Simple s).rest

-- that of an expression of this sum and a relation, if there is one
abbrev pub bare_by : Simple → Option Relation → Option Variable
bare_by s None = bare_simple s
bare_by s (Some r) = None

-- that of an expression
abbrev pub bare : Expr → Option Variable
bare e = bare_by (out-Expr e).left (out-Expr e).relation

-- what the program keeps says so
abbrev pub variable_of : Option VariableAccess → Option Variable
variable_of access = option_map (λ (a : VariableAccess). (a.name.now, a.path.now)) access
