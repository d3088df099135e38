-- The places of expressions, and numbers in them (ISO 7185, 6.7.1).
use Rattle.std.specs.Prelude.{ℕ, ◌-◌, nat_le, List, []}
use Rattle.std.specs.Prelude.{Option, Some, None, if◌then◌else◌}
use Rattle.est_syntax.specs.Faults.{broken}
use Rattle.est_syntax.specs.Kinds.{maxint}
use Rattle.est_syntax.specs.declared.constant.Sign.{Sign}
use Rattle.est_syntax.specs.declared.expression.Expr.{Expr, out-Expr}
use Rattle.est_syntax.specs.declared.expression.Factor.{Factor}
use Rattle.est_syntax.specs.declared.expression.Factor.TheVariants as factor
use Rattle.est_syntax.specs.declared.expression.Simple.{Simple, Simple'}
use Rattle.est_syntax.specs.declared.expression.Term.{Term, Term'}
use Rattle.est_syntax.specs.declared.rule.Fault.{Fault}
use Rattle.est_syntax.specs.declared.rule.Rule.TheVariants.{NumberTooLarge}
use Rattle.est_values.specs.declared.types.Host.TheVariants as host
use Rattle.est_values.specs.Types.{Yielded, Ordinal}

-- the place of the first token of an operand
abbrev pub factor_place : Factor → ℕ
factor_place (factor.Number n place) = place
factor_place (factor.Character c place) = place
factor_place (factor.Group' p e place) = place
factor_place (factor.Not' p f place) = place
factor_place (factor.Set' n members place) = place
factor_place (factor.Variable' name n path place) = place
factor_place (factor.Call' name n arguments place) = place

-- that of a product
abbrev pub term_place : Term → ℕ
term_place (Term' first n rest) = factor_place first

-- that of a sum whose first operand begins at this place: a sign stands before it
abbrev pub sign_place : Option Sign → ℕ → ℕ
sign_place None place = place
sign_place (Some sign) place = place - 1

-- that of a sum
abbrev pub simple_place : Simple → ℕ
simple_place (Simple' sign first n rest) = sign_place sign (term_place first)

-- that of an expression
abbrev pub expr_place : Expr → ℕ
expr_place e = (out-Expr e).place

-- a number, which is an integer up to the greatest one
abbrev pub number_type : ℕ → Option Yielded
number_type n = if nat_le n maxint then Some (Ordinal host.Integer) else None

-- what one breaks that exceeds it
abbrev pub too_large_faults : ℕ → ℕ → List Fault
too_large_faults n place = if nat_le n maxint then [] else broken place NumberTooLarge
