-- The host of what an expression yields, by its form, is the one that the rules give it (ISO 7185,
-- 6.7.1 and 6.7.2).
use Rattle.std.specs.Prelude.{◌≡◌, true, false, Some}
use Rattle.est_syntax.specs.declared.expression.Expr.{Expr, Expr', Held-Expr-relation}
use Rattle.est_syntax.specs.declared.expression.Expr.{Expr-relation-None', Expr-relation-Some'}
use Rattle.est_syntax.specs.declared.expression.Factor.{Factor, Row_of-Expr, end_of-Expr}
use Rattle.est_syntax.specs.declared.expression.Factor.{more_of-Expr}
use Rattle.est_syntax.specs.declared.expression.Factor.TheVariants as factor
use Rattle.est_syntax.specs.declared.expression.Relation.{Relation'}
use Rattle.est_syntax.specs.declared.expression.Simple.{Simple, Simple', Row_of-SumStep}
use Rattle.est_syntax.specs.declared.expression.Simple.{end_of-SumStep, more_of-SumStep}
use Rattle.est_syntax.specs.declared.expression.SumStep.{SumStep'}
use Rattle.est_syntax.specs.declared.expression.Term.{Term, Term', Row_of-ProductStep}
use Rattle.est_syntax.specs.declared.expression.Term.{end_of-ProductStep, more_of-ProductStep}
use Rattle.rule_scope.specs.Outline.{Outline}
use Rattle.est_values.specs.declared.types.Host.{Host}
use Rattle.est_values.specs.Types.{Ordinal}
use Rattle.rule_expressions.specs.Operators.{is_relation}
use Rattle.rule_expressions.specs.Expressions.{expr_type}
use Rattle.mean_blocks.specs.OperandHosts.{host_of}

-- the operator between two sums, if there is one, compares them
abbrev pub Compares : Held-Expr-relation → Type 0
Compares Expr-relation-None' = Unit {0}
Compares (Expr-relation-Some' (Relation' op right)) = is_relation op ≡ true

-- no operator in a sum compares
abbrev pub AddUp : {n : _} → Row_of-SumStep n → Type 0
AddUp end_of-SumStep = Unit {0}
AddUp (more_of-SumStep (SumStep' op right) rest) = (is_relation op ≡ false) × AddUp rest

-- and none in a product
abbrev pub Multiply : {n : _} → Row_of-ProductStep n → Type 0
Multiply end_of-ProductStep = Unit {0}
Multiply (more_of-ProductStep op right rest) = (is_relation op ≡ false) × Multiply rest

-- On the way to the first operand of an expression operators stand where the grammar puts them: one
-- that compares between two sums, and others within (ISO 7185, 6.7.1).
abbrev mutual
  pub IsFormed : Expr → Type 0
  IsFormed (Expr' left relation place) = Compares relation × IsFormedSum left

  pub IsFormedSum : Simple → Type 0
  IsFormedSum (Simple' sign first n rest) = IsFormedProduct first × AddUp rest

  pub IsFormedProduct : Term → Type 0
  IsFormedProduct (Term' first n rest) = IsFormedFactor first × Multiply rest

  pub IsFormedFactor : Factor → Type 0
  IsFormedFactor (factor.Group' p e place) = IsFormedFirst e
  IsFormedFactor (factor.Call' name n arguments place) = IsFormedFirst arguments
  IsFormedFactor _ = Unit {0}

  -- the first of these expressions
  pub IsFormedFirst : {n : _} → Row_of-Expr n → Type 0
  IsFormedFirst end_of-Expr = Unit {0}
  IsFormedFirst (more_of-Expr e rest) = IsFormed e

-- where an expression yields an ordinal by the rules, its host by form is the host of that
abbrev pub HostsAreThoseOfRules : Type 0
HostsAreThoseOfRules = (o : Outline) (e : Expr) (h : Host) → IsFormed e
    → expr_type o e ≡ Some (Ordinal h) → host_of o e ≡ Some h
