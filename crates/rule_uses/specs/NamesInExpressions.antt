-- The names that expressions and interaction points look up, in the order of the text (ISO 7185,
-- 6.5 and 6.7; ISO 9074, interaction-point-access). Neither a field nor an interaction point of a
-- module variable is looked up: it belongs to the record or to the module.
use Rattle.std.specs.Prelude.{List, [], ◌∷◌, ◌++◌, Option, Some, None}
use Rattle.est_syntax.specs.declared.name.Used.{Used}
use Rattle.est_syntax.specs.declared.expression.Access.{Access}
use Rattle.est_syntax.specs.declared.expression.EndPoint.{EndPoint}
use Rattle.est_syntax.specs.declared.expression.Expr.{Expr, Expr', Held-Expr-relation}
use Rattle.est_syntax.specs.declared.expression.Expr.{Expr-relation-None'}
use Rattle.est_syntax.specs.declared.expression.Expr.{Expr-relation-Some'}
use Rattle.est_syntax.specs.declared.expression.Factor.{Factor, Row_of-Expr, end_of-Expr}
use Rattle.est_syntax.specs.declared.expression.Factor.{more_of-Expr, Row_of-Factor}
use Rattle.est_syntax.specs.declared.expression.Factor.{end_of-Factor, more_of-Factor}
use Rattle.est_syntax.specs.declared.expression.Factor.{Row_of-Member, end_of-Member}
use Rattle.est_syntax.specs.declared.expression.Factor.{more_of-Member, Row_of-Selector}
use Rattle.est_syntax.specs.declared.expression.Factor.{end_of-Selector}
use Rattle.est_syntax.specs.declared.expression.Factor.{more_of-Selector}
use Rattle.est_syntax.specs.declared.expression.Factor.TheVariants as factor
use Rattle.est_syntax.specs.declared.expression.Member.{Member, Member'}
use Rattle.est_syntax.specs.declared.expression.Member.{Held-Member-high}
use Rattle.est_syntax.specs.declared.expression.Member.{Member-high-None'}
use Rattle.est_syntax.specs.declared.expression.Member.{Member-high-Some'}
use Rattle.est_syntax.specs.declared.expression.ProductStep.{ProductStep}
use Rattle.est_syntax.specs.declared.expression.Relation.{Relation, Relation'}
use Rattle.est_syntax.specs.declared.expression.Selector.{Selector}
use Rattle.est_syntax.specs.declared.expression.Selector.TheVariants as selector
use Rattle.est_syntax.specs.declared.expression.Simple.{Simple, Simple', Row_of-SumStep}
use Rattle.est_syntax.specs.declared.expression.Simple.{end_of-SumStep, more_of-SumStep}
use Rattle.est_syntax.specs.declared.expression.SumStep.{SumStep, SumStep'}
use Rattle.est_syntax.specs.declared.expression.Term.{Term, Term', Row_of-ProductStep}
use Rattle.est_syntax.specs.declared.expression.Term.{end_of-ProductStep}
use Rattle.est_syntax.specs.declared.expression.Term.{more_of-ProductStep}

abbrev mutual
  -- An expression looks up what its sums do.
  pub expr_names : Expr → List Used
  expr_names (Expr' left relation place) = simple_names left ++ relation_held relation

  -- What follows the first sum of an expression looks up what its own sum does.
  pub relation_held : Held-Expr-relation → List Used
  relation_held Expr-relation-None' = []
  relation_held (Expr-relation-Some' r) = relation_names r

  -- A relation looks up what its sum does.
  pub relation_names : Relation → List Used
  relation_names (Relation' operator right) = simple_names right

  -- A sum looks up what its operands do.
  pub simple_names : Simple → List Used
  simple_names (Simple' sign first n rest) = term_names first ++ sum_row rest

  -- The steps of a sum look up what their operands do.
  pub sum_row : {n : _} → Row_of-SumStep n → List Used
  sum_row end_of-SumStep = []
  sum_row (more_of-SumStep s rest) = sum_step_names s ++ sum_row rest

  -- A step of a sum looks up what its operand does.
  pub sum_step_names : SumStep → List Used
  sum_step_names (SumStep' operator right) = term_names right

  -- A product looks up what its operands do.
  pub term_names : Term → List Used
  term_names (Term' first n rest) = factor_names first ++ product_row rest

  -- The steps of a product look up what their operands do.
  pub product_row : {n : _} → Row_of-ProductStep n → List Used
  product_row end_of-ProductStep = []
  product_row (more_of-ProductStep operator right rest) = factor_names right ++ product_row rest

  -- An operand looks up the variable or function that it names, and what is within it.
  pub factor_names : Factor → List Used
  factor_names (factor.Number n place) = []
  factor_names (factor.Character c place) = []
  factor_names (factor.Group' p e place) = expr_box e
  factor_names (factor.Not' p f place) = factor_box f
  factor_names (factor.Set' n members place) = members_row members
  factor_names (factor.Variable' name n path place) = name ∷ selectors_row path
  factor_names (factor.Call' name n arguments place) = name ∷ exprs_row arguments

  -- The expression in a box looks up what it does outside.
  pub expr_box : {n : _} → Row_of-Expr n → List Used
  expr_box end_of-Expr = []
  expr_box (more_of-Expr e rest) = expr_names e

  -- The operand in a box looks up what it does outside.
  pub factor_box : {n : _} → Row_of-Factor n → List Used
  factor_box end_of-Factor = []
  factor_box (more_of-Factor f rest) = factor_names f

  -- The expressions within an expression look up what each of them does.
  pub exprs_row : {n : _} → Row_of-Expr n → List Used
  exprs_row end_of-Expr = []
  exprs_row (more_of-Expr e rest) = expr_names e ++ exprs_row rest

  -- A member of a set looks up what its expressions do.
  pub member_names : Member → List Used
  member_names (Member' low high) = expr_names low ++ high_held high

  -- The last one of several members looks up what its expression does.
  pub high_held : Held-Member-high → List Used
  high_held Member-high-None' = []
  high_held (Member-high-Some' e) = expr_names e

  -- The members of a set look up what each of them does.
  pub members_row : {n : _} → Row_of-Member n → List Used
  members_row end_of-Member = []
  members_row (more_of-Member m rest) = member_names m ++ members_row rest

  -- A selector looks up what its subscripts do, and a field is not looked up.
  pub selector_names : Selector → List Used
  selector_names (selector.Index' n exprs place) = exprs_row exprs
  selector_names (selector.Field u) = []

  -- The selectors after a name look up what each of them does.
  pub selectors_row : {n : _} → Row_of-Selector n → List Used
  selectors_row end_of-Selector = []
  selectors_row (more_of-Selector s rest) = selector_names s ++ selectors_row rest

-- Expressions look up what each of them does.
abbrev pub exprs_names : List Expr → List Used
exprs_names [] = []
exprs_names (e ∷ es) = expr_names e ++ exprs_names es

-- A relation looks up what its sum does, where there is one.
abbrev pub option_relation_names : Option Relation → List Used
option_relation_names None = []
option_relation_names (Some r) = relation_names r

-- An expression looks up what it does, where there is one.
abbrev pub option_expr_names : Option Expr → List Used
option_expr_names None = []
option_expr_names (Some e) = expr_names e

-- Steps of a sum look up what each of them does.
abbrev pub sum_steps_names : List SumStep → List Used
sum_steps_names [] = []
sum_steps_names (s ∷ ss) = sum_step_names s ++ sum_steps_names ss

-- A step of a product looks up what its operand does.
abbrev pub product_step_names : ProductStep → List Used
product_step_names s = factor_names s.right

-- Steps of a product look up what each of them does.
abbrev pub product_steps_names : List ProductStep → List Used
product_steps_names [] = []
product_steps_names (s ∷ ss) = product_step_names s ++ product_steps_names ss

-- Members of a set look up what each of them does.
abbrev pub members_names : List Member → List Used
members_names [] = []
members_names (m ∷ ms) = member_names m ++ members_names ms

-- Selectors look up what each of them does.
abbrev pub selectors_names : List Selector → List Used
selectors_names [] = []
selectors_names (s ∷ ss) = selector_names s ++ selectors_names ss

-- An access looks up its name, and what its subscripts do.
abbrev pub access_names : Access → List Used
access_names a = a.name ∷ exprs_names a.index

-- An interaction point of a module variable looks up what its subscripts do.
abbrev pub second_names : Option Access → List Used
second_names None = []
second_names (Some a) = exprs_names a.index

-- An end of a link looks up its first name, and what the subscripts do.
abbrev pub end_names : EndPoint → List Used
end_names e = access_names e.first ++ second_names e.second
