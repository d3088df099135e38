-- The host of each form of operand by the boxes, lists and options that it is made of.
use Rattle.std.proofs.Common.{◌≡◌, refl, sym, ap, ◌∙◌, ℕ, List, [], ◌∷◌, Option, Some, None}
use Rattle.est_syntax.specs.declared.expression.Expr.{Expr, Expr', out-Expr, outs-Expr'}
use Rattle.est_syntax.specs.declared.expression.Expr.{Held-Expr-relation, Expr-relation-None'}
use Rattle.est_syntax.specs.declared.expression.Expr.{Expr-relation-Some', view-Expr-relation}
use Rattle.est_syntax.specs.declared.expression.Factor.{Factor, Row_of-Expr, end_of-Expr}
use Rattle.est_syntax.specs.declared.expression.Factor.{more_of-Expr, items-the_row-Expr}
use Rattle.est_syntax.specs.declared.expression.Factor.{items_hidden-the_row-Expr-4}
use Rattle.est_syntax.specs.declared.expression.Factor.{items_hidden-the_row-Selector-3}
use Rattle.est_syntax.specs.declared.expression.Factor.TheBlock.{hidden-the_row-Expr-0}
use Rattle.est_syntax.specs.declared.expression.Factor.TheBlock.{hidden-the_row-Expr-4}
use Rattle.est_syntax.specs.declared.expression.Factor.TheOpen.{Expr-F, Simple-F, Term-F}
use Rattle.est_syntax.specs.declared.expression.Factor.TheVariants as factor
use Rattle.est_syntax.specs.declared.expression.Member.{Member}
use Rattle.est_syntax.specs.declared.expression.ProductStep.{ProductStep}
use Rattle.est_syntax.specs.declared.expression.Relation.{Relation}
use Rattle.est_syntax.specs.declared.expression.Selector.{Selector}
use Rattle.est_syntax.specs.declared.expression.Simple.{Simple, Simple', out-Simple, outs-Simple'}
use Rattle.est_syntax.specs.declared.expression.SumStep.{SumStep}
use Rattle.est_syntax.specs.declared.expression.Term.{Term, Term', out-Term, outs-Term'}
use Rattle.est_syntax.specs.declared.name.Used.{Used}
use Rattle.rule_declares.specs.rule_scope.Outline.{Outline}
use Rattle.rule_declares.specs.rule_scope.Uses.{meaning}
use Rattle.est_values.specs.declared.types.Host.{Host}
use Rattle.est_values.specs.declared.types.Host.TheVariants as host
use Rattle.mean_blocks.specs.OperandHosts.{compared, host_of, simple_host, term_host, factor_host}
use Rattle.mean_blocks.specs.OperandHosts.{row_host, named_host, call_host}

-- the host of a comparison, or else of what stands before it
abbrev pub compared_in : Option Relation → Option Host → Option Host
compared_in None h = h
compared_in (Some r) h = Some host.Boolean

-- the operand with which an expression begins
abbrev pub first_factor : Expr → Factor
first_factor e = (out-Term (out-Simple (out-Expr e).left).first).first

-- the host of the first of these expressions
abbrev pub first_host : Outline → List Expr → Option Host
first_host o [] = None
first_host o (e ∷ es) = host_of o e

relation_host : (r : Held-Expr-relation) (h : Option Host)
    → compared r h ≡ compared_in (view-Expr-relation r) h
relation_host Expr-relation-None' h = refl
relation_host (Expr-relation-Some' r) h = refl

term_first : (o : Outline) (t : Term) → term_host o t ≡ factor_host o (out-Term t).first
term_first o (Term' first k rest) =
    ap (λ (l : Term-F Factor Selector Expr Member ProductStep Relation Simple SumStep Term).
    factor_host o l.first) (sym (outs-Term' first k rest))

simple_first : (o : Outline) (s : Simple)
    → simple_host o s ≡ factor_host o (out-Term (out-Simple s).first).first
simple_first o (Simple' sign first k rest) =
    term_first o first
    ∙ ap (λ (l : Simple-F Factor Selector Expr Member ProductStep Relation Simple SumStep Term).
    factor_host o (out-Term l.first).first) (sym (outs-Simple' sign first k rest))

pub host_at : (o : Outline) (e : Expr)
    → host_of o e ≡ compared_in (out-Expr e).relation (factor_host o (first_factor e))
host_at o (Expr' left relation place) =
    relation_host relation (simple_host o left)
    ∙ ap (compared_in (view-Expr-relation relation)) (simple_first o left)
    ∙ ap (λ (l : Expr-F Factor Selector Expr Member ProductStep Relation Simple SumStep Term).
    compared_in l.relation (factor_host o (out-Term (out-Simple l.left).first).first))
    (sym (outs-Expr' left relation place))

group_hidden : (o : Outline) (e : Expr) → row_host o (hidden-the_row-Expr-0 e) ≡ host_of o e
unfolding hidden-the_row-Expr-0 denote.Hole.Carrier.hidden
group_hidden o e = refl

pub group_host : (o : Outline) (f : Factor) (e : Expr) (place : ℕ) → f ≡ factor.Group e place
    → factor_host o f ≡ host_of o e
group_host o f e place h = ap (factor_host o) h ∙ group_hidden o e

pub variable_host : (o : Outline) (f : Factor) (u : Used) (path : List Selector) (place : ℕ)
    → f ≡ factor.Variable u path place → factor_host o f ≡ named_host o path (meaning o u)
variable_host o f u path place h = ap (factor_host o) h
    ∙ ap (λ l. named_host o l (meaning o u)) (items_hidden-the_row-Selector-3 path)

row_first : (o : Outline) (n : _) (row : Row_of-Expr n)
    → row_host o row ≡ first_host o (items-the_row-Expr n row)
row_first o n end_of-Expr = refl
row_first o n (more_of-Expr e rest) = refl

pub call_at : (o : Outline) (f : Factor) (u : Used) (arguments : List Expr) (place : ℕ)
    → f ≡ factor.Call u arguments place
    → factor_host o f ≡ call_host o (meaning o u) (first_host o arguments)
call_at o f u arguments place h = ap (factor_host o) h
    ∙ ap (call_host o (meaning o u)) (row_first o _ (hidden-the_row-Expr-4 arguments)
    ∙ ap (first_host o) (items_hidden-the_row-Expr-4 arguments))
