-- What stands in a list, a box or an option looks up the same as within an expression.
use Rattle.std.proofs.Common.{◌≡◌, refl, sym, ap, ◌∙◌, ℕ, List, ◌∷◌, ◌++◌}
use Rattle.est_syntax.specs.declared.expression.Expr.{Expr, Expr', out-Expr, outs-Expr'}
use Rattle.est_syntax.specs.declared.expression.Expr.{Held-Expr-relation}
use Rattle.est_syntax.specs.declared.expression.Expr.{Expr-relation-None'}
use Rattle.est_syntax.specs.declared.expression.Expr.{Expr-relation-Some'}
use Rattle.est_syntax.specs.declared.expression.Expr.{view-Expr-relation}
use Rattle.est_syntax.specs.declared.expression.Factor.{Factor, Row_of-Expr, end_of-Expr}
use Rattle.est_syntax.specs.declared.expression.Factor.{more_of-Expr, items-the_row-Expr}
use Rattle.est_syntax.specs.declared.expression.Factor.{items_hidden-the_row-Expr-4}
use Rattle.est_syntax.specs.declared.expression.Factor.{Row_of-Member, end_of-Member}
use Rattle.est_syntax.specs.declared.expression.Factor.{more_of-Member}
use Rattle.est_syntax.specs.declared.expression.Factor.{items-the_row-Member}
use Rattle.est_syntax.specs.declared.expression.Factor.{items_hidden-the_row-Member-2}
use Rattle.est_syntax.specs.declared.expression.Factor.{Row_of-Selector, end_of-Selector}
use Rattle.est_syntax.specs.declared.expression.Factor.{more_of-Selector}
use Rattle.est_syntax.specs.declared.expression.Factor.{items-the_row-Selector}
use Rattle.est_syntax.specs.declared.expression.Factor.{items_hidden-the_row-Selector-3}
use Rattle.est_syntax.specs.declared.expression.Factor.TheBlock.{hidden-the_row-Expr-0}
use Rattle.est_syntax.specs.declared.expression.Factor.TheBlock.{hidden-the_row-Factor-1}
use Rattle.est_syntax.specs.declared.expression.Factor.TheBlock.{hidden-the_row-Member-2}
use Rattle.est_syntax.specs.declared.expression.Factor.TheBlock.{hidden-the_row-Selector-3}
use Rattle.est_syntax.specs.declared.expression.Factor.TheBlock.{hidden-the_row-Expr-4}
use Rattle.est_syntax.specs.declared.expression.Factor.TheOpen.{Expr-F, Member-F}
use Rattle.est_syntax.specs.declared.expression.Factor.TheOpen.{Relation-F}
use Rattle.est_syntax.specs.declared.expression.Factor.TheOpen.{Simple-F, SumStep-F}
use Rattle.est_syntax.specs.declared.expression.Factor.TheOpen.{Term-F}
use Rattle.est_syntax.specs.declared.expression.Factor.TheVariants as factor
use Rattle.est_syntax.specs.declared.expression.Member.{Member, Member', out-Member}
use Rattle.est_syntax.specs.declared.expression.Member.{outs-Member'}
use Rattle.est_syntax.specs.declared.expression.Member.{Held-Member-high}
use Rattle.est_syntax.specs.declared.expression.Member.{Member-high-None'}
use Rattle.est_syntax.specs.declared.expression.Member.{Member-high-Some'}
use Rattle.est_syntax.specs.declared.expression.Member.{view-Member-high}
use Rattle.est_syntax.specs.declared.expression.ProductStep.{ProductStep}
use Rattle.est_syntax.specs.declared.expression.Relation.{Relation, Relation'}
use Rattle.est_syntax.specs.declared.expression.Relation.{out-Relation, outs-Relation'}
use Rattle.est_syntax.specs.declared.expression.Selector.{Selector}
use Rattle.est_syntax.specs.declared.expression.Selector.TheVariants as selector
use Rattle.est_syntax.specs.declared.expression.Simple.{Simple, Simple', out-Simple}
use Rattle.est_syntax.specs.declared.expression.Simple.{outs-Simple'}
use Rattle.est_syntax.specs.declared.expression.Simple.{Row_of-SumStep, end_of-SumStep}
use Rattle.est_syntax.specs.declared.expression.Simple.{more_of-SumStep}
use Rattle.est_syntax.specs.declared.expression.Simple.{items-the_row-SumStep}
use Rattle.est_syntax.specs.declared.expression.Simple.{items_shown-the_row-SumStep-5}
use Rattle.est_syntax.specs.declared.expression.SumStep.{SumStep, SumStep'}
use Rattle.est_syntax.specs.declared.expression.SumStep.{out-SumStep, outs-SumStep'}
use Rattle.est_syntax.specs.declared.expression.Term.{Term, Term', out-Term, outs-Term'}
use Rattle.est_syntax.specs.declared.expression.Term.{Row_of-ProductStep}
use Rattle.est_syntax.specs.declared.expression.Term.{end_of-ProductStep}
use Rattle.est_syntax.specs.declared.expression.Term.{more_of-ProductStep}
use Rattle.est_syntax.specs.declared.expression.Term.{items-the_row-ProductStep}
use Rattle.est_syntax.specs.declared.expression.Term.{items_shown-the_row-ProductStep-6}
use Rattle.est_syntax.specs.declared.name.Used.{Used}
use Rattle.rule_uses.specs.NamesInExpressions.{expr_names, relation_held, relation_names}
use Rattle.rule_uses.specs.NamesInExpressions.{simple_names, sum_row, sum_step_names, term_names}
use Rattle.rule_uses.specs.NamesInExpressions.{product_row, factor_names, expr_box, factor_box}
use Rattle.rule_uses.specs.NamesInExpressions.{exprs_row, member_names, high_held, members_row}
use Rattle.rule_uses.specs.NamesInExpressions.{selector_names, selectors_row, exprs_names}
use Rattle.rule_uses.specs.NamesInExpressions.{option_relation_names, option_expr_names}
use Rattle.rule_uses.specs.NamesInExpressions.{sum_steps_names, product_steps_names}
use Rattle.rule_uses.specs.NamesInExpressions.{members_names, selectors_names}

pub expr_hidden : (e : Expr) → expr_box (hidden-the_row-Expr-0 e) ≡ expr_names e
unfolding hidden-the_row-Expr-0 denote.Hole.Carrier.hidden
expr_hidden e = refl

pub factor_hidden : (f : Factor) → factor_box (hidden-the_row-Factor-1 f) ≡ factor_names f
unfolding hidden-the_row-Factor-1 denote.Hole.Carrier.hidden
factor_hidden f = refl

pub exprs_listed : (n : _) (row : Row_of-Expr n)
    → exprs_row row ≡ exprs_names (items-the_row-Expr n row)
exprs_listed n end_of-Expr = refl
exprs_listed n (more_of-Expr e rest) = ap (λ l. expr_names e ++ l) (exprs_listed _ rest)

pub exprs_hidden : (es : List Expr) → exprs_row (hidden-the_row-Expr-4 es) ≡ exprs_names es
exprs_hidden es =
    exprs_listed _ (hidden-the_row-Expr-4 es) ∙ ap exprs_names (items_hidden-the_row-Expr-4 es)

pub members_listed : (n : _) (row : Row_of-Member n)
    → members_row row ≡ members_names (items-the_row-Member n row)
members_listed n end_of-Member = refl
members_listed n (more_of-Member m rest) = ap (λ l. member_names m ++ l) (members_listed _ rest)

pub members_hidden : (ms : List Member)
    → members_row (hidden-the_row-Member-2 ms) ≡ members_names ms
members_hidden ms =
    members_listed _ (hidden-the_row-Member-2 ms)
    ∙ ap members_names (items_hidden-the_row-Member-2 ms)

pub selectors_listed : (n : _) (row : Row_of-Selector n)
    → selectors_row row ≡ selectors_names (items-the_row-Selector n row)
selectors_listed n end_of-Selector = refl
selectors_listed n (more_of-Selector s rest) =
    ap (λ l. selector_names s ++ l) (selectors_listed _ rest)

pub selectors_hidden : (ss : List Selector)
    → selectors_row (hidden-the_row-Selector-3 ss) ≡ selectors_names ss
selectors_hidden ss =
    selectors_listed _ (hidden-the_row-Selector-3 ss)
    ∙ ap selectors_names (items_hidden-the_row-Selector-3 ss)

pub group_at : (f : Factor) (e : Expr) (place : ℕ)
    → f ≡ factor.Group e place → factor_names f ≡ expr_names e
group_at f e place h = ap factor_names h ∙ expr_hidden e

pub not_at : (f other : Factor) (place : ℕ)
    → f ≡ factor.Not other place → factor_names f ≡ factor_names other
not_at f other place h = ap factor_names h ∙ factor_hidden other

pub set_at : (f : Factor) (ms : List Member) (place : ℕ)
    → f ≡ factor.Set ms place → factor_names f ≡ members_names ms
set_at f ms place h = ap factor_names h ∙ members_hidden ms

pub variable_at : (f : Factor) (name : Used) (path : List Selector) (place : ℕ)
    → f ≡ factor.Variable name path place → factor_names f ≡ name ∷ selectors_names path
variable_at f name path place h = ap factor_names h ∙ ap (λ l. name ∷ l) (selectors_hidden path)

pub call_at : (f : Factor) (name : Used) (es : List Expr) (place : ℕ)
    → f ≡ factor.Call name es place → factor_names f ≡ name ∷ exprs_names es
call_at f name es place h = ap factor_names h ∙ ap (λ l. name ∷ l) (exprs_hidden es)

pub index_at : (s : Selector) (es : List Expr) (place : ℕ)
    → s ≡ selector.Index es place → selector_names s ≡ exprs_names es
index_at s es place h = ap selector_names h ∙ exprs_hidden es

pub sum_listed : (n : _) (row : Row_of-SumStep n)
    → sum_row row ≡ sum_steps_names (items-the_row-SumStep n row)
sum_listed n end_of-SumStep = refl
sum_listed n (more_of-SumStep s rest) = ap (λ l. sum_step_names s ++ l) (sum_listed _ rest)

pub product_listed : (n : _) (row : Row_of-ProductStep n)
    → product_row row ≡ product_steps_names (items-the_row-ProductStep n row)
product_listed n end_of-ProductStep = refl
product_listed n (more_of-ProductStep operator right rest) =
    ap (λ l. factor_names right ++ l) (product_listed _ rest)

pub relation_viewed : (held : Held-Expr-relation)
    → relation_held held ≡ option_relation_names (view-Expr-relation held)
relation_viewed Expr-relation-None' = refl
relation_viewed (Expr-relation-Some' r) = refl

pub high_viewed : (held : Held-Member-high)
    → high_held held ≡ option_expr_names (view-Member-high held)
high_viewed Member-high-None' = refl
high_viewed (Member-high-Some' e) = refl

pub expr_out : (e : Expr)
    → expr_names e ≡ simple_names (out-Expr e).left ++ option_relation_names (out-Expr e).relation
expr_out (Expr' left held place) =
    ap (λ l. simple_names left ++ l) (relation_viewed held)
    ∙ ap (λ (l : Expr-F Factor Selector Expr Member ProductStep Relation Simple SumStep Term).
    simple_names l.left ++ option_relation_names l.relation)
    (sym (outs-Expr' left held place))

pub relation_out : (r : Relation) → relation_names r ≡ simple_names (out-Relation r).right
relation_out (Relation' operator right) =
    ap (λ (l : Relation-F Factor Selector Expr Member ProductStep Relation Simple SumStep Term).
    simple_names l.right)
    (sym (outs-Relation' operator right))

pub simple_out : (s : Simple)
    → simple_names s ≡ term_names (out-Simple s).first ++ sum_steps_names (out-Simple s).rest
simple_out (Simple' sign first n rest) =
    ap (λ l. term_names first ++ l) (sum_listed _ rest)
    ∙ ap (λ l. term_names first ++ sum_steps_names l) (sym (items_shown-the_row-SumStep-5 n rest))
    ∙ ap (λ (l : Simple-F Factor Selector Expr Member ProductStep Relation Simple SumStep Term).
    term_names l.first ++ sum_steps_names l.rest)
    (sym (outs-Simple' sign first n rest))

pub sum_step_out : (s : SumStep) → sum_step_names s ≡ term_names (out-SumStep s).right
sum_step_out (SumStep' operator right) =
    ap (λ (l : SumStep-F Factor Selector Expr Member ProductStep Relation Simple SumStep Term).
    term_names l.right)
    (sym (outs-SumStep' operator right))

pub term_out : (t : Term)
    → term_names t ≡ factor_names (out-Term t).first ++ product_steps_names (out-Term t).rest
term_out (Term' first n rest) =
    ap (λ l. factor_names first ++ l) (product_listed _ rest)
    ∙ ap (λ l. factor_names first ++ product_steps_names l)
    (sym (items_shown-the_row-ProductStep-6 n rest))
    ∙ ap (λ (l : Term-F Factor Selector Expr Member ProductStep Relation Simple SumStep Term).
    factor_names l.first ++ product_steps_names l.rest)
    (sym (outs-Term' first n rest))

pub member_out : (m : Member)
    → member_names m ≡ expr_names (out-Member m).low ++ option_expr_names (out-Member m).high
member_out (Member' low held) =
    ap (λ l. expr_names low ++ l) (high_viewed held)
    ∙ ap (λ (l : Member-F Factor Selector Expr Member ProductStep Relation Simple SumStep Term).
    expr_names l.low ++ option_expr_names l.high)
    (sym (outs-Member' low held))

-- What the functions over expressions need.
pub ruleset rows = (
  expr_out,
  relation_out,
  simple_out,
  sum_step_out,
  term_out,
  member_out,
  group_at,
  not_at,
  set_at,
  variable_at,
  call_at,
  index_at,
)
