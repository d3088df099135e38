-- How much text expressions and statements have, by which their execution ends.
use Rattle.std.proofs.Common.{◌≡◌, refl, sym, ap, ◌∙◌, ℕ, zero, suc, ◌+◌, ◌<◌, ◌≤◌, List, []}
use Rattle.std.proofs.Common.{◌∷◌, length, get_or, Option, Some, None, arith}
use Rattle.est_syntax.specs.declared.constant.Sign.{Sign}
use Rattle.est_syntax.specs.declared.expression.Expr.{Expr, Expr', out-Expr, outs-Expr'}
use Rattle.est_syntax.specs.declared.expression.Expr.{Held-Expr-relation, Expr-relation-None'}
use Rattle.est_syntax.specs.declared.expression.Expr.{Expr-relation-Some', view-Expr-relation}
use Rattle.est_syntax.specs.declared.expression.Factor.{Factor, out-Factor, Row_of-Expr}
use Rattle.est_syntax.specs.declared.expression.Factor.{end_of-Expr}
use Rattle.est_syntax.specs.declared.expression.Factor.{more_of-Expr, items-the_row-Expr}
use Rattle.est_syntax.specs.declared.expression.Factor.{items_hidden-the_row-Expr-4}
use Rattle.est_syntax.specs.declared.expression.Factor.{Row_of-Factor, end_of-Factor}
use Rattle.est_syntax.specs.declared.expression.Factor.{more_of-Factor}
use Rattle.est_syntax.specs.declared.expression.Factor.{Row_of-Member, end_of-Member}
use Rattle.est_syntax.specs.declared.expression.Factor.{more_of-Member, items-the_row-Member}
use Rattle.est_syntax.specs.declared.expression.Factor.{items_hidden-the_row-Member-2}
use Rattle.est_syntax.specs.declared.expression.Factor.{Row_of-Selector, end_of-Selector}
use Rattle.est_syntax.specs.declared.expression.Factor.{more_of-Selector, items-the_row-Selector}
use Rattle.est_syntax.specs.declared.expression.Factor.{items_hidden-the_row-Selector-3}
use Rattle.est_syntax.specs.declared.expression.Factor.{items_shown-the_row-Selector-3}
use Rattle.est_syntax.specs.declared.expression.Factor.TheBlock.{hidden-the_row-Expr-0}
use Rattle.est_syntax.specs.declared.expression.Factor.TheBlock.{hidden-the_row-Factor-1}
use Rattle.est_syntax.specs.declared.expression.Factor.TheBlock.{hidden-the_row-Member-2}
use Rattle.est_syntax.specs.declared.expression.Factor.TheBlock.{hidden-the_row-Selector-3}
use Rattle.est_syntax.specs.declared.expression.Factor.TheBlock.{hidden-the_row-Expr-4}
use Rattle.est_syntax.specs.declared.expression.Factor.TheOpen.{Expr-F, Member-F, Relation-F}
use Rattle.est_syntax.specs.declared.expression.Factor.TheOpen.{Simple-F, SumStep-F, Term-F}
use Rattle.est_syntax.specs.declared.expression.Factor.TheVariants as factor
use Rattle.est_syntax.specs.declared.expression.Member.{Member, Member', out-Member, outs-Member'}
use Rattle.est_syntax.specs.declared.expression.Member.{Held-Member-high, Member-high-None'}
use Rattle.est_syntax.specs.declared.expression.Member.{Member-high-Some', view-Member-high}
use Rattle.est_syntax.specs.declared.expression.ProductStep.{ProductStep}
use Rattle.est_syntax.specs.declared.expression.Relation.{Relation, Relation'}
use Rattle.est_syntax.specs.declared.expression.Relation.{out-Relation, outs-Relation'}
use Rattle.est_syntax.specs.declared.expression.Selector.{Selector}
use Rattle.est_syntax.specs.declared.expression.Selector.TheVariants as selector
use Rattle.est_syntax.specs.declared.expression.Simple.{Simple, Simple', out-Simple, outs-Simple'}
use Rattle.est_syntax.specs.declared.expression.Simple.{Row_of-SumStep, end_of-SumStep}
use Rattle.est_syntax.specs.declared.expression.Simple.{more_of-SumStep, items-the_row-SumStep}
use Rattle.est_syntax.specs.declared.expression.Simple.{items_shown-the_row-SumStep-5}
use Rattle.est_syntax.specs.declared.expression.SumStep.{SumStep, SumStep'}
use Rattle.est_syntax.specs.declared.expression.SumStep.{out-SumStep, outs-SumStep'}
use Rattle.est_syntax.specs.declared.expression.Term.{Term, Term', out-Term, outs-Term'}
use Rattle.est_syntax.specs.declared.expression.Term.{Row_of-ProductStep, end_of-ProductStep}
use Rattle.est_syntax.specs.declared.expression.Term.{more_of-ProductStep}
use Rattle.est_syntax.specs.declared.expression.Term.{items-the_row-ProductStep}
use Rattle.est_syntax.specs.declared.expression.Term.{items_shown-the_row-ProductStep-6}
use Rattle.est_syntax.specs.declared.name.Used.{Used}
use Rattle.mean_blocks.specs.rule_declares.BareVariables.{bare, bare_by, bare_factor, bare_product}
use Rattle.mean_blocks.specs.rule_declares.BareVariables.{bare_sum}

-- WEIGHTS OF EXPRESSIONS

abbrev mutual
  pub expr_weight : Expr → ℕ
  expr_weight (Expr' left relation place) = simple_weight left + held_relation_weight relation + 1

  pub held_relation_weight : Held-Expr-relation → ℕ
  held_relation_weight Expr-relation-None' = 0
  held_relation_weight (Expr-relation-Some' r) = relation_weight r

  pub relation_weight : Relation → ℕ
  relation_weight (Relation' op right) = simple_weight right + 1

  pub simple_weight : Simple → ℕ
  simple_weight (Simple' sign first n rest) = term_weight first + row_sum_weight rest + 1

  pub row_sum_weight : {n : _} → Row_of-SumStep n → ℕ
  row_sum_weight end_of-SumStep = 0
  row_sum_weight (more_of-SumStep s rest) = sum_step_weight s + 1 + row_sum_weight rest

  pub sum_step_weight : SumStep → ℕ
  sum_step_weight (SumStep' op right) = term_weight right + 1

  pub term_weight : Term → ℕ
  term_weight (Term' first n rest) = factor_weight first + row_product_weight rest + 1

  pub row_product_weight : {n : _} → Row_of-ProductStep n → ℕ
  row_product_weight end_of-ProductStep = 0
  row_product_weight (more_of-ProductStep op right rest) =
      factor_weight right + 2 + row_product_weight rest

  pub factor_weight : Factor → ℕ
  factor_weight (factor.Number n place) = 1
  factor_weight (factor.Character c place) = 1
  factor_weight (factor.Group' p e place) = row_first_weight e + 1
  factor_weight (factor.Not' p f place) = row_factor_weight f + 2
  factor_weight (factor.Set' n members place) = row_members_weight members + 3
  factor_weight (factor.Variable' name n path place) = row_selected_weight path + 5
  factor_weight (factor.Call' name n arguments place) = row_exprs_weight arguments + 5

  pub row_first_weight : {n : _} → Row_of-Expr n → ℕ
  row_first_weight end_of-Expr = 0
  row_first_weight (more_of-Expr e rest) = expr_weight e

  pub row_factor_weight : {n : _} → Row_of-Factor n → ℕ
  row_factor_weight end_of-Factor = 0
  row_factor_weight (more_of-Factor f rest) = factor_weight f

  pub row_members_weight : {n : _} → Row_of-Member n → ℕ
  row_members_weight end_of-Member = 0
  row_members_weight (more_of-Member m rest) = member_weight m + 1 + row_members_weight rest

  pub member_weight : Member → ℕ
  member_weight (Member' low high) = expr_weight low + held_high_weight high + 1

  pub held_high_weight : Held-Member-high → ℕ
  held_high_weight Member-high-None' = 0
  held_high_weight (Member-high-Some' e) = expr_weight e

  pub row_selected_weight : {n : _} → Row_of-Selector n → ℕ
  row_selected_weight end_of-Selector = 0
  row_selected_weight (more_of-Selector x rest) = selector_weight x + 1 + row_selected_weight rest

  pub selector_weight : Selector → ℕ
  selector_weight (selector.Index' n exprs place) = row_exprs_weight exprs + 3
  selector_weight (selector.Field u) = 1

  pub row_exprs_weight : {n : _} → Row_of-Expr n → ℕ
  row_exprs_weight end_of-Expr = 0
  row_exprs_weight (more_of-Expr e rest) = expr_weight e + 3 + row_exprs_weight rest

-- THE SAME OVER LISTS

-- the sum of the weights of the items of a list
abbrev pub weighed : {A : Type 0} → (A → ℕ) → List A → ℕ
weighed f [] = 0
weighed f (x ∷ xs) = f x + weighed f xs

-- the weight of an option
abbrev pub option_weight : {A : Type 0} → (A → ℕ) → Option A → ℕ
option_weight f None = 0
option_weight f (Some x) = f x

abbrev pub exprs_weight : List Expr → ℕ
exprs_weight = weighed (λ e. expr_weight e + 3)

abbrev pub sums_weight : List SumStep → ℕ
sums_weight = weighed (λ s. sum_step_weight s + 1)

abbrev pub products_weight : List ProductStep → ℕ
products_weight = weighed (λ (s : ProductStep). factor_weight s.right + 2)

abbrev pub members_weight : List Member → ℕ
members_weight = weighed (λ m. member_weight m + 1)

abbrev pub path_weight : List Selector → ℕ
path_weight = weighed (λ x. selector_weight x + 1)

-- an item weighs no more than its list
pub item_weighed : {A : Type 0} (f : A → ℕ) (xs : List A) (i : ℕ) (d : A) → i < length xs
    → f (get_or xs i d) ≤ weighed f xs
item_weighed f [] i d h = absurd (omega arith)
item_weighed f (x ∷ xs) zero d h = omega arith
item_weighed f (x ∷ xs) (suc i) d h = omega (arith, item_weighed f xs i d (omega arith))

exprs_row : (n : _) (row : Row_of-Expr n)
    → row_exprs_weight row ≡ exprs_weight (items-the_row-Expr n row)
exprs_row n end_of-Expr = refl
exprs_row n (more_of-Expr e rest) = ap (λ k. expr_weight e + 3 + k) (exprs_row _ rest)

sums_row : (n : _) (row : Row_of-SumStep n)
    → row_sum_weight row ≡ sums_weight (items-the_row-SumStep n row)
sums_row n end_of-SumStep = refl
sums_row n (more_of-SumStep s rest) = ap (λ k. sum_step_weight s + 1 + k) (sums_row _ rest)

products_row : (n : _) (row : Row_of-ProductStep n)
    → row_product_weight row ≡ products_weight (items-the_row-ProductStep n row)
products_row n end_of-ProductStep = refl
products_row n (more_of-ProductStep op right rest) =
    ap (λ k. factor_weight right + 2 + k) (products_row _ rest)

members_row : (n : _) (row : Row_of-Member n)
    → row_members_weight row ≡ members_weight (items-the_row-Member n row)
members_row n end_of-Member = refl
members_row n (more_of-Member m rest) = ap (λ k. member_weight m + 1 + k) (members_row _ rest)

selectors_row : (n : _) (row : Row_of-Selector n)
    → row_selected_weight row ≡ path_weight (items-the_row-Selector n row)
selectors_row n end_of-Selector = refl
selectors_row n (more_of-Selector x rest) =
    ap (λ k. selector_weight x + 1 + k) (selectors_row _ rest)

relation_view : (r : Held-Expr-relation)
    → held_relation_weight r ≡ option_weight relation_weight (view-Expr-relation r)
relation_view Expr-relation-None' = refl
relation_view (Expr-relation-Some' r) = refl

high_view : (h : Held-Member-high)
    → held_high_weight h ≡ option_weight expr_weight (view-Member-high h)
high_view Member-high-None' = refl
high_view (Member-high-Some' e) = refl

-- EACH FORM OF EXPRESSION

pub expr_weighs : (e : Expr) → expr_weight e
    ≡ simple_weight (out-Expr e).left + option_weight relation_weight (out-Expr e).relation + 1
expr_weighs (Expr' left relation place) =
    ap (λ k. simple_weight left + k + 1) (relation_view relation)
    ∙ ap (λ (l : Expr-F Factor Selector Expr Member ProductStep Relation Simple SumStep Term).
    simple_weight l.left + option_weight relation_weight l.relation + 1)
    (sym (outs-Expr' left relation place))

pub relation_weighs : (r : Relation) → relation_weight r ≡ simple_weight (out-Relation r).right + 1
relation_weighs (Relation' op right) =
    ap (λ (l : Relation-F Factor Selector Expr Member ProductStep Relation Simple SumStep Term).
    simple_weight l.right + 1) (sym (outs-Relation' op right))

pub simple_weighs : (s : Simple) → simple_weight s
    ≡ term_weight (out-Simple s).first + sums_weight (out-Simple s).rest + 1
simple_weighs (Simple' sign first n rest) =
    ap (λ k. term_weight first + k + 1)
    (sums_row _ rest ∙ ap sums_weight (sym (items_shown-the_row-SumStep-5 n rest)))
    ∙ ap (λ (l : Simple-F Factor Selector Expr Member ProductStep Relation Simple SumStep Term).
    term_weight l.first + sums_weight l.rest + 1) (sym (outs-Simple' sign first n rest))

pub sum_step_weighs : (s : SumStep) → sum_step_weight s ≡ term_weight (out-SumStep s).right + 1
sum_step_weighs (SumStep' op right) =
    ap (λ (l : SumStep-F Factor Selector Expr Member ProductStep Relation Simple SumStep Term).
    term_weight l.right + 1) (sym (outs-SumStep' op right))

pub term_weighs : (t : Term) → term_weight t
    ≡ factor_weight (out-Term t).first + products_weight (out-Term t).rest + 1
term_weighs (Term' first n rest) =
    ap (λ k. factor_weight first + k + 1)
    (products_row _ rest ∙ ap products_weight (sym (items_shown-the_row-ProductStep-6 n rest)))
    ∙ ap (λ (l : Term-F Factor Selector Expr Member ProductStep Relation Simple SumStep Term).
    factor_weight l.first + products_weight l.rest + 1) (sym (outs-Term' first n rest))

pub member_weighs : (m : Member) → member_weight m
    ≡ expr_weight (out-Member m).low + option_weight expr_weight (out-Member m).high + 1
member_weighs (Member' low high) =
    ap (λ k. expr_weight low + k + 1) (high_view high)
    ∙ ap (λ (l : Member-F Factor Selector Expr Member ProductStep Relation Simple SumStep Term).
    expr_weight l.low + option_weight expr_weight l.high + 1) (sym (outs-Member' low high))

group_hidden : (e : Expr) → row_first_weight (hidden-the_row-Expr-0 e) ≡ expr_weight e
unfolding hidden-the_row-Expr-0 denote.Hole.Carrier.hidden
group_hidden e = refl

pub group_weighs : (f : Factor) (e : Expr) (place : ℕ) → f ≡ factor.Group e place
    → factor_weight f ≡ expr_weight e + 1
group_weighs f e place h = ap factor_weight h ∙ ap (λ k. k + 1) (group_hidden e)

not_hidden : (f : Factor) → row_factor_weight (hidden-the_row-Factor-1 f) ≡ factor_weight f
unfolding hidden-the_row-Factor-1 denote.Hole.Carrier.hidden
not_hidden f = refl

pub not_weighs : (f g : Factor) (place : ℕ) → f ≡ factor.Not g place
    → factor_weight f ≡ factor_weight g + 2
not_weighs f g place h = ap factor_weight h ∙ ap (λ k. k + 2) (not_hidden g)

pub set_weighs : (f : Factor) (ms : List Member) (place : ℕ) → f ≡ factor.Set ms place
    → factor_weight f ≡ members_weight ms + 3
set_weighs f ms place h = ap factor_weight h ∙ ap (λ k. k + 3)
    (members_row _ (hidden-the_row-Member-2 ms)
    ∙ ap members_weight (items_hidden-the_row-Member-2 ms))

pub variable_weighs : (f : Factor) (u : Used) (path : List Selector) (place : ℕ)
    → f ≡ factor.Variable u path place → factor_weight f ≡ path_weight path + 5
variable_weighs f u path place h = ap factor_weight h ∙ ap (λ k. k + 5)
    (selectors_row _ (hidden-the_row-Selector-3 path)
    ∙ ap path_weight (items_hidden-the_row-Selector-3 path))

pub call_weighs : (f : Factor) (u : Used) (es : List Expr) (place : ℕ) → f ≡ factor.Call u es place
    → factor_weight f ≡ exprs_weight es + 5
call_weighs f u es place h = ap factor_weight h ∙ ap (λ k. k + 5)
    (exprs_row _ (hidden-the_row-Expr-4 es) ∙ ap exprs_weight (items_hidden-the_row-Expr-4 es))

pub index_weighs : (x : Selector) (es : List Expr) (place : ℕ) → x ≡ selector.Index es place
    → selector_weight x ≡ exprs_weight es + 3
index_weighs x es place h = ap selector_weight h ∙ ap (λ k. k + 3)
    (exprs_row _ (hidden-the_row-Expr-4 es) ∙ ap exprs_weight (items_hidden-the_row-Expr-4 es))

-- VARIABLES THAT EXPRESSIONS ARE

none_some : {P : Type 0} (y : Used × List Selector)
    → ◌≡◌ {A = Option (Used × List Selector)} None (Some y) → P
none_some y h = absurd (cc)

one_some : (x y : Used × List Selector)
    → ◌≡◌ {A = Option (Used × List Selector)} (Some x) (Some y)
    → path_weight x.1 ≡ path_weight y.1
one_some x y h = let e : x ≡ y = cc in ap (λ (z : Used × List Selector). path_weight z.1) e

bare_factor_weighs : (x : Factor) (y : Used × List Selector) → bare_factor x ≡ Some y
    → path_weight y.1 + 5 ≤ factor_weight x
unfolding out-Factor denote.Hole.Carrier.out
bare_factor_weighs (factor.Number n place) y h = none_some y h
bare_factor_weighs (factor.Character c place) y h = none_some y h
bare_factor_weighs (factor.Group' p e place) y h = none_some y h
bare_factor_weighs (factor.Not' p f place) y h = none_some y h
bare_factor_weighs (factor.Set' n members place) y h = none_some y h
bare_factor_weighs (factor.Variable' name n path place) y h =
    omega (
      arith,
      selectors_row _ path
          ∙ ap path_weight (sym (items_shown-the_row-Selector-3 n path)),
      one_some _ y h,
    )
bare_factor_weighs (factor.Call' name n arguments place) y h = none_some y h

bare_product_weighs : (x : Factor) (ss : List ProductStep) (y : Used × List Selector)
    → bare_product x ss ≡ Some y → path_weight y.1 + 5 ≤ factor_weight x
bare_product_weighs x [] y h = bare_factor_weighs x y h
bare_product_weighs x (s ∷ ss) y h = none_some y h

bare_sum_weighs : (sign : Option Sign) (t : Term) (ss : List SumStep) (y : Used × List Selector)
    → bare_sum sign t ss ≡ Some y → path_weight y.1 + 5 ≤ term_weight t
bare_sum_weighs None t [] y h = omega (
  arith,
  term_weighs t,
  bare_product_weighs (out-Term t).first (out-Term t).rest y h,
)
bare_sum_weighs None t (s ∷ ss) y h = none_some y h
bare_sum_weighs (Some sign) t ss y h = none_some y h

bare_by_weighs : (s : Simple) (r : Option Relation) (y : Used × List Selector)
    → bare_by s r ≡ Some y → path_weight y.1 + 5 ≤ simple_weight s
bare_by_weighs s None y h = omega (
  arith,
  simple_weighs s,
  bare_sum_weighs (out-Simple s).sign (out-Simple s).first (out-Simple s).rest y h,
)
bare_by_weighs s (Some r) y h = none_some y h

pub bare_weighs : (e : Expr) (y : Used × List Selector) → bare e ≡ Some y
    → path_weight y.1 + 6 ≤ expr_weight e
bare_weighs e y h = omega (
  arith,
  expr_weighs e,
  bare_by_weighs (out-Expr e).left (out-Expr e).relation y h,
)
