-- The meaning of each form of expression by the lists, boxes and options that it is made of.
use Rattle.std.proofs.Common.{◌≡◌, refl, sym, ap, ◌∙◌, ℕ, List, [], ◌∷◌, ◌++◌, Option}
use Rattle.std.specs.Prelude.{ℤ}
use Rattle.est_syntax.specs.declared.expression.Expr.{Expr, Expr', out-Expr, outs-Expr'}
use Rattle.est_syntax.specs.declared.expression.Expr.{Held-Expr-relation, Expr-relation-None'}
use Rattle.est_syntax.specs.declared.expression.Expr.{Expr-relation-Some', view-Expr-relation}
use Rattle.est_syntax.specs.declared.expression.Factor.{Factor, Row_of-Expr, end_of-Expr}
use Rattle.est_syntax.specs.declared.expression.Factor.{more_of-Expr, items-the_row-Expr}
use Rattle.est_syntax.specs.declared.expression.Factor.{items_hidden-the_row-Expr-4}
use Rattle.est_syntax.specs.declared.expression.Factor.{Row_of-Member, end_of-Member}
use Rattle.est_syntax.specs.declared.expression.Factor.{more_of-Member, items-the_row-Member}
use Rattle.est_syntax.specs.declared.expression.Factor.{items_hidden-the_row-Member-2}
use Rattle.est_syntax.specs.declared.expression.Factor.{Row_of-Selector, end_of-Selector}
use Rattle.est_syntax.specs.declared.expression.Factor.{more_of-Selector, items-the_row-Selector}
use Rattle.est_syntax.specs.declared.expression.Factor.{items_hidden-the_row-Selector-3}
use Rattle.est_syntax.specs.declared.expression.Factor.TheBlock.{hidden-the_row-Expr-0}
use Rattle.est_syntax.specs.declared.expression.Factor.TheBlock.{hidden-the_row-Factor-1}
use Rattle.est_syntax.specs.declared.expression.Factor.TheBlock.{hidden-the_row-Member-2}
use Rattle.est_syntax.specs.declared.expression.Factor.TheBlock.{hidden-the_row-Selector-3}
use Rattle.est_syntax.specs.declared.expression.Factor.TheBlock.{hidden-the_row-Expr-4}
use Rattle.est_syntax.specs.declared.expression.Factor.TheOpen.{Expr-F, Member-F, Relation-F}
use Rattle.est_syntax.specs.declared.expression.Factor.TheOpen.{Simple-F, SumStep-F, Term-F}
use Rattle.est_syntax.specs.declared.expression.Factor.TheVariants as factor
use Rattle.est_syntax.specs.declared.expression.Member.{Member, Member', out-Member, outs-Member'}
use Rattle.est_syntax.specs.declared.expression.Member.{Held-Member-high, Member-high-None'}
use Rattle.est_syntax.specs.declared.expression.Member.{Member-high-Some', view-Member-high}
use Rattle.est_syntax.specs.declared.expression.ProductStep.{ProductStep}
use Rattle.est_syntax.specs.declared.expression.Relation.{Relation, Relation'}
use Rattle.est_syntax.specs.declared.expression.Relation.{out-Relation, outs-Relation'}
use Rattle.est_syntax.specs.declared.expression.Selector.{Selector}
use Rattle.est_syntax.specs.declared.expression.Selector.TheVariants as selector
use Rattle.est_syntax.specs.declared.expression.Simple.{Simple, Simple', out-Simple, outs-Simple'}
use Rattle.est_syntax.specs.declared.expression.Simple.{Row_of-SumStep, end_of-SumStep}
use Rattle.est_syntax.specs.declared.expression.Simple.{more_of-SumStep, items-the_row-SumStep}
use Rattle.est_syntax.specs.declared.expression.Simple.{items_shown-the_row-SumStep-5}
use Rattle.est_syntax.specs.declared.expression.SumStep.{SumStep, SumStep'}
use Rattle.est_syntax.specs.declared.expression.SumStep.{out-SumStep, outs-SumStep'}
use Rattle.est_syntax.specs.declared.expression.Term.{Term, Term', out-Term, outs-Term'}
use Rattle.est_syntax.specs.declared.expression.Term.{Row_of-ProductStep, end_of-ProductStep}
use Rattle.est_syntax.specs.declared.expression.Term.{more_of-ProductStep}
use Rattle.est_syntax.specs.declared.expression.Term.{items-the_row-ProductStep}
use Rattle.est_syntax.specs.declared.expression.Term.{items_shown-the_row-ProductStep-6}
use Rattle.est_syntax.specs.declared.kind.Kind.{Kind}
use Rattle.est_syntax.specs.declared.name.Used.{Used}
use Rattle.est_values.specs.declared.value.Value.{Value}
use Rattle.rule_declares.specs.rule_scope.Uses.{meaning}
use Rattle.mean_blocks.specs.declared.frame.Place.{Place}
use Rattle.mean_blocks.specs.declared.frame.Slot.{Slot}
use Rattle.mean_blocks.specs.declared.frame.Slot.TheVariants as slot
use Rattle.mean_blocks.specs.Outcome.{◌>>=◌, give, lift}
use Rattle.mean_blocks.specs.SetOperators.{set_of}
use Rattle.mean_blocks.specs.NamesInRuns.{head, dims_at}
use Rattle.mean_blocks.specs.WorkingState.{View}
use Rattle.mean_blocks.specs.ValueOperators.{joined, signed, negated, ordinal}
use Rattle.mean_blocks.specs.ReachedVariables.{Reached, Component, Module, value_begun}
use Rattle.mean_blocks.specs.ReachedVariables.{with_component, with_subscript}
use Rattle.mean_blocks.specs.FunctionCalls.{valued}
use Rattle.mean_blocks.specs.ExpressionValues.{value_of, held_relation, related, simple_of}
use Rattle.mean_blocks.specs.ExpressionValues.{row_sum, with_term, term_of, row_product}
use Rattle.mean_blocks.specs.ExpressionValues.{factor_of}
use Rattle.mean_blocks.specs.ExpressionValues.{row_first, row_factor, row_members, member_of}
use Rattle.mean_blocks.specs.ExpressionValues.{held_high, row_selected, selected, row_components}
use Rattle.mean_blocks.specs.ExpressionValues.{row_subscripts, row_values, row_required, applied}
use Rattle.mean_blocks.specs.ExpressionValues.{related_in, sums_in, products_in, high_in}
use Rattle.mean_blocks.specs.ExpressionValues.{members_in, selected_in, components_in}
use Rattle.mean_blocks.specs.ExpressionValues.{subscripts_in, values_in, variable_value}
use Rattle.mean_blocks.specs.ExpressionValues.{required_in, call_value}

-- ROWS

pub sums_row : (n : _) (row : Row_of-SumStep n) (a : Value) (v : View)
    → row_sum row a v ≡ sums_in (items-the_row-SumStep n row) a v
sums_row n end_of-SumStep a v = refl
sums_row n (more_of-SumStep s rest) a v = λ i. with_term s a v >>= λ b. sums_row _ rest b v i

pub products_row : (n : _) (row : Row_of-ProductStep n) (a : Value) (v : View)
    → row_product row a v ≡ products_in (items-the_row-ProductStep n row) a v
products_row n end_of-ProductStep a v = refl
products_row n (more_of-ProductStep op right rest) a v =
    λ i. joined op a (factor_of right v) >>= λ b. products_row _ rest b v i

pub selected_row : (n : _) (row : Row_of-Selector n) (r : Reached) (v : View)
    → row_selected row r v ≡ selected_in (items-the_row-Selector n row) r v
selected_row n end_of-Selector r v = refl
selected_row n (more_of-Selector x rest) r v =
    λ i. selected x r v >>= λ q. selected_row _ rest q v i

pub values_row : (n : _) (row : Row_of-Expr n) (xs : List Slot) (v : View)
    → row_values row xs v ≡ values_in (items-the_row-Expr n row) xs v
values_row n end_of-Expr xs v = refl
values_row n (more_of-Expr e rest) xs v =
    λ i. value_of e v >>= λ a. values_row _ rest (xs ++ slot.Value a ∷ []) v i

pub required_row : (n : _) (row : Row_of-Expr n) (v : View)
    → row_required row v ≡ required_in (items-the_row-Expr n row) v
required_row n end_of-Expr v = refl
required_row n (more_of-Expr e rest) v = refl

pub members_row : (n : _) (row : Row_of-Member n) (zs : List ℤ) (v : View)
    → row_members row zs v ≡ members_in (items-the_row-Member n row) zs v
members_row n end_of-Member zs v = refl
members_row n (more_of-Member m rest) zs v =
    λ i. member_of m zs v >>= λ ys. members_row _ rest ys v i

pub components_row : (n : _) (row : Row_of-Expr n) (r : Reached) (v : View)
    → row_components row r v ≡ components_in (items-the_row-Expr n row) r v
components_row n end_of-Expr r v = refl
components_row n (more_of-Expr e rest) r v = λ i. value_of e v >>= λ a. ordinal a >>= λ z.
    with_component r z >>= λ q. components_row _ rest q v i

pub subscripts_row : (n : _) (row : Row_of-Expr n) (ks : Option (List Kind)) (zs : List ℤ) (v : View)
    → row_subscripts row ks zs v ≡ subscripts_in (items-the_row-Expr n row) ks zs v
subscripts_row n end_of-Expr ks zs v = refl
subscripts_row n (more_of-Expr e rest) ks zs v = λ i. value_of e v >>= λ a. ordinal a >>= λ z.
    with_subscript ks zs z >>= λ ys. subscripts_row _ rest ks ys v i

pub relation_view : (r : Held-Expr-relation) (a : Value) (v : View)
    → held_relation r a v ≡ related_in (view-Expr-relation r) a v
relation_view Expr-relation-None' a v = refl
relation_view (Expr-relation-Some' r) a v = refl

pub high_view : (h : Held-Member-high) (a : Value) (zs : List ℤ) (v : View)
    → held_high h a zs v ≡ high_in (view-Member-high h) a zs v
high_view Member-high-None' a zs v = refl
high_view (Member-high-Some' high) a zs v = refl

-- EXPRESSIONS

pub value_at : (e : Expr) (v : View) (n : ℕ) → value_of e v n
    ≡ (simple_of (out-Expr e).left v >>= λ a. related_in (out-Expr e).relation a v) n
value_at (Expr' left relation place) v n =
    (λ i. (simple_of left v >>= λ a. relation_view relation a v i) n)
    ∙ ap (λ (l : Expr-F Factor Selector Expr Member ProductStep Relation Simple SumStep Term).
    (simple_of l.left v >>= λ a. related_in l.relation a v) n)
    (sym (outs-Expr' left relation place))

pub related_at : (r : Relation) (a : Value) (v : View) (n : ℕ) → related r a v n
    ≡ joined (out-Relation r).operator a (simple_of (out-Relation r).right v) n
related_at (Relation' op right) a v n =
    ap (λ (l : Relation-F Factor Selector Expr Member ProductStep Relation Simple SumStep Term).
    joined l.operator a (simple_of l.right v) n) (sym (outs-Relation' op right))

pub simple_at : (s : Simple) (v : View) (n : ℕ) → simple_of s v n
    ≡ (term_of (out-Simple s).first v >>= λ a. signed (out-Simple s).sign a
    >>= λ b. sums_in (out-Simple s).rest b v) n
simple_at (Simple' sign first k rest) v n =
    (λ i. (term_of first v >>= λ a. signed sign a >>= λ b. sums_row _ rest b v i) n)
    ∙ ap (λ xs. (term_of first v >>= λ a. signed sign a >>= λ b. sums_in xs b v) n)
    (sym (items_shown-the_row-SumStep-5 k rest))
    ∙ ap (λ (l : Simple-F Factor Selector Expr Member ProductStep Relation Simple SumStep Term).
    (term_of l.first v >>= λ a. signed l.sign a >>= λ b. sums_in l.rest b v) n)
    (sym (outs-Simple' sign first k rest))

pub with_term_at : (s : SumStep) (a : Value) (v : View) (n : ℕ) → with_term s a v n
    ≡ joined (out-SumStep s).operator a (term_of (out-SumStep s).right v) n
with_term_at (SumStep' op right) a v n =
    ap (λ (l : SumStep-F Factor Selector Expr Member ProductStep Relation Simple SumStep Term).
    joined l.operator a (term_of l.right v) n) (sym (outs-SumStep' op right))

pub term_at : (t : Term) (v : View) (n : ℕ) → term_of t v n
    ≡ (factor_of (out-Term t).first v >>= λ a. products_in (out-Term t).rest a v) n
term_at (Term' first k rest) v n =
    (λ i. (factor_of first v >>= λ a. products_row _ rest a v i) n)
    ∙ ap (λ xs. (factor_of first v >>= λ a. products_in xs a v) n)
    (sym (items_shown-the_row-ProductStep-6 k rest))
    ∙ ap (λ (l : Term-F Factor Selector Expr Member ProductStep Relation Simple SumStep Term).
    (factor_of l.first v >>= λ a. products_in l.rest a v) n) (sym (outs-Term' first k rest))

group_hidden : (e : Expr) (v : View) → row_first (hidden-the_row-Expr-0 e) v ≡ value_of e v
unfolding hidden-the_row-Expr-0 denote.Hole.Carrier.hidden
group_hidden e v = refl

pub group_at : (f : Factor) (e : Expr) (place : ℕ) (v : View) (n : ℕ) → f ≡ factor.Group e place
    → factor_of f v n ≡ value_of e v n
group_at f e place v n h = ap (λ g. factor_of g v n) h ∙ ap (λ m. m n) (group_hidden e v)

pub variable_at : (f : Factor) (u : Used) (path : List Selector) (place : ℕ) (v : View) (n : ℕ)
    → f ≡ factor.Variable u path place → factor_of f v n ≡ variable_value u path v n
variable_at f u path place v n h =
    ap (λ g. factor_of g v n) h
    ∙ (λ i. valued v (head v.site.text.outline u) (value_begun v (head v.site.text.outline u)
    >>= λ r. (selected_row _ (hidden-the_row-Selector-3 path) r v
    ∙ ap (λ l. selected_in l r v) (items_hidden-the_row-Selector-3 path)) i) n)

pub call_at : (f : Factor) (u : Used) (arguments : List Expr) (place : ℕ) (v : View) (n : ℕ)
    → f ≡ factor.Call u arguments place → factor_of f v n ≡ call_value u arguments v n
call_at f u arguments place v n h =
    ap (λ g. factor_of g v n) h
    ∙ (λ i. applied v (meaning v.site.text.outline u)
    ((values_row _ (hidden-the_row-Expr-4 arguments) [] v
    ∙ ap (λ l. values_in l [] v) (items_hidden-the_row-Expr-4 arguments)) i)
    ((required_row _ (hidden-the_row-Expr-4 arguments) v
    ∙ ap (λ l. required_in l v) (items_hidden-the_row-Expr-4 arguments)) i) n)

not_hidden : (f : Factor) (v : View) → row_factor (hidden-the_row-Factor-1 f) v ≡ factor_of f v
unfolding hidden-the_row-Factor-1 denote.Hole.Carrier.hidden
not_hidden f v = refl

pub not_at : (f g : Factor) (place : ℕ) (v : View) (n : ℕ) → f ≡ factor.Not g place
    → factor_of f v n ≡ (factor_of g v >>= negated) n
not_at f g place v n h = ap (λ x. factor_of x v n) h ∙ (λ i. (not_hidden g v i >>= negated) n)

pub set_at : (f : Factor) (ms : List Member) (place : ℕ) (v : View) (n : ℕ)
    → f ≡ factor.Set ms place
    → factor_of f v n ≡ (members_in ms [] v >>= λ zs. lift (set_of zs)) n
set_at f ms place v n h =
    ap (λ x. factor_of x v n) h
    ∙ (λ i. ((members_row _ (hidden-the_row-Member-2 ms) [] v
    ∙ ap (λ l. members_in l [] v) (items_hidden-the_row-Member-2 ms)) i
    >>= λ zs. lift (set_of zs)) n)

pub member_at : (m : Member) (zs : List ℤ) (v : View) (n : ℕ) → member_of m zs v n
    ≡ (value_of (out-Member m).low v >>= λ a. high_in (out-Member m).high a zs v) n
member_at (Member' low high) zs v n =
    (λ i. (value_of low v >>= λ a. high_view high a zs v i) n)
    ∙ ap (λ (l : Member-F Factor Selector Expr Member ProductStep Relation Simple SumStep Term).
    (value_of l.low v >>= λ a. high_in l.high a zs v) n) (sym (outs-Member' low high))

pub component_at : (x : Selector) (es : List Expr) (place : ℕ) (p : Place) (k : Kind) (v : View)
    (n : ℕ) → x ≡ selector.Index es place
    → selected x (Component p k) v n ≡ components_in es (Component p k) v n
component_at x es place p k v n h =
    ap (λ y. selected y (Component p k) v n) h
    ∙ ap (λ m. m n) (components_row _ (hidden-the_row-Expr-4 es) (Component p k) v
    ∙ ap (λ l. components_in l (Component p k) v) (items_hidden-the_row-Expr-4 es))

pub subscripts_at : (x : Selector) (es : List Expr) (place p : ℕ) (zs : List ℤ) (v : View) (n : ℕ)
    → x ≡ selector.Index es place
    → selected x (Module p zs) v n
    ≡ (subscripts_in es (dims_at v.site.text.outline p) zs v >>= λ ys. give (Module p ys)) n
subscripts_at x es place p zs v n h =
    ap (λ y. selected y (Module p zs) v n) h
    ∙ (λ i. ((subscripts_row _ (hidden-the_row-Expr-4 es) (dims_at v.site.text.outline p) zs v
    ∙ ap (λ l. subscripts_in l (dims_at v.site.text.outline p) zs v)
    (items_hidden-the_row-Expr-4 es)) i >>= λ ys. give (Module p ys)) n)
