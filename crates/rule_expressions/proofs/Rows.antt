-- Expressions by the lists, boxes and options that they are made of.
use Rattle.std.specs.Prelude.{flat_map}
use Rattle.std.proofs.Common.{◌≡◌, refl, sym, ap, ◌∙◌, ℕ, ◌+◌, ◌&&◌, List, ◌++◌, Option, Some, None}
use Rattle.est_syntax.specs.declared.expression.Expr.{Expr, Expr', out-Expr, outs-Expr'}
use Rattle.est_syntax.specs.declared.expression.Expr.{Held-Expr-relation, Expr-relation-None'}
use Rattle.est_syntax.specs.declared.expression.Expr.{Expr-relation-Some', view-Expr-relation}
use Rattle.est_syntax.specs.declared.expression.Factor.{Factor, Row_of-Expr, end_of-Expr}
use Rattle.est_syntax.specs.declared.expression.Factor.{more_of-Expr, items-the_row-Expr}
use Rattle.est_syntax.specs.declared.expression.Factor.{items_hidden-the_row-Expr-4}
use Rattle.est_syntax.specs.declared.expression.Factor.{Row_of-Member, end_of-Member}
use Rattle.est_syntax.specs.declared.expression.Factor.{more_of-Member, items-the_row-Member}
use Rattle.est_syntax.specs.declared.expression.Factor.{items_hidden-the_row-Member-2}
use Rattle.est_syntax.specs.declared.expression.Factor.{Row_of-Selector, end_of-Selector}
use Rattle.est_syntax.specs.declared.expression.Factor.{more_of-Selector, items-the_row-Selector}
use Rattle.est_syntax.specs.declared.expression.Factor.{items_hidden-the_row-Selector-3}
use Rattle.est_syntax.specs.declared.expression.Factor.TheBlock.{hidden-the_row-Expr-0}
use Rattle.est_syntax.specs.declared.expression.Factor.TheBlock.{hidden-the_row-Factor-1}
use Rattle.est_syntax.specs.declared.expression.Factor.TheBlock.{hidden-the_row-Member-2}
use Rattle.est_syntax.specs.declared.expression.Factor.TheBlock.{hidden-the_row-Selector-3}
use Rattle.est_syntax.specs.declared.expression.Factor.TheBlock.{hidden-the_row-Expr-4}
use Rattle.est_syntax.specs.declared.expression.Factor.TheOpen.{Expr-F, Member-F, Relation-F}
use Rattle.est_syntax.specs.declared.expression.Factor.TheOpen.{Simple-F, SumStep-F, Term-F}
use Rattle.est_syntax.specs.declared.expression.Factor.TheVariants as factor
use Rattle.est_syntax.specs.declared.expression.Member.{Member, Member', out-Member, outs-Member'}
use Rattle.est_syntax.specs.declared.expression.Member.{Held-Member-high, Member-high-None'}
use Rattle.est_syntax.specs.declared.expression.Member.{Member-high-Some', view-Member-high}
use Rattle.est_syntax.specs.declared.expression.ProductStep.{ProductStep}
use Rattle.est_syntax.specs.declared.expression.Relation.{Relation, Relation'}
use Rattle.est_syntax.specs.declared.expression.Relation.{out-Relation, outs-Relation'}
use Rattle.est_syntax.specs.declared.expression.Selector.{Selector}
use Rattle.est_syntax.specs.declared.expression.Selector.TheVariants as selector
use Rattle.est_syntax.specs.declared.expression.Simple.{Simple, Simple', out-Simple, outs-Simple'}
use Rattle.est_syntax.specs.declared.expression.Simple.{Row_of-SumStep, end_of-SumStep}
use Rattle.est_syntax.specs.declared.expression.Simple.{more_of-SumStep, items-the_row-SumStep}
use Rattle.est_syntax.specs.declared.expression.Simple.{items_shown-the_row-SumStep-5}
use Rattle.est_syntax.specs.declared.expression.SumStep.{SumStep, SumStep'}
use Rattle.est_syntax.specs.declared.expression.SumStep.{out-SumStep, outs-SumStep'}
use Rattle.est_syntax.specs.declared.expression.Term.{Term, Term', out-Term, outs-Term'}
use Rattle.est_syntax.specs.declared.expression.Term.{Row_of-ProductStep, end_of-ProductStep}
use Rattle.est_syntax.specs.declared.expression.Term.{more_of-ProductStep}
use Rattle.est_syntax.specs.declared.expression.Term.{items-the_row-ProductStep}
use Rattle.est_syntax.specs.declared.expression.Term.{items_shown-the_row-ProductStep-6}
use Rattle.est_syntax.specs.declared.name.Used.{Used}
use Rattle.est_syntax.specs.declared.rule.Fault.{Fault}
use Rattle.rule_scope.specs.LeastSoFar.{least_with}
use Rattle.rule_scope.specs.Outline.{Outline}
use Rattle.est_values.specs.Types.{Yielded, Set}
use Rattle.rule_expressions.specs.declared.operators.Wanted.TheVariants as wanted
use Rattle.rule_expressions.specs.declared.receivers.Receiver.{Receiver}
use Rattle.rule_expressions.specs.Operators.{kept, wants, operated, signed, sign_faults}
use Rattle.rule_expressions.specs.Operators.{with_member, member_disagrees}
use Rattle.rule_expressions.specs.Selections.{Selection, head, head_faults}
use Rattle.rule_expressions.specs.ExpressionPlaces.{factor_place, term_place, sign_place}
use Rattle.rule_expressions.specs.ExpressionPlaces.{simple_place, expr_place}
use Rattle.rule_expressions.specs.Variables.{component, chosen_by, index_faults}
use Rattle.rule_expressions.specs.Variables.{selected_type, end_faults}
use Rattle.rule_expressions.specs.Calls.{subscripts_of, is_received, callee, callee_faults, call_by}
use Rattle.rule_expressions.specs.Expressions.{expr_type, held_relation, with_simple, simple_type}
use Rattle.rule_expressions.specs.Expressions.{row_sum, with_term, term_type, row_product}
use Rattle.rule_expressions.specs.Expressions.{factor_type, row_first, row_factor, row_members}
use Rattle.rule_expressions.specs.Expressions.{with_members, held_high, row_taken, row_selected}
use Rattle.rule_expressions.specs.Expressions.{selection, row_components, operation_faults}
use Rattle.rule_expressions.specs.Expressions.{expr_faults, held_relation_faults}
use Rattle.rule_expressions.specs.Expressions.{with_simple_faults, simple_faults, row_sum_faults}
use Rattle.rule_expressions.specs.Expressions.{with_term_faults, term_faults, row_product_faults}
use Rattle.rule_expressions.specs.Expressions.{factor_faults, box_faults, row_faults}
use Rattle.rule_expressions.specs.Expressions.{row_not_faults, row_member_faults}
use Rattle.rule_expressions.specs.Expressions.{with_members_faults, held_high_faults}
use Rattle.rule_expressions.specs.Expressions.{row_taken_faults, row_selected_faults}
use Rattle.rule_expressions.specs.Expressions.{selection_faults, row_component_faults, related}
use Rattle.rule_expressions.specs.Expressions.{related_faults, summed, summed_faults, multiplied}
use Rattle.rule_expressions.specs.Expressions.{multiplied_faults, first_type}
use Rattle.rule_expressions.specs.Expressions.{are_taken, one_faults, are_taken_faults, components}
use Rattle.rule_expressions.specs.Expressions.{one_component_faults, components_faults, with_index}
use Rattle.rule_expressions.specs.Expressions.{with_index_faults, selected, selected_faults}
use Rattle.rule_expressions.specs.Expressions.{high_type, high_faults, members, members_faults}

-- places
pub term_place_out : (t : Term) → term_place t ≡ factor_place (out-Term t).first
term_place_out (Term' first n rest) =
    ap (λ (l : Term-F Factor Selector Expr Member ProductStep Relation Simple SumStep Term).
    factor_place l.first) (sym (outs-Term' first n rest))

pub simple_place_out : (s : Simple)
    → simple_place s ≡ sign_place (out-Simple s).sign (term_place (out-Simple s).first)
simple_place_out (Simple' sign first n rest) =
    ap (λ (l : Simple-F Factor Selector Expr Member ProductStep Relation Simple SumStep Term).
    sign_place l.sign (term_place l.first)) (sym (outs-Simple' sign first n rest))

pub ruleset places = (term_place_out, simple_place_out)

-- boxes
box_type : (o : Outline) (e : Expr) → row_first o (hidden-the_row-Expr-0 e) ≡ expr_type o e
unfolding hidden-the_row-Expr-0 denote.Hole.Carrier.hidden
box_type o e = refl

box_broken : (o : Outline) (e : Expr) → box_faults o (hidden-the_row-Expr-0 e) ≡ expr_faults o e
unfolding hidden-the_row-Expr-0 denote.Hole.Carrier.hidden
box_broken o e = refl

not_type : (o : Outline) (f : Factor) → row_factor o (hidden-the_row-Factor-1 f) ≡ factor_type o f
unfolding hidden-the_row-Factor-1 denote.Hole.Carrier.hidden
not_type o f = refl

not_broken : (o : Outline) (f : Factor) → row_not_faults o (hidden-the_row-Factor-1 f)
    ≡ factor_faults o f ++ wants wanted.Boolean (factor_type o f) (factor_place f)
unfolding hidden-the_row-Factor-1 denote.Hole.Carrier.hidden
not_broken o f = refl

-- rows of expressions
first_row : (o : Outline) (n : _) (row : Row_of-Expr n)
    → row_first o row ≡ first_type o (items-the_row-Expr n row)
first_row o n end_of-Expr = refl
first_row o n (more_of-Expr e rest) = refl

exprs_row : (o : Outline) (n : _) (row : Row_of-Expr n)
    → row_faults o row ≡ flat_map (expr_faults o) (items-the_row-Expr n row)
exprs_row o n end_of-Expr = refl
exprs_row o n (more_of-Expr e rest) = ap (λ l. expr_faults o e ++ l) (exprs_row o _ rest)

taken_row : (o : Outline) (r : Option Receiver) (i : ℕ) (n : _) (row : Row_of-Expr n)
    → row_taken o r i row ≡ are_taken o r i (items-the_row-Expr n row)
taken_row o r i n end_of-Expr = refl
taken_row o r i n (more_of-Expr e rest) = ap (λ b. is_received o r i (expr_type o e) && b)
    (taken_row o r (i + 1) _ rest)

taken_broken_row : (o : Outline) (r : Option Receiver) (i name : ℕ) (n : _) (row : Row_of-Expr n)
    → row_taken_faults o r i name row ≡ are_taken_faults o r i name (items-the_row-Expr n row)
taken_broken_row o r i name n end_of-Expr = refl
taken_broken_row o r i name n (more_of-Expr e rest) = ap (λ l. one_faults o r i e ++ l)
    (taken_broken_row o r (i + 1) name _ rest)

components_row : (o : Outline) (s : Selection) (n : _) (row : Row_of-Expr n)
    → row_components o s row ≡ components o s (items-the_row-Expr n row)
components_row o s n end_of-Expr = refl
components_row o s n (more_of-Expr e rest) = components_row o (component s (expr_type o e)) _ rest

components_broken_row : (o : Outline) (s : Selection) (name : ℕ) (n : _) (row : Row_of-Expr n)
    → row_component_faults o s name row ≡ components_faults o s name (items-the_row-Expr n row)
components_broken_row o s name n end_of-Expr = refl
components_broken_row o s name n (more_of-Expr e rest) =
    ap (λ l. one_component_faults o s name e ++ l)
    (components_broken_row o (component s (expr_type o e)) name _ rest)

first_hidden : (o : Outline) (es : List Expr) → row_first o (hidden-the_row-Expr-4 es)
    ≡ first_type o es
first_hidden o es = first_row o _ (hidden-the_row-Expr-4 es)
    ∙ ap (first_type o) (items_hidden-the_row-Expr-4 es)

exprs_hidden : (o : Outline) (es : List Expr) → row_faults o (hidden-the_row-Expr-4 es)
    ≡ flat_map (expr_faults o) es
exprs_hidden o es = exprs_row o _ (hidden-the_row-Expr-4 es)
    ∙ ap (flat_map (expr_faults o)) (items_hidden-the_row-Expr-4 es)

taken_hidden : (o : Outline) (r : Option Receiver) (es : List Expr)
    → row_taken o r 0 (hidden-the_row-Expr-4 es) ≡ are_taken o r 0 es
taken_hidden o r es = taken_row o r 0 _ (hidden-the_row-Expr-4 es)
    ∙ ap (are_taken o r 0) (items_hidden-the_row-Expr-4 es)

taken_broken_hidden : (o : Outline) (r : Option Receiver) (name : ℕ) (es : List Expr)
    → row_taken_faults o r 0 name (hidden-the_row-Expr-4 es) ≡ are_taken_faults o r 0 name es
taken_broken_hidden o r name es = taken_broken_row o r 0 name _ (hidden-the_row-Expr-4 es)
    ∙ ap (are_taken_faults o r 0 name) (items_hidden-the_row-Expr-4 es)

components_hidden : (o : Outline) (s : Selection) (es : List Expr)
    → row_components o s (hidden-the_row-Expr-4 es) ≡ components o s es
components_hidden o s es = components_row o s _ (hidden-the_row-Expr-4 es)
    ∙ ap (components o s) (items_hidden-the_row-Expr-4 es)

components_broken_hidden : (o : Outline) (s : Selection) (name : ℕ) (es : List Expr)
    → row_component_faults o s name (hidden-the_row-Expr-4 es) ≡ components_faults o s name es
components_broken_hidden o s name es = components_broken_row o s name _ (hidden-the_row-Expr-4 es)
    ∙ ap (components_faults o s name) (items_hidden-the_row-Expr-4 es)

-- rows of members and of selectors
members_row : (o : Outline) (t : Option Yielded) (n : _) (row : Row_of-Member n)
    → row_members o t row ≡ members o t (items-the_row-Member n row)
members_row o t n end_of-Member = refl
members_row o t n (more_of-Member m rest) = members_row o (with_members o t m) _ rest

members_broken_row : (o : Outline) (t : Option Yielded) (n : _) (row : Row_of-Member n)
    → row_member_faults o t row ≡ members_faults o t (items-the_row-Member n row)
members_broken_row o t n end_of-Member = refl
members_broken_row o t n (more_of-Member m rest) = ap (λ l. with_members_faults o t m ++ l)
    (members_broken_row o (with_members o t m) _ rest)

members_hidden : (o : Outline) (t : Option Yielded) (ms : List Member)
    → row_members o t (hidden-the_row-Member-2 ms) ≡ members o t ms
members_hidden o t ms = members_row o t _ (hidden-the_row-Member-2 ms)
    ∙ ap (members o t) (items_hidden-the_row-Member-2 ms)

members_broken_hidden : (o : Outline) (t : Option Yielded) (ms : List Member)
    → row_member_faults o t (hidden-the_row-Member-2 ms) ≡ members_faults o t ms
members_broken_hidden o t ms = members_broken_row o t _ (hidden-the_row-Member-2 ms)
    ∙ ap (members_faults o t) (items_hidden-the_row-Member-2 ms)

selected_row : (o : Outline) (s : Selection) (n : _) (row : Row_of-Selector n)
    → row_selected o s row ≡ selected o s (items-the_row-Selector n row)
selected_row o s n end_of-Selector = refl
selected_row o s n (more_of-Selector x rest) = selected_row o (selection o s x) _ rest

selected_broken_row : (o : Outline) (s : Selection) (name : ℕ) (n : _) (row : Row_of-Selector n)
    → row_selected_faults o s name row ≡ selected_faults o s name (items-the_row-Selector n row)
selected_broken_row o s name n end_of-Selector = refl
selected_broken_row o s name n (more_of-Selector x rest) =
    ap (λ l. selection_faults o s name x ++ l) (selected_broken_row o (selection o s x) name _ rest)

selected_hidden : (o : Outline) (s : Selection) (xs : List Selector)
    → row_selected o s (hidden-the_row-Selector-3 xs) ≡ selected o s xs
selected_hidden o s xs = selected_row o s _ (hidden-the_row-Selector-3 xs)
    ∙ ap (selected o s) (items_hidden-the_row-Selector-3 xs)

selected_broken_hidden : (o : Outline) (s : Selection) (name : ℕ) (xs : List Selector)
    → row_selected_faults o s name (hidden-the_row-Selector-3 xs) ≡ selected_faults o s name xs
selected_broken_hidden o s name xs = selected_broken_row o s name _ (hidden-the_row-Selector-3 xs)
    ∙ ap (selected_faults o s name) (items_hidden-the_row-Selector-3 xs)

-- operands
pub group_type_at : (o : Outline) (f : Factor) (e : Expr) (place : ℕ) → f ≡ factor.Group e place
    → factor_type o f ≡ expr_type o e
group_type_at o f e place h = ap (factor_type o) h ∙ box_type o e

pub group_at : (o : Outline) (f : Factor) (e : Expr) (place : ℕ) → f ≡ factor.Group e place
    → factor_faults o f ≡ expr_faults o e
group_at o f e place h = ap (factor_faults o) h ∙ box_broken o e

pub not_type_at : (o : Outline) (f other : Factor) (place : ℕ) → f ≡ factor.Not other place
    → factor_type o f ≡ kept wanted.Boolean (factor_type o other)
not_type_at o f other place h = ap (factor_type o) h ∙ ap (kept wanted.Boolean) (not_type o other)

pub not_at : (o : Outline) (f other : Factor) (place : ℕ) → f ≡ factor.Not other place
    → factor_faults o f ≡ factor_faults o other ++ wants wanted.Boolean (factor_type o other)
    (factor_place other)
not_at o f other place h = ap (factor_faults o) h ∙ not_broken o other

pub set_type_at : (o : Outline) (f : Factor) (ms : List Member) (place : ℕ)
    → f ≡ factor.Set ms place → factor_type o f ≡ members o (Some (Set None)) ms
set_type_at o f ms place h = ap (factor_type o) h ∙ members_hidden o (Some (Set None)) ms

pub set_at : (o : Outline) (f : Factor) (ms : List Member) (place : ℕ) → f ≡ factor.Set ms place
    → factor_faults o f ≡ members_faults o (Some (Set None)) ms
set_at o f ms place h = ap (factor_faults o) h ∙ members_broken_hidden o (Some (Set None)) ms

pub variable_type_at : (o : Outline) (f : Factor) (name : Used) (path : List Selector) (place : ℕ)
    → f ≡ factor.Variable name path place
    → factor_type o f ≡ selected_type (selected o (head o name) path)
variable_type_at o f name path place h = ap (factor_type o) h
    ∙ ap selected_type (selected_hidden o (head o name) path)

pub variable_at : (o : Outline) (f : Factor) (name : Used) (path : List Selector) (place : ℕ)
    → f ≡ factor.Variable name path place
    → factor_faults o f ≡ head_faults o name ++ selected_faults o (head o name) name.place path
    ++ end_faults (selected o (head o name) path) name.place
variable_at o f name path place h =
    ap (factor_faults o) h
    ∙ (λ i. head_faults o name ++ selected_broken_hidden o (head o name) name.place path i
    ++ end_faults (selected_hidden o (head o name) path i) name.place)

pub call_type_at : (o : Outline) (f : Factor) (name : Used) (es : List Expr) (place : ℕ)
    → f ≡ factor.Call name es place
    → factor_type o f ≡ call_by o (callee o name) (are_taken o (callee o name) 0 es)
    (first_type o es)
call_type_at o f name es place h =
    ap (factor_type o) h ∙ (λ i. call_by o (callee o name) (taken_hidden o (callee o name) es i)
    (first_hidden o es i))

pub call_at : (o : Outline) (f : Factor) (name : Used) (es : List Expr) (place : ℕ)
    → f ≡ factor.Call name es place
    → factor_faults o f ≡ callee_faults o name ++ are_taken_faults o (callee o name) 0 name.place es
call_at o f name es place h = ap (factor_faults o) h ∙ ap (λ l. callee_faults o name ++ l)
    (taken_broken_hidden o (callee o name) name.place es)

-- selectors
pub index_selection_at : (o : Outline) (s : Selection) (x : Selector) (es : List Expr) (place : ℕ)
    → x ≡ selector.Index es place
    → selection o s x ≡ with_index o s es
index_selection_at o s x es place h =
    ap (selection o s) h ∙ (λ i. chosen_by s (components_hidden o s es i)
    (taken_hidden o (subscripts_of s) es i))

pub index_at : (o : Outline) (s : Selection) (name : ℕ) (x : Selector) (es : List Expr) (place : ℕ)
    → x ≡ selector.Index es place
    → selection_faults o s name x ≡ with_index_faults o s name es
index_at o s name x es place h =
    ap (selection_faults o s name) h
    ∙ (λ i. index_faults s (components_broken_hidden o s name es i)
    (taken_broken_hidden o (subscripts_of s) name es i) (exprs_hidden o es i) name)

-- steps
sum_row : (o : Outline) (t : Option Yielded) (n : _) (row : Row_of-SumStep n)
    → row_sum o t row ≡ summed o t (items-the_row-SumStep n row)
sum_row o t n end_of-SumStep = refl
sum_row o t n (more_of-SumStep s rest) = sum_row o (with_term o t s) _ rest

sum_broken_row : (o : Outline) (t : Option Yielded) (place : ℕ) (n : _) (row : Row_of-SumStep n)
    → row_sum_faults o t place row ≡ summed_faults o t place (items-the_row-SumStep n row)
sum_broken_row o t place n end_of-SumStep = refl
sum_broken_row o t place n (more_of-SumStep s rest) = ap (λ l. with_term_faults o t place s ++ l)
    (sum_broken_row o (with_term o t s) place _ rest)

product_row : (o : Outline) (t : Option Yielded) (n : _) (row : Row_of-ProductStep n)
    → row_product o t row ≡ multiplied o t (items-the_row-ProductStep n row)
product_row o t n end_of-ProductStep = refl
product_row o t n (more_of-ProductStep op right rest) = product_row o
    (operated op t (factor_type o right)) _ rest

product_broken_row : (o : Outline) (t : Option Yielded) (place : ℕ) (n : _)
    (row : Row_of-ProductStep n) → row_product_faults o t place row ≡ multiplied_faults o t place
    (items-the_row-ProductStep n row)
product_broken_row o t place n end_of-ProductStep = refl
product_broken_row o t place n (more_of-ProductStep op right rest) =
    ap (λ l. operation_faults op t place (factor_faults o right) (factor_type o right)
    (factor_place right) ++ l)
    (product_broken_row o (operated op t (factor_type o right)) place _ rest)

relation_viewed : (o : Outline) (t : Option Yielded) (held : Held-Expr-relation)
    → held_relation o t held ≡ related o t (view-Expr-relation held)
relation_viewed o t Expr-relation-None' = refl
relation_viewed o t (Expr-relation-Some' r) = refl

relation_broken_viewed : (o : Outline) (t : Option Yielded) (place : ℕ) (held : Held-Expr-relation)
    → held_relation_faults o t place held ≡ related_faults o t place (view-Expr-relation held)
relation_broken_viewed o t place Expr-relation-None' = refl
relation_broken_viewed o t place (Expr-relation-Some' r) = refl

high_viewed : (o : Outline) (t : Option Yielded) (held : Held-Member-high)
    → held_high o t held ≡ high_type o t (view-Member-high held)
high_viewed o t Member-high-None' = refl
high_viewed o t (Member-high-Some' e) = refl

high_broken_viewed : (o : Outline) (t : Option Yielded) (held : Held-Member-high)
    → held_high_faults o t held ≡ high_faults o t (view-Member-high held)
high_broken_viewed o t Member-high-None' = refl
high_broken_viewed o t (Member-high-Some' e) = refl

-- expressions, sums, products, members
pub expr_type_out : (o : Outline) (e : Expr)
    → expr_type o e ≡ related o (simple_type o (out-Expr e).left) (out-Expr e).relation
expr_type_out o (Expr' left held place) =
    relation_viewed o (simple_type o left) held
    ∙ ap (λ (l : Expr-F Factor Selector Expr Member ProductStep Relation Simple SumStep Term).
    related o (simple_type o l.left) l.relation) (sym (outs-Expr' left held place))

pub expr_out : (o : Outline) (e : Expr)
    → expr_faults o e ≡ simple_faults o (out-Expr e).left ++ related_faults o
    (simple_type o (out-Expr e).left) (out-Expr e).place (out-Expr e).relation
expr_out o (Expr' left held place) =
    ap (λ l. simple_faults o left ++ l) (relation_broken_viewed o (simple_type o left) place held)
    ∙ ap (λ (l : Expr-F Factor Selector Expr Member ProductStep Relation Simple SumStep Term).
    simple_faults o l.left ++ related_faults o (simple_type o l.left) l.place l.relation)
    (sym (outs-Expr' left held place))

pub relation_type_out : (o : Outline) (t : Option Yielded) (r : Relation)
    → with_simple o t r ≡ operated (out-Relation r).operator t
    (simple_type o (out-Relation r).right)
relation_type_out o t (Relation' op right) =
    ap (λ (l : Relation-F Factor Selector Expr Member ProductStep Relation Simple SumStep Term).
    operated l.operator t (simple_type o l.right)) (sym (outs-Relation' op right))

pub relation_out : (o : Outline) (t : Option Yielded) (place : ℕ) (r : Relation)
    → with_simple_faults o t place r ≡ operation_faults (out-Relation r).operator t place
    (simple_faults o (out-Relation r).right) (simple_type o (out-Relation r).right)
    (simple_place (out-Relation r).right)
relation_out o t place (Relation' op right) =
    ap (λ (l : Relation-F Factor Selector Expr Member ProductStep Relation Simple SumStep Term).
    operation_faults l.operator t place (simple_faults o l.right) (simple_type o l.right)
    (simple_place l.right)) (sym (outs-Relation' op right))

pub simple_type_out : (o : Outline) (s : Simple)
    → simple_type o s ≡ summed o (signed (out-Simple s).sign (term_type o (out-Simple s).first))
    (out-Simple s).rest
simple_type_out o (Simple' sign first n rest) =
    sum_row o (signed sign (term_type o first)) _ rest
    ∙ ap (summed o (signed sign (term_type o first))) (sym (items_shown-the_row-SumStep-5 n rest))
    ∙ ap (λ (l : Simple-F Factor Selector Expr Member ProductStep Relation Simple SumStep Term).
    summed o (signed l.sign (term_type o l.first)) l.rest)
    (sym (outs-Simple' sign first n rest))

pub simple_out : (o : Outline) (s : Simple)
    → simple_faults o s ≡ term_faults o (out-Simple s).first
    ++ sign_faults (out-Simple s).sign (term_type o (out-Simple s).first)
    (term_place (out-Simple s).first)
    ++ summed_faults o (signed (out-Simple s).sign (term_type o (out-Simple s).first))
    (sign_place (out-Simple s).sign (term_place (out-Simple s).first)) (out-Simple s).rest
simple_out o (Simple' sign first n rest) =
    ap (λ l. term_faults o first ++ sign_faults sign (term_type o first) (term_place first) ++ l)
    (sum_broken_row o (signed sign (term_type o first)) (sign_place sign (term_place first)) _ rest
    ∙ ap (summed_faults o (signed sign (term_type o first)) (sign_place sign (term_place first)))
    (sym (items_shown-the_row-SumStep-5 n rest)))
    ∙ ap (λ (l : Simple-F Factor Selector Expr Member ProductStep Relation Simple SumStep Term).
    term_faults o l.first ++ sign_faults l.sign (term_type o l.first) (term_place l.first)
    ++ summed_faults o (signed l.sign (term_type o l.first))
    (sign_place l.sign (term_place l.first)) l.rest)
    (sym (outs-Simple' sign first n rest))

pub sum_step_type_out : (o : Outline) (t : Option Yielded) (s : SumStep)
    → with_term o t s ≡ operated (out-SumStep s).operator t (term_type o (out-SumStep s).right)
sum_step_type_out o t (SumStep' op right) =
    ap (λ (l : SumStep-F Factor Selector Expr Member ProductStep Relation Simple SumStep Term).
    operated l.operator t (term_type o l.right)) (sym (outs-SumStep' op right))

pub sum_step_out : (o : Outline) (t : Option Yielded) (place : ℕ) (s : SumStep)
    → with_term_faults o t place s ≡ operation_faults (out-SumStep s).operator t place
    (term_faults o (out-SumStep s).right) (term_type o (out-SumStep s).right)
    (term_place (out-SumStep s).right)
sum_step_out o t place (SumStep' op right) =
    ap (λ (l : SumStep-F Factor Selector Expr Member ProductStep Relation Simple SumStep Term).
    operation_faults l.operator t place (term_faults o l.right) (term_type o l.right)
    (term_place l.right)) (sym (outs-SumStep' op right))

pub term_type_out : (o : Outline) (t : Term)
    → term_type o t ≡ multiplied o (factor_type o (out-Term t).first) (out-Term t).rest
term_type_out o (Term' first n rest) =
    product_row o (factor_type o first) _ rest
    ∙ ap (multiplied o (factor_type o first)) (sym (items_shown-the_row-ProductStep-6 n rest))
    ∙ ap (λ (l : Term-F Factor Selector Expr Member ProductStep Relation Simple SumStep Term).
    multiplied o (factor_type o l.first) l.rest) (sym (outs-Term' first n rest))

pub term_out : (o : Outline) (t : Term)
    → term_faults o t ≡ factor_faults o (out-Term t).first ++ multiplied_faults o
    (factor_type o (out-Term t).first) (factor_place (out-Term t).first) (out-Term t).rest
term_out o (Term' first n rest) =
    ap (λ l. factor_faults o first ++ l)
    (product_broken_row o (factor_type o first) (factor_place first) _ rest
    ∙ ap (multiplied_faults o (factor_type o first) (factor_place first))
    (sym (items_shown-the_row-ProductStep-6 n rest)))
    ∙ ap (λ (l : Term-F Factor Selector Expr Member ProductStep Relation Simple SumStep Term).
    factor_faults o l.first ++ multiplied_faults o (factor_type o l.first)
    (factor_place l.first) l.rest) (sym (outs-Term' first n rest))

pub member_type_out : (o : Outline) (t : Option Yielded) (m : Member)
    → with_members o t m ≡ with_member t (high_type o (expr_type o (out-Member m).low)
    (out-Member m).high)
member_type_out o t (Member' low held) =
    ap (with_member t) (high_viewed o (expr_type o low) held)
    ∙ ap (λ (l : Member-F Factor Selector Expr Member ProductStep Relation Simple SumStep Term).
    with_member t (high_type o (expr_type o l.low) l.high)) (sym (outs-Member' low held))

pub member_out : (o : Outline) (t : Option Yielded) (m : Member)
    → with_members_faults o t m ≡ expr_faults o (out-Member m).low ++ wants wanted.Ordinal
    (expr_type o (out-Member m).low) (expr_place (out-Member m).low)
    ++ high_faults o (expr_type o (out-Member m).low) (out-Member m).high ++ member_disagrees t
    (expr_type o (out-Member m).low) (expr_place (out-Member m).low)
member_out o t (Member' low held) =
    ap (λ l. expr_faults o low ++ wants wanted.Ordinal (expr_type o low) (expr_place low) ++ l
    ++ member_disagrees t (expr_type o low) (expr_place low))
    (high_broken_viewed o (expr_type o low) held)
    ∙ ap (λ (l : Member-F Factor Selector Expr Member ProductStep Relation Simple SumStep Term).
    expr_faults o l.low ++ wants wanted.Ordinal (expr_type o l.low) (expr_place l.low)
    ++ high_faults o (expr_type o l.low) l.high ++ member_disagrees t (expr_type o l.low)
    (expr_place l.low))
    (sym (outs-Member' low held))

-- what the functions over expressions need
pub ruleset rows = (
  expr_type_out,
  expr_out,
  relation_type_out,
  relation_out,
  simple_type_out,
  simple_out,
  sum_step_type_out,
  sum_step_out,
  term_type_out,
  term_out,
  member_type_out,
  member_out,
  group_type_at,
  group_at,
  not_type_at,
  not_at,
  set_type_at,
  set_at,
  variable_type_at,
  variable_at,
  call_type_at,
  call_at,
  index_selection_at,
  index_at,
)

-- what checking the parts of an operand answers
pub group_yields : (o : Outline) (f : Factor) (e held : Expr) (place : ℕ) (t : Option Yielded)
    → f ≡ factor.Group e place → held ≡ e → t ≡ expr_type o held → t ≡ factor_type o f
group_yields o f e held place t is holds h = h ∙ ap (expr_type o) holds
    ∙ sym (group_type_at o f e place is)

pub variable_gives : (o : Outline) (f : Factor) (name : Used) (path held : List Selector)
    (place : ℕ) (t : Option Yielded) → f ≡ factor.Variable name path place → held ≡ path
    → t ≡ selected_type (selected o (head o name) held) → t ≡ factor_type o f
variable_gives o f name path held place t is holds h =
    h ∙ ap (λ l. selected_type (selected o (head o name) l)) holds
    ∙ sym (variable_type_at o f name path place is)

pub call_gives : (o : Outline) (f : Factor) (name : Used) (es held : List Expr) (place : ℕ)
    (t : Option Yielded) → f ≡ factor.Call name es place → held ≡ es
    → t ≡ call_by o (callee o name) (are_taken o (callee o name) 0 held) (first_type o held)
    → t ≡ factor_type o f
call_gives o f name es held place t is holds h =
    h ∙ ap (λ l. call_by o (callee o name) (are_taken o (callee o name) 0 l) (first_type o l)) holds
    ∙ sym (call_type_at o f name es place is)

pub call_breaks : (o : Outline) (f : Factor) (name : Used) (es held : List Expr) (place : ℕ)
    (before after : Option Fault) → f ≡ factor.Call name es place → held ≡ es
    → after ≡ least_with before (callee_faults o name ++ are_taken_faults o (callee o name) 0
    name.place held) → after ≡ least_with before (factor_faults o f)
call_breaks o f name es held place before after is holds h =
    h ∙ ap (λ l. least_with before (callee_faults o name ++ are_taken_faults o (callee o name) 0
    name.place l)) holds
    ∙ ap (least_with before) (sym (call_at o f name es place is))
