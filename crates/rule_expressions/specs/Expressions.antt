-- What expressions yield, and the rules that they break (ISO 7185, 6.7).
use Rattle.std.specs.Prelude.{flat_map}
use Rattle.std.specs.Prelude.{ℕ, ◌+◌, Bool, ◌&&◌, List, [], ◌∷◌, ◌++◌, Option, Some, None}
use Rattle.est_syntax.specs.declared.expression.Expr.{Expr, Expr', Held-Expr-relation}
use Rattle.est_syntax.specs.declared.expression.Expr.{Expr-relation-None', Expr-relation-Some'}
use Rattle.est_syntax.specs.declared.expression.Factor.{Factor, Row_of-Expr, end_of-Expr}
use Rattle.est_syntax.specs.declared.expression.Factor.{more_of-Expr, Row_of-Factor}
use Rattle.est_syntax.specs.declared.expression.Factor.{end_of-Factor, more_of-Factor}
use Rattle.est_syntax.specs.declared.expression.Factor.{Row_of-Member, end_of-Member}
use Rattle.est_syntax.specs.declared.expression.Factor.{more_of-Member, Row_of-Selector}
use Rattle.est_syntax.specs.declared.expression.Factor.{end_of-Selector, more_of-Selector}
use Rattle.est_syntax.specs.declared.expression.Factor.TheVariants as factor
use Rattle.est_syntax.specs.declared.expression.Member.{Member, Member', Held-Member-high}
use Rattle.est_syntax.specs.declared.expression.Member.{Member-high-None', Member-high-Some'}
use Rattle.est_syntax.specs.declared.expression.Operator.{Operator}
use Rattle.est_syntax.specs.declared.expression.ProductStep.{ProductStep}
use Rattle.est_syntax.specs.declared.expression.Relation.{Relation, Relation'}
use Rattle.est_syntax.specs.declared.expression.Selector.{Selector}
use Rattle.est_syntax.specs.declared.expression.Selector.TheVariants as selector
use Rattle.est_syntax.specs.declared.expression.Simple.{Simple, Simple', Row_of-SumStep}
use Rattle.est_syntax.specs.declared.expression.Simple.{end_of-SumStep, more_of-SumStep}
use Rattle.est_syntax.specs.declared.expression.SumStep.{SumStep, SumStep'}
use Rattle.est_syntax.specs.declared.expression.Term.{Term, Term', Row_of-ProductStep}
use Rattle.est_syntax.specs.declared.expression.Term.{end_of-ProductStep, more_of-ProductStep}
use Rattle.est_syntax.specs.declared.rule.Fault.{Fault}
use Rattle.rule_scope.specs.Outline.{Outline}
use Rattle.est_values.specs.declared.types.Host.TheVariants as host
use Rattle.est_values.specs.Types.{Yielded, Ordinal, Set}
use Rattle.rule_expressions.specs.declared.operators.Wanted.TheVariants as wanted
use Rattle.rule_expressions.specs.declared.receivers.Receiver.{Receiver}
use Rattle.rule_expressions.specs.Operators.{kept, wants, left_of, operated, right_faults}
use Rattle.rule_expressions.specs.Operators.{signed, sign_faults, with_member}
use Rattle.rule_expressions.specs.Operators.{member_disagrees, spanned, span_faults}
use Rattle.rule_expressions.specs.Selections.{Selection, head, head_faults}
use Rattle.rule_expressions.specs.ExpressionPlaces.{factor_place, term_place, sign_place}
use Rattle.rule_expressions.specs.ExpressionPlaces.{simple_place, expr_place}
use Rattle.rule_expressions.specs.ExpressionPlaces.{number_type, too_large_faults}
use Rattle.rule_expressions.specs.Variables.{component, component_faults, chosen_by}
use Rattle.rule_expressions.specs.Variables.{index_faults, with_field, with_field_faults}
use Rattle.rule_expressions.specs.Variables.{selected_type, end_faults}
use Rattle.rule_expressions.specs.Calls.{subscripts_of, is_received, taken_faults, is_number}
use Rattle.rule_expressions.specs.Calls.{count_faults, callee, callee_faults, call_by}

-- What an expression yields, where it and all its parts break no rule.
abbrev mutual
  pub expr_type : Outline → Expr → Option Yielded
  expr_type o (Expr' left relation place) = held_relation o (simple_type o left) relation

  pub held_relation : Outline → Option Yielded → Held-Expr-relation → Option Yielded
  held_relation o t Expr-relation-None' = t
  held_relation o t (Expr-relation-Some' r) = with_simple o t r

  pub with_simple : Outline → Option Yielded → Relation → Option Yielded
  with_simple o t (Relation' op right) = operated op t (simple_type o right)

  pub simple_type : Outline → Simple → Option Yielded
  simple_type o (Simple' sign first n rest) = row_sum o (signed sign (term_type o first)) rest

  pub row_sum : Outline → Option Yielded → {n : _} → Row_of-SumStep n → Option Yielded
  row_sum o t end_of-SumStep = t
  row_sum o t (more_of-SumStep s rest) = row_sum o (with_term o t s) rest

  pub with_term : Outline → Option Yielded → SumStep → Option Yielded
  with_term o t (SumStep' op right) = operated op t (term_type o right)

  pub term_type : Outline → Term → Option Yielded
  term_type o (Term' first n rest) = row_product o (factor_type o first) rest

  pub row_product : Outline → Option Yielded → {n : _} → Row_of-ProductStep n → Option Yielded
  row_product o t end_of-ProductStep = t
  row_product o t (more_of-ProductStep op right rest) =
      row_product o (operated op t (factor_type o right)) rest

  pub factor_type : Outline → Factor → Option Yielded
  factor_type o (factor.Number n place) = number_type n
  factor_type o (factor.Character c place) = Some (Ordinal host.Char)
  factor_type o (factor.Group' p e place) = row_first o e
  factor_type o (factor.Not' p f place) = kept wanted.Boolean (row_factor o f)
  factor_type o (factor.Set' n members place) = row_members o (Some (Set None)) members
  factor_type o (factor.Variable' name n path place) =
      selected_type (row_selected o (head o name) path)
  factor_type o (factor.Call' name n arguments place) =
      call_by o (callee o name) (row_taken o (callee o name) 0 arguments)
      (row_first o arguments)

  -- of the first expression, and of the one in a box
  pub row_first : Outline → {n : _} → Row_of-Expr n → Option Yielded
  row_first o end_of-Expr = None
  row_first o (more_of-Expr e rest) = expr_type o e

  pub row_factor : Outline → {n : _} → Row_of-Factor n → Option Yielded
  row_factor o end_of-Factor = None
  row_factor o (more_of-Factor f rest) = factor_type o f

  -- of a set with more members
  pub row_members : Outline → Option Yielded → {n : _} → Row_of-Member n → Option Yielded
  row_members o t end_of-Member = t
  row_members o t (more_of-Member m rest) = row_members o (with_members o t m) rest

  pub with_members : Outline → Option Yielded → Member → Option Yielded
  with_members o t (Member' low high) = with_member t (held_high o (expr_type o low) high)

  pub held_high : Outline → Option Yielded → Held-Member-high → Option Yielded
  held_high o t Member-high-None' = kept wanted.Ordinal t
  held_high o t (Member-high-Some' high) = spanned t (expr_type o high)

  -- whether arguments or subscripts are taken, from this number on, and as many as there are
  pub row_taken : Outline → Option Receiver → ℕ → {n : _} → Row_of-Expr n → Bool
  row_taken o r i end_of-Expr = is_number o r i
  row_taken o r i (more_of-Expr e rest) =
      is_received o r i (expr_type o e) && row_taken o r (i + 1) rest

  -- what selectors make of what stands before them
  pub row_selected : Outline → Selection → {n : _} → Row_of-Selector n → Selection
  row_selected o s end_of-Selector = s
  row_selected o s (more_of-Selector x rest) = row_selected o (selection o s x) rest

  pub selection : Outline → Selection → Selector → Selection
  selection o s (selector.Index' n exprs place) =
      chosen_by s (row_components o s exprs) (row_taken o (subscripts_of s) 0 exprs)
  selection o s (selector.Field u) = with_field o s u

  pub row_components : Outline → Selection → {n : _} → Row_of-Expr n → Selection
  row_components o s end_of-Expr = s
  row_components o s (more_of-Expr e rest) = row_components o (component s (expr_type o e)) rest

-- What an operation breaks, where its left operand begins at the first place and its right one at
-- the second: the left operand, by itself, and the right one, beside it.
abbrev pub operation_faults :
    Operator → Option Yielded → ℕ → List Fault → Option Yielded → ℕ → List Fault
operation_faults op l first own r second =
    wants (left_of op) l first ++ own ++ right_faults op l r second

-- What an expression breaks.
abbrev mutual
  pub expr_faults : Outline → Expr → List Fault
  expr_faults o (Expr' left relation place) =
      simple_faults o left ++ held_relation_faults o (simple_type o left) place relation

  pub held_relation_faults : Outline → Option Yielded → ℕ → Held-Expr-relation → List Fault
  held_relation_faults o t place Expr-relation-None' = []
  held_relation_faults o t place (Expr-relation-Some' r) = with_simple_faults o t place r

  pub with_simple_faults : Outline → Option Yielded → ℕ → Relation → List Fault
  with_simple_faults o t place (Relation' op right) =
      operation_faults op t place (simple_faults o right) (simple_type o right)
      (simple_place right)

  pub simple_faults : Outline → Simple → List Fault
  simple_faults o (Simple' sign first n rest) =
      term_faults o first ++ sign_faults sign (term_type o first) (term_place first)
      ++ row_sum_faults o (signed sign (term_type o first)) (sign_place sign (term_place first))
      rest

  pub row_sum_faults : Outline → Option Yielded → ℕ → {n : _} → Row_of-SumStep n → List Fault
  row_sum_faults o t place end_of-SumStep = []
  row_sum_faults o t place (more_of-SumStep s rest) =
      with_term_faults o t place s ++ row_sum_faults o (with_term o t s) place rest

  pub with_term_faults : Outline → Option Yielded → ℕ → SumStep → List Fault
  with_term_faults o t place (SumStep' op right) =
      operation_faults op t place (term_faults o right) (term_type o right) (term_place right)

  pub term_faults : Outline → Term → List Fault
  term_faults o (Term' first n rest) =
      factor_faults o first ++ row_product_faults o (factor_type o first) (factor_place first) rest

  pub row_product_faults :
      Outline → Option Yielded → ℕ → {n : _} → Row_of-ProductStep n → List Fault
  row_product_faults o t place end_of-ProductStep = []
  row_product_faults o t place (more_of-ProductStep op right rest) =
      operation_faults op t place (factor_faults o right) (factor_type o right)
      (factor_place right)
      ++ row_product_faults o (operated op t (factor_type o right)) place rest

  pub factor_faults : Outline → Factor → List Fault
  factor_faults o (factor.Number n place) = too_large_faults n place
  factor_faults o (factor.Character c place) = []
  factor_faults o (factor.Group' p e place) = box_faults o e
  factor_faults o (factor.Not' p f place) = row_not_faults o f
  factor_faults o (factor.Set' n members place) = row_member_faults o (Some (Set None)) members
  factor_faults o (factor.Variable' name n path place) =
      head_faults o name ++ row_selected_faults o (head o name) name.place path
      ++ end_faults (row_selected o (head o name) path) name.place
  factor_faults o (factor.Call' name n arguments place) =
      callee_faults o name ++ row_taken_faults o (callee o name) 0 name.place arguments

  -- of the expression in a box, and of expressions by themselves
  pub box_faults : Outline → {n : _} → Row_of-Expr n → List Fault
  box_faults o end_of-Expr = []
  box_faults o (more_of-Expr e rest) = expr_faults o e

  pub row_faults : Outline → {n : _} → Row_of-Expr n → List Fault
  row_faults o end_of-Expr = []
  row_faults o (more_of-Expr e rest) = expr_faults o e ++ row_faults o rest

  pub row_not_faults : Outline → {n : _} → Row_of-Factor n → List Fault
  row_not_faults o end_of-Factor = []
  row_not_faults o (more_of-Factor f rest) =
      factor_faults o f ++ wants wanted.Boolean (factor_type o f) (factor_place f)

  -- of the members of a set, after those before them
  pub row_member_faults : Outline → Option Yielded → {n : _} → Row_of-Member n → List Fault
  row_member_faults o t end_of-Member = []
  row_member_faults o t (more_of-Member m rest) =
      with_members_faults o t m ++ row_member_faults o (with_members o t m) rest

  pub with_members_faults : Outline → Option Yielded → Member → List Fault
  with_members_faults o t (Member' low high) =
      expr_faults o low ++ wants wanted.Ordinal (expr_type o low) (expr_place low)
      ++ held_high_faults o (expr_type o low) high
      ++ member_disagrees t (expr_type o low) (expr_place low)

  pub held_high_faults : Outline → Option Yielded → Held-Member-high → List Fault
  held_high_faults o t Member-high-None' = []
  held_high_faults o t (Member-high-Some' high) =
      expr_faults o high ++ span_faults t (expr_type o high) (expr_place high)

  -- of arguments or subscripts, from this number on, after a name
  pub row_taken_faults : Outline → Option Receiver → ℕ → ℕ → {n : _} → Row_of-Expr n → List Fault
  row_taken_faults o r i name end_of-Expr = count_faults o r i name
  row_taken_faults o r i name (more_of-Expr e rest) =
      (expr_faults o e ++ taken_faults o r i (expr_type o e) (expr_place e))
      ++ row_taken_faults o r (i + 1) name rest

  -- of selectors, after what stands before them, and of the subscripts of an array
  pub row_selected_faults : Outline → Selection → ℕ → {n : _} → Row_of-Selector n → List Fault
  row_selected_faults o s name end_of-Selector = []
  row_selected_faults o s name (more_of-Selector x rest) =
      selection_faults o s name x ++ row_selected_faults o (selection o s x) name rest

  pub selection_faults : Outline → Selection → ℕ → Selector → List Fault
  selection_faults o s name (selector.Index' n exprs place) =
      index_faults s (row_component_faults o s name exprs)
      (row_taken_faults o (subscripts_of s) 0 name exprs) (row_faults o exprs) name
  selection_faults o s name (selector.Field u) = with_field_faults o s u name

  pub row_component_faults : Outline → Selection → ℕ → {n : _} → Row_of-Expr n → List Fault
  row_component_faults o s name end_of-Expr = []
  row_component_faults o s name (more_of-Expr e rest) =
      (expr_faults o e ++ component_faults s (expr_type o e) (expr_place e) name)
      ++ row_component_faults o (component s (expr_type o e)) name rest

-- The same over lists and options. What an expression yields, of what its first sum does:
abbrev pub related : Outline → Option Yielded → Option Relation → Option Yielded
related o t None = t
related o t (Some r) = with_simple o t r

-- what the relation to a sum breaks that begins at a place
abbrev pub related_faults : Outline → Option Yielded → ℕ → Option Relation → List Fault
related_faults o t place None = []
related_faults o t place (Some r) = with_simple_faults o t place r

-- what a sum yields, of what its first operand does
abbrev pub summed : Outline → Option Yielded → List SumStep → Option Yielded
summed o t [] = t
summed o t (s ∷ ss) = summed o (with_term o t s) ss

-- what the steps of a sum break, which begins at a place
abbrev pub summed_faults : Outline → Option Yielded → ℕ → List SumStep → List Fault
summed_faults o t place [] = []
summed_faults o t place (s ∷ ss) =
    with_term_faults o t place s ++ summed_faults o (with_term o t s) place ss

-- what a product yields with one step more
abbrev pub with_factor : Outline → Option Yielded → ProductStep → Option Yielded
with_factor o t s = operated s.operator t (factor_type o s.right)

-- what a product yields, of what its first operand does
abbrev pub multiplied : Outline → Option Yielded → List ProductStep → Option Yielded
multiplied o t [] = t
multiplied o t (s ∷ ss) = multiplied o (with_factor o t s) ss

-- what a step of a product breaks, which begins at a place
abbrev pub with_factor_faults : Outline → Option Yielded → ℕ → ProductStep → List Fault
with_factor_faults o t place s =
    operation_faults s.operator t place (factor_faults o s.right) (factor_type o s.right)
    (factor_place s.right)

-- what the steps of a product break, which begins at a place
abbrev pub multiplied_faults : Outline → Option Yielded → ℕ → List ProductStep → List Fault
multiplied_faults o t place [] = []
multiplied_faults o t place (s ∷ ss) =
    with_factor_faults o t place s
    ++ multiplied_faults o (with_factor o t s) place ss

-- what the first of some expressions yields
abbrev pub first_type : Outline → List Expr → Option Yielded
first_type o [] = None
first_type o (e ∷ es) = expr_type o e

-- whether arguments or subscripts are taken, from this number on, and as many as there are
abbrev pub are_taken : Outline → Option Receiver → ℕ → List Expr → Bool
are_taken o r i [] = is_number o r i
are_taken o r i (e ∷ es) = is_received o r i (expr_type o e) && are_taken o r (i + 1) es

-- what an argument or a subscript with this number breaks
abbrev pub one_faults : Outline → Option Receiver → ℕ → Expr → List Fault
one_faults o r i e = expr_faults o e ++ taken_faults o r i (expr_type o e) (expr_place e)

-- what arguments or subscripts break, from this number on, after a name
abbrev pub are_taken_faults : Outline → Option Receiver → ℕ → ℕ → List Expr → List Fault
are_taken_faults o r i name [] = count_faults o r i name
are_taken_faults o r i name (e ∷ es) = one_faults o r i e ++ are_taken_faults o r (i + 1) name es

-- what the subscripts of an array make of what stands before them
abbrev pub components : Outline → Selection → List Expr → Selection
components o s [] = s
components o s (e ∷ es) = components o (component s (expr_type o e)) es

-- what a subscript of an array breaks
abbrev pub one_component_faults : Outline → Selection → ℕ → Expr → List Fault
one_component_faults o s name e =
    expr_faults o e ++ component_faults s (expr_type o e) (expr_place e) name

-- what the subscripts of an array break
abbrev pub components_faults : Outline → Selection → ℕ → List Expr → List Fault
components_faults o s name [] = []
components_faults o s name (e ∷ es) =
    one_component_faults o s name e
    ++ components_faults o (component s (expr_type o e)) name es

-- what the subscripts in one pair of brackets make of what stands before them
abbrev pub with_index : Outline → Selection → List Expr → Selection
with_index o s es = chosen_by s (components o s es) (are_taken o (subscripts_of s) 0 es)

-- what they break
abbrev pub with_index_faults : Outline → Selection → ℕ → List Expr → List Fault
with_index_faults o s name es =
    index_faults s (components_faults o s name es)
    (are_taken_faults o (subscripts_of s) 0 name es) (flat_map (expr_faults o) es) name

-- what selectors make of what stands before them
abbrev pub selected : Outline → Selection → List Selector → Selection
selected o s [] = s
selected o s (x ∷ xs) = selected o (selection o s x) xs

-- what they break, after a name
abbrev pub selected_faults : Outline → Selection → ℕ → List Selector → List Fault
selected_faults o s name [] = []
selected_faults o s name (x ∷ xs) =
    selection_faults o s name x ++ selected_faults o (selection o s x) name xs

-- what a member of a set yields, or members from one to a later end
abbrev pub high_type : Outline → Option Yielded → Option Expr → Option Yielded
high_type o t None = kept wanted.Ordinal t
high_type o t (Some e) = spanned t (expr_type o e)

-- what the later end breaks, if there is one
abbrev pub high_faults : Outline → Option Yielded → Option Expr → List Fault
high_faults o t None = []
high_faults o t (Some e) = expr_faults o e ++ span_faults t (expr_type o e) (expr_place e)

-- what a set yields with more members
abbrev pub members : Outline → Option Yielded → List Member → Option Yielded
members o t [] = t
members o t (m ∷ ms) = members o (with_members o t m) ms

-- what more members of a set break
abbrev pub members_faults : Outline → Option Yielded → List Member → List Fault
members_faults o t [] = []
members_faults o t (m ∷ ms) = with_members_faults o t m ++ members_faults o (with_members o t m) ms
