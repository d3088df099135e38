-- What expressions yield, and what variables with their selectors reach (ISO 7185, 6.5 and 6.7).
use Rattle.std.specs.Prelude.{ℕ, ℤ, pos, Bool, true, false, List, [], ◌∷◌}
use Rattle.std.specs.Prelude.{◌++◌, length, Option, Some, None}
use Rattle.est_syntax.specs.declared.expression.Expr.{Expr, Expr', Held-Expr-relation}
use Rattle.est_syntax.specs.declared.expression.Expr.{Expr-relation-None', Expr-relation-Some'}
use Rattle.est_syntax.specs.declared.expression.Factor.{Factor, Row_of-Expr, end_of-Expr}
use Rattle.est_syntax.specs.declared.expression.Factor.{more_of-Expr, Row_of-Factor}
use Rattle.est_syntax.specs.declared.expression.Factor.{end_of-Factor, more_of-Factor}
use Rattle.est_syntax.specs.declared.expression.Factor.{Row_of-Member, end_of-Member}
use Rattle.est_syntax.specs.declared.expression.Factor.{more_of-Member, Row_of-Selector}
use Rattle.est_syntax.specs.declared.expression.Factor.{end_of-Selector, more_of-Selector}
use Rattle.est_syntax.specs.declared.expression.Factor.TheVariants as factor
use Rattle.est_syntax.specs.declared.expression.Member.{Member, Member', Held-Member-high}
use Rattle.est_syntax.specs.declared.expression.Member.{Member-high-None', Member-high-Some'}
use Rattle.est_syntax.specs.declared.expression.ProductStep.{ProductStep}
use Rattle.est_syntax.specs.declared.expression.Relation.{Relation, Relation'}
use Rattle.est_syntax.specs.declared.expression.Selector.{Selector}
use Rattle.est_syntax.specs.declared.expression.Selector.TheVariants as selector
use Rattle.est_syntax.specs.declared.expression.Simple.{Simple, Simple', Row_of-SumStep}
use Rattle.est_syntax.specs.declared.expression.Simple.{end_of-SumStep, more_of-SumStep}
use Rattle.est_syntax.specs.declared.expression.SumStep.{SumStep, SumStep'}
use Rattle.est_syntax.specs.declared.expression.Term.{Term, Term', Row_of-ProductStep}
use Rattle.est_syntax.specs.declared.expression.Term.{end_of-ProductStep, more_of-ProductStep}
use Rattle.est_syntax.specs.declared.kind.Kind.{Kind}
use Rattle.est_syntax.specs.declared.name.Used.{Used}
use Rattle.est_values.specs.declared.value.Value.{Value}
use Rattle.est_values.specs.declared.value.Value.TheVariants as value
use Rattle.rule_declares.specs.rule_scope.declared.declaration.Meant.{Meant}
use Rattle.rule_declares.specs.rule_scope.declared.declaration.Meant.TheVariants.{Seen, Predeclared}
use Rattle.rule_declares.specs.rule_scope.declared.predeclared.PredeclaredName.{PredeclaredName}
use Rattle.rule_declares.specs.rule_scope.Uses.{meaning}
use Rattle.rule_declares.specs.BareVariables.{bare}
use Rattle.mean_blocks.specs.declared.frame.Slot.{Slot}
use Rattle.mean_blocks.specs.declared.frame.Slot.TheVariants as slot
use Rattle.mean_blocks.specs.Outcome.{◌>>=◌, give, junk, lift, known}
use Rattle.mean_blocks.specs.SetOperators.{set_of}
use Rattle.mean_blocks.specs.OperandHosts.{host_of}
use Rattle.mean_blocks.specs.NamesInRuns.{head, dims_at, takes_place}
use Rattle.mean_blocks.specs.WorkingState.{View, Counts}
use Rattle.mean_blocks.specs.ValueOperators.{unsigned_integer, ordinal, joined, signed}
use Rattle.mean_blocks.specs.ValueOperators.{negated, spanned}
use Rattle.mean_blocks.specs.ReachedVariables.{Reached, Component, Module, variable_begun}
use Rattle.mean_blocks.specs.ReachedVariables.{value_begun}
use Rattle.mean_blocks.specs.ReachedVariables.{with_field, with_component, with_subscript, placed}
use Rattle.mean_blocks.specs.FunctionCalls.{called, valued, required_by}

-- a function that is called with these arguments
abbrev pub applied : View → Meant → Counts (List Slot) → (PredeclaredName → Counts Value)
    → Counts Value
applied v (Seen p) arguments first = arguments >>= called v p
applied v (Predeclared n) arguments first = first n
applied v _ arguments first = junk

-- What an expression yields: its parts are evaluated in the order of the text (profile: ISO 7185,
-- 6.7.2.1, leaves it open).
abbrev mutual
  pub value_of : Expr → View → Counts Value
  value_of (Expr' left relation place) v = simple_of left v >>= λ a. held_relation relation a v

  -- what a relation makes of the value before it, if there is one
  pub held_relation : Held-Expr-relation → Value → View → Counts Value
  held_relation Expr-relation-None' a v = give a
  held_relation (Expr-relation-Some' r) a v = related r a v

  pub related : Relation → Value → View → Counts Value
  related (Relation' op right) a v = joined op a (simple_of right v)

  -- what a sum yields
  pub simple_of : Simple → View → Counts Value
  simple_of (Simple' sign first n rest) v = do
    a ← term_of first v
    b ← signed sign a
    row_sum rest b v

  pub row_sum : {n : _} → Row_of-SumStep n → Value → View → Counts Value
  row_sum end_of-SumStep a v = give a
  row_sum (more_of-SumStep s rest) a v = with_term s a v >>= λ b. row_sum rest b v

  pub with_term : SumStep → Value → View → Counts Value
  with_term (SumStep' op right) a v = joined op a (term_of right v)

  -- what a product yields
  pub term_of : Term → View → Counts Value
  term_of (Term' first n rest) v = factor_of first v >>= λ a. row_product rest a v

  pub row_product : {n : _} → Row_of-ProductStep n → Value → View → Counts Value
  row_product end_of-ProductStep a v = give a
  row_product (more_of-ProductStep op right rest) a v =
      joined op a (factor_of right v) >>= λ b. row_product rest b v

  -- what an operand yields
  pub factor_of : Factor → View → Counts Value
  factor_of (factor.Number n place) v = lift (unsigned_integer n)
  factor_of (factor.Character c place) v = give (value.Ordinal (pos c))
  factor_of (factor.Group' p e place) v = row_first e v
  factor_of (factor.Not' p f place) v = row_factor f v >>= negated
  factor_of (factor.Set' n members place) v = row_members members [] v >>= λ zs. lift (set_of zs)
  factor_of (factor.Variable' name n path place) v = let h = head v.site.text.outline name in
      valued v h (value_begun v h >>= λ r. row_selected path r v)
  factor_of (factor.Call' name n arguments place) v = let m = meaning v.site.text.outline name in
      applied v m (row_values arguments [] v) (row_required arguments v)

  -- of the one expression in a box, and of the one operand
  pub row_first : {n : _} → Row_of-Expr n → View → Counts Value
  row_first end_of-Expr v = junk
  row_first (more_of-Expr e rest) v = value_of e v

  pub row_factor : {n : _} → Row_of-Factor n → View → Counts Value
  row_factor end_of-Factor v = junk
  row_factor (more_of-Factor f rest) v = factor_of f v

  -- of a predeclared function
  pub row_required : {n : _} → Row_of-Expr n → View → PredeclaredName → Counts Value
  row_required end_of-Expr v name = junk
  row_required (more_of-Expr e rest) v name = do
    a ← value_of e v
    z ← ordinal a
    y ← lift (required_by name (host_of v.site.text.outline e) z)
    give (value.Ordinal y)

  -- the members of a set, with those before them
  pub row_members : {n : _} → Row_of-Member n → List ℤ → View → Counts (List ℤ)
  row_members end_of-Member zs v = give zs
  row_members (more_of-Member m rest) zs v = member_of m zs v >>= λ ys. row_members rest ys v

  pub member_of : Member → List ℤ → View → Counts (List ℤ)
  member_of (Member' low high) zs v = value_of low v >>= λ a. held_high high a zs v

  pub held_high : Held-Member-high → Value → List ℤ → View → Counts (List ℤ)
  held_high Member-high-None' a zs v = spanned a a zs
  held_high (Member-high-Some' high) a zs v = value_of high v >>= λ b. spanned a b zs

  -- what selectors reach from what stands before them
  pub row_selected : {n : _} → Row_of-Selector n → Reached → View → Counts Reached
  row_selected end_of-Selector r v = give r
  row_selected (more_of-Selector x rest) r v = selected x r v >>= λ q. row_selected rest q v

  pub selected : Selector → Reached → View → Counts Reached
  selected (selector.Index' n exprs place) (Component p k) v =
      row_components exprs (Component p k) v
  selected (selector.Index' n exprs place) (Module p zs) v =
      row_subscripts exprs (dims_at v.site.text.outline p) zs v >>= λ ys. give (Module p ys)
  selected (selector.Field u) r v = with_field v u r

  -- components of an array, by its subscripts
  pub row_components : {n : _} → Row_of-Expr n → Reached → View → Counts Reached
  row_components end_of-Expr r v = give r
  row_components (more_of-Expr e rest) r v = do
    a ← value_of e v
    z ← ordinal a
    q ← with_component r z
    row_components rest q v

  -- subscripts of these index types, after those before them
  pub row_subscripts : {n : _} → Row_of-Expr n → Option (List Kind) → List ℤ → View
      → Counts (List ℤ)
  row_subscripts end_of-Expr ks zs v = give zs
  row_subscripts (more_of-Expr e rest) ks zs v = do
    a ← value_of e v
    z ← ordinal a
    ys ← with_subscript ks zs z
    row_subscripts rest ks ys v

  -- the values of arguments, after those before them
  pub row_values : {n : _} → Row_of-Expr n → List Slot → View → Counts (List Slot)
  row_values end_of-Expr xs v = give xs
  row_values (more_of-Expr e rest) xs v =
      value_of e v >>= λ a. row_values rest (xs ++ slot.Value a ∷ []) v

-- THE SAME OVER LISTS

-- a relation, if there is one
abbrev pub related_in : Option Relation → Value → View → Counts Value
related_in None a v = give a
related_in (Some r) a v = related r a v

-- the steps of a sum
abbrev pub sums_in : List SumStep → Value → View → Counts Value
sums_in [] a v = give a
sums_in (s ∷ ss) a v = with_term s a v >>= λ b. sums_in ss b v

-- the steps of a product
abbrev pub products_in : List ProductStep → Value → View → Counts Value
products_in [] a v = give a
products_in (s ∷ ss) a v =
    joined s.operator a (factor_of s.right v) >>= λ b. products_in ss b v

-- the other end of the members that a designator names, if there is one
abbrev pub high_in : Option Expr → Value → List ℤ → View → Counts (List ℤ)
high_in None a zs v = spanned a a zs
high_in (Some high) a zs v = value_of high v >>= λ b. spanned a b zs

-- the members of a set, with those before them
abbrev pub members_in : List Member → List ℤ → View → Counts (List ℤ)
members_in [] zs v = give zs
members_in (m ∷ ms) zs v = member_of m zs v >>= λ ys. members_in ms ys v

-- what selectors reach from what stands before them
abbrev pub selected_in : List Selector → Reached → View → Counts Reached
selected_in [] r v = give r
selected_in (x ∷ xs) r v = selected x r v >>= λ q. selected_in xs q v

-- components of an array, by its subscripts
abbrev pub components_in : List Expr → Reached → View → Counts Reached
components_in [] r v = give r
components_in (e ∷ es) r v = do
  a ← value_of e v
  z ← ordinal a
  q ← with_component r z
  components_in es q v

-- subscripts of these index types, after those before them
abbrev pub subscripts_in : List Expr → Option (List Kind) → List ℤ → View → Counts (List ℤ)
subscripts_in [] ks zs v = give zs
subscripts_in (e ∷ es) ks zs v = do
  a ← value_of e v
  z ← ordinal a
  ys ← with_subscript ks zs z
  subscripts_in es ks ys v

-- the values of arguments, after those before them
abbrev pub values_in : List Expr → List Slot → View → Counts (List Slot)
values_in [] xs v = give xs
values_in (e ∷ es) xs v = value_of e v >>= λ a. values_in es (xs ++ slot.Value a ∷ []) v

-- VARIABLES

-- a variable with its selectors
abbrev pub variable_of : Used → List Selector → View → Counts Reached
variable_of u path v = variable_begun v (head v.site.text.outline u) >>= λ r. selected_in path r v

-- the value of a variable, of a constant or of a function without arguments
abbrev pub variable_value : Used → List Selector → View → Counts Value
variable_value u path v =
    let h = head v.site.text.outline u in
    valued v h (value_begun v h >>= λ r. selected_in path r v)

-- a predeclared function of the first of these arguments
abbrev pub required_in : List Expr → View → PredeclaredName → Counts Value
required_in [] v name = junk
required_in (e ∷ es) v name = do
  a ← value_of e v
  z ← ordinal a
  y ← lift (required_by name (host_of v.site.text.outline e) z)
  give (value.Ordinal y)

-- the value of a call
abbrev pub call_value : Used → List Expr → View → Counts Value
call_value u arguments v =
    let m = meaning v.site.text.outline u in
    applied v m (values_in arguments [] v) (required_in arguments v)

-- the place of the variable that an expression is
abbrev pub variable_place : Expr → View → Counts Slot
variable_place e v = known (bare e) >>= λ x. variable_of x.0 x.1 v >>= placed

-- what stands for a parameter: a place or a value
abbrev pub argument_of : Expr → Bool → View → Counts Slot
argument_of e true v = variable_place e v
argument_of e false v = value_of e v >>= λ a. give (slot.Value a)

-- the arguments of a procedure, after those before them
abbrev pub arguments_in : List Expr → ℕ → List Slot → View → Counts (List Slot)
arguments_in [] p xs v = give xs
arguments_in (e ∷ es) p xs v = argument_of e (takes_place v.site.text.outline p (length xs)) v
    >>= λ x. arguments_in es p (xs ++ x ∷ []) v
