-- Of a situation, expressions see the rows alone, where the functions that they call do.
use Rattle.std.proofs.Common.{◌≡◌, refl, ◌∙◌, ap, ℕ, true, List, [], ◌∷◌}
use Rattle.std.proofs.Common.{◌++◌, Option, Some, None}
use Rattle.std.specs.Prelude.{ℤ}
use Rattle.est_syntax.specs.declared.expression.Expr.{Expr, Expr', Held-Expr-relation}
use Rattle.est_syntax.specs.declared.expression.Expr.{Expr-relation-None', Expr-relation-Some'}
use Rattle.est_syntax.specs.declared.expression.Factor.{Factor, Row_of-Expr, end_of-Expr}
use Rattle.est_syntax.specs.declared.expression.Factor.{more_of-Expr, Row_of-Factor}
use Rattle.est_syntax.specs.declared.expression.Factor.{end_of-Factor, more_of-Factor}
use Rattle.est_syntax.specs.declared.expression.Factor.{Row_of-Member, end_of-Member}
use Rattle.est_syntax.specs.declared.expression.Factor.{more_of-Member, Row_of-Selector}
use Rattle.est_syntax.specs.declared.expression.Factor.{end_of-Selector, more_of-Selector}
use Rattle.est_syntax.specs.declared.expression.Factor.TheVariants as factor
use Rattle.est_syntax.specs.declared.expression.Member.{Member, Member', Held-Member-high}
use Rattle.est_syntax.specs.declared.expression.Member.{Member-high-None', Member-high-Some'}
use Rattle.est_syntax.specs.declared.expression.Relation.{Relation, Relation'}
use Rattle.est_syntax.specs.declared.expression.Selector.{Selector}
use Rattle.est_syntax.specs.declared.expression.Selector.TheVariants as selector
use Rattle.est_syntax.specs.declared.expression.Simple.{Simple, Simple', Row_of-SumStep}
use Rattle.est_syntax.specs.declared.expression.Simple.{end_of-SumStep, more_of-SumStep}
use Rattle.est_syntax.specs.declared.expression.SumStep.{SumStep, SumStep'}
use Rattle.est_syntax.specs.declared.expression.Term.{Term, Term', Row_of-ProductStep}
use Rattle.est_syntax.specs.declared.expression.Term.{end_of-ProductStep, more_of-ProductStep}
use Rattle.est_syntax.specs.declared.kind.Kind.{Kind}
use Rattle.est_values.specs.declared.value.Value.{Value}
use Rattle.est_values.specs.declared.value.Value.TheVariants as value
use Rattle.est_values.specs.PartsOfValues.{part_at}
use Rattle.est_syntax.specs.declared.statement.Statement.{Statement}
use Rattle.est_syntax.specs.declared.name.Used.{Used}
use Rattle.rule_declares.specs.rule_scope.declared.declaration.Meant.{Meant}
use Rattle.rule_declares.specs.rule_scope.declared.declaration.Meant.TheVariants as meant
use Rattle.rule_declares.specs.rule_scope.declared.predeclared.PredeclaredName.{PredeclaredName}
use Rattle.rule_declares.specs.rule_scope.Uses.{meaning}
use Rattle.mean_blocks.specs.declared.frame.Holder.{Holder}
use Rattle.mean_blocks.specs.declared.frame.Holder.TheVariants as holder
use Rattle.mean_blocks.specs.declared.frame.Place.{Place}
use Rattle.mean_blocks.specs.declared.frame.Slot.{Slot}
use Rattle.mean_blocks.specs.declared.frame.Slot.TheVariants as slot
use Rattle.mean_blocks.specs.Outcome.{Outcome, Done, Fault, Limit, ◌>>=◌, give, on_ok}
use Rattle.mean_blocks.specs.Outcome.{lift, known}
use Rattle.mean_blocks.specs.GlobalSituation.{Frame, Situation}
use Rattle.mean_blocks.specs.TextByPlace.{routine_at, statements_of}
use Rattle.mean_blocks.specs.SetOperators.{set_of}
use Rattle.mean_blocks.specs.OperandHosts.{host_of}
use Rattle.mean_blocks.specs.NamesInRuns.{Head, Nothing, Constant, Function, Variable, Modules}
use Rattle.mean_blocks.specs.NamesInRuns.{head, dims_at, declared_in_header}
use Rattle.mean_blocks.specs.Frames.{held_by, read_at, value_in, slot_of, existing}
use Rattle.mean_blocks.specs.WorkingState.{State, View, Deeper, Counts}
use Rattle.mean_blocks.specs.ValueOperators.{ordinal, joined, signed, negated, spanned, defined}
use Rattle.mean_blocks.specs.ReachedVariables.{Reached, Component, Module, variable_begun}
use Rattle.mean_blocks.specs.ReachedVariables.{value_begun}
use Rattle.mean_blocks.specs.ReachedVariables.{with_field, with_component, with_subscript, living}
use Rattle.mean_blocks.specs.ReachedVariables.{child_of, loaded, exported}
use Rattle.mean_blocks.specs.FunctionCalls.{called, valued, required_by, routine_frame, result_of}
use Rattle.mean_blocks.specs.FunctionCalls.{part_of_result}
use Rattle.mean_blocks.specs.ExpressionValues.{value_of, held_relation, related, simple_of}
use Rattle.mean_blocks.specs.ExpressionValues.{row_sum, with_term, term_of, row_product}
use Rattle.mean_blocks.specs.ExpressionValues.{factor_of}
use Rattle.mean_blocks.specs.ExpressionValues.{row_first, row_factor, row_required, row_members}
use Rattle.mean_blocks.specs.ExpressionValues.{member_of, held_high, row_selected, selected}
use Rattle.mean_blocks.specs.ExpressionValues.{row_components, row_subscripts, row_values}
use Rattle.mean_blocks.specs.ExpressionValues.{applied}
use Rattle.mean_blocks.specs.ExpressionValues.{selected_in, variable_of}

-- another situation, with the rows of this one
abbrev pub elsewhere : Situation → Situation → Situation
elsewhere x s = record x { rows = s.rows }

-- what is seen there
abbrev pub seen_from : Situation → View → View
seen_from x v = record v { situation = elsewhere x v.situation }

-- what statements work on there
abbrev pub brought : Situation → State → State
brought x s = record s { situation = elsewhere x s.situation }

-- what comes of them
abbrev pub out : {A : Type 0} → Situation → Outcome State A → Outcome State A
out x (Done a s) = Done a (brought x s)
out x (Fault f) = Fault f
out x Limit = Limit

-- statements of functions do the same in each situation with these rows
abbrev pub Blind : Situation → Deeper → Type 0
Blind x d = (n : ℕ) (xs : List Statement) (s : State)
    → d n true xs (brought x s) ≡ out x (d n true xs s)

module _ (x : Situation) where
  pub held_blind : (h : Holder) (s : Situation) (frames : List Frame)
      → held_by h (elsewhere x s) frames ≡ held_by h s frames
  held_blind (holder.Frame n) s frames = refl
  held_blind (holder.Instance n) s frames = refl

  read_blind : (p : Place) (s : Situation) (frames : List Frame)
      → read_at p (elsewhere x s) frames ≡ read_at p s frames
  read_blind p s frames = ap (λ r. on_ok r
      (λ f. on_ok (value_in (slot_of p.declared f)) (λ v. existing (part_at p.path v))))
      (held_blind p.holder s frames)

  living_blind : (o : Option ℕ) (s : Situation) → living (elsewhere x s) o ≡ living s o
  living_blind None s = refl
  living_blind (Some n) s = refl

  child_blind : (v : View) (p : ℕ) (zs : List ℤ) → child_of (seen_from x v) p zs ≡ child_of v p zs
  child_blind v p zs = living_blind _ v.situation

  result_blind : (p : ℕ) (o : Outcome State (Unit {0})) → result_of p (out x o) ≡ result_of p o
  result_blind p (Done a s) = refl
  result_blind p (Fault f) = refl
  result_blind p Limit = refl

  called_blind : (v : View) → Blind x v.site.deeper → (p : ℕ) (xs : List Slot)
      → called (seen_from x v) p xs ≡ called v p xs
  called_blind v h p xs = λ i. known (routine_at v.site.text p) >>= λ r.
      lift (routine_frame v.site.text.outline p xs) >>= λ f. λ n.
      (ap (result_of p) (h v.site.instance (statements_of r) (record
      { situation = v.situation; outs = []; frames = f ∷ []; left = n }))
      ∙ result_blind p (v.site.deeper v.site.instance true (statements_of r) (record
      { situation = v.situation; outs = []; frames = f ∷ []; left = n }))) i

  variable_begun_blind : (v : View) (h : Head)
      → variable_begun (seen_from x v) h ≡ variable_begun v h
  variable_begun_blind v Nothing = refl
  variable_begun_blind v (Constant z) = refl
  variable_begun_blind v (Function p k) = refl
  variable_begun_blind v (Variable p k) = refl
  variable_begun_blind v (Modules p) = refl

  value_begun_blind : (v : View) (h : Head)
      → value_begun (seen_from x v) h ≡ value_begun v h
  value_begun_blind v Nothing = refl
  value_begun_blind v (Constant z) = refl
  value_begun_blind v (Function p k) = refl
  value_begun_blind v (Variable p k) = refl
  value_begun_blind v (Modules p) = refl

  loaded_blind : (v : View) (r : Reached) → loaded (seen_from x v) r ≡ loaded v r
  loaded_blind v (Component p k) = λ i. lift (read_blind p v.situation v.frames i) >>= defined
  loaded_blind v (Module p zs) = refl

  valued_blind : (v : View) → Blind x v.site.deeper → (h : Head) (m n : Counts Reached) → m ≡ n
      → valued (seen_from x v) h m ≡ valued v h n
  valued_blind v b Nothing m n e = λ i. e i >>= λ r. loaded_blind v r i
  valued_blind v b (Constant z) m n e = refl
  valued_blind v b (Function p k) m n e =
      λ i. called_blind v b p [] i >>= λ a. e i >>= part_of_result a
  valued_blind v b (Variable p k) m n e = λ i. e i >>= λ r. loaded_blind v r i
  valued_blind v b (Modules p) m n e = λ i. e i >>= λ r. loaded_blind v r i

  applied_blind : (v : View) → Blind x v.site.deeper → (m : Meant) (a b : Counts (List Slot))
      (c d : PredeclaredName → Counts Value) → a ≡ b → c ≡ d
      → applied (seen_from x v) m a c ≡ applied v m b d
  applied_blind v h (meant.Seen p) a b c d e g = λ i. e i >>= λ xs. called_blind v h p xs i
  applied_blind v h (meant.Predeclared n) a b c d e g = λ i. g i n
  applied_blind v h (meant.Unseen p) a b c d e g = refl
  applied_blind v h meant.Nothing a b c d e g = refl

  field_blind : (v : View) (u : Used) (r : Reached)
      → with_field (seen_from x v) u r ≡ with_field v u r
  field_blind v u (Component p k) = refl
  field_blind v u (Module p zs) = λ i. lift (child_blind v p zs i) >>= λ n.
      known (declared_in_header v.site.text.outline p u) >>= λ d. exported v.site.text.outline n d

  -- each expression
  mutual
    pub value_blind : (e : Expr) (v : View) → Blind x v.site.deeper
        → value_of e (seen_from x v) ≡ value_of e v
    value_blind (Expr' left relation place) v h =
        λ i. simple_blind left v h i >>= λ a. relation_blind relation a v h i

    relation_blind : (r : Held-Expr-relation) (a : Value) (v : View) → Blind x v.site.deeper
        → held_relation r a (seen_from x v) ≡ held_relation r a v
    relation_blind Expr-relation-None' a v h = refl
    relation_blind (Expr-relation-Some' r) a v h = related_blind r a v h

    related_blind : (r : Relation) (a : Value) (v : View) → Blind x v.site.deeper
        → related r a (seen_from x v) ≡ related r a v
    related_blind (Relation' op right) a v h = λ i. joined op a (simple_blind right v h i)

    simple_blind : (e : Simple) (v : View) → Blind x v.site.deeper
        → simple_of e (seen_from x v) ≡ simple_of e v
    simple_blind (Simple' sign first n rest) v h =
        λ i. term_blind first v h i >>= λ a. signed sign a >>= λ b. sum_blind rest b v h i

    sum_blind : {n : _} (r : Row_of-SumStep n) (a : Value) (v : View) → Blind x v.site.deeper
        → row_sum r a (seen_from x v) ≡ row_sum r a v
    sum_blind end_of-SumStep a v h = refl
    sum_blind (more_of-SumStep s rest) a v h =
        λ i. step_blind s a v h i >>= λ b. sum_blind rest b v h i

    step_blind : (s : SumStep) (a : Value) (v : View) → Blind x v.site.deeper
        → with_term s a (seen_from x v) ≡ with_term s a v
    step_blind (SumStep' op right) a v h = λ i. joined op a (term_blind right v h i)

    term_blind : (e : Term) (v : View) → Blind x v.site.deeper
        → term_of e (seen_from x v) ≡ term_of e v
    term_blind (Term' first n rest) v h =
        λ i. factor_blind first v h i >>= λ a. product_blind rest a v h i

    product_blind : {n : _} (r : Row_of-ProductStep n) (a : Value) (v : View)
        → Blind x v.site.deeper → row_product r a (seen_from x v) ≡ row_product r a v
    product_blind end_of-ProductStep a v h = refl
    product_blind (more_of-ProductStep op right rest) a v h =
        λ i. joined op a (factor_blind right v h i) >>= λ b. product_blind rest b v h i

    factor_blind : (e : Factor) (v : View) → Blind x v.site.deeper
        → factor_of e (seen_from x v) ≡ factor_of e v
    factor_blind (factor.Number n place) v h = refl
    factor_blind (factor.Character c place) v h = refl
    factor_blind (factor.Group' p e place) v h = first_blind e v h
    factor_blind (factor.Not' p f place) v h = λ i. operand_blind f v h i >>= negated
    factor_blind (factor.Set' n members place) v h =
        λ i. members_blind members [] v h i >>= λ zs. lift (set_of zs)
    factor_blind (factor.Variable' name n path place) v h =
        valued_blind v h (head v.site.text.outline name) _ _
        (λ i. value_begun_blind v (head v.site.text.outline name) i
        >>= λ r. path_blind path r v h i)
    factor_blind (factor.Call' name n arguments place) v h =
        applied_blind v h (meaning v.site.text.outline name) _ _ _ _
        (values_blind arguments [] v h) (required_blind arguments v h)

    first_blind : {n : _} (r : Row_of-Expr n) (v : View) → Blind x v.site.deeper
        → row_first r (seen_from x v) ≡ row_first r v
    first_blind end_of-Expr v h = refl
    first_blind (more_of-Expr e rest) v h = value_blind e v h

    operand_blind : {n : _} (r : Row_of-Factor n) (v : View) → Blind x v.site.deeper
        → row_factor r (seen_from x v) ≡ row_factor r v
    operand_blind end_of-Factor v h = refl
    operand_blind (more_of-Factor f rest) v h = factor_blind f v h

    required_blind : {n : _} (r : Row_of-Expr n) (v : View) → Blind x v.site.deeper
        → row_required r (seen_from x v) ≡ row_required r v
    required_blind end_of-Expr v h = refl
    required_blind (more_of-Expr e rest) v h = λ i name. value_blind e v h i >>= λ a.
        ordinal a >>= λ z. lift (required_by name (host_of v.site.text.outline e) z)
        >>= λ y. give (value.Ordinal y)

    members_blind : {n : _} (r : Row_of-Member n) (zs : List ℤ) (v : View)
        → Blind x v.site.deeper → row_members r zs (seen_from x v) ≡ row_members r zs v
    members_blind end_of-Member zs v h = refl
    members_blind (more_of-Member m rest) zs v h =
        λ i. member_blind m zs v h i >>= λ ys. members_blind rest ys v h i

    member_blind : (m : Member) (zs : List ℤ) (v : View) → Blind x v.site.deeper
        → member_of m zs (seen_from x v) ≡ member_of m zs v
    member_blind (Member' low high) zs v h =
        λ i. value_blind low v h i >>= λ a. high_blind high a zs v h i

    high_blind : (r : Held-Member-high) (a : Value) (zs : List ℤ) (v : View)
        → Blind x v.site.deeper → held_high r a zs (seen_from x v) ≡ held_high r a zs v
    high_blind Member-high-None' a zs v h = refl
    high_blind (Member-high-Some' high) a zs v h =
        λ i. value_blind high v h i >>= λ b. spanned a b zs

    path_blind : {n : _} (r : Row_of-Selector n) (q : Reached) (v : View)
        → Blind x v.site.deeper → row_selected r q (seen_from x v) ≡ row_selected r q v
    path_blind end_of-Selector q v h = refl
    path_blind (more_of-Selector s rest) q v h =
        λ i. selected_blind s q v h i >>= λ r. path_blind rest r v h i

    pub selected_blind : (s : Selector) (q : Reached) (v : View) → Blind x v.site.deeper
        → selected s q (seen_from x v) ≡ selected s q v
    selected_blind (selector.Index' n exprs place) (Component p k) v h =
        components_blind exprs (Component p k) v h
    selected_blind (selector.Index' n exprs place) (Module p zs) v h =
        λ i. subscripts_blind exprs (dims_at v.site.text.outline p) zs v h i
        >>= λ ys. give (Module p ys)
    selected_blind (selector.Field u) q v h = field_blind v u q

    components_blind : {n : _} (r : Row_of-Expr n) (q : Reached) (v : View)
        → Blind x v.site.deeper → row_components r q (seen_from x v) ≡ row_components r q v
    components_blind end_of-Expr q v h = refl
    components_blind (more_of-Expr e rest) q v h = λ i. value_blind e v h i >>= λ a.
        ordinal a >>= λ z. with_component q z >>= λ r. components_blind rest r v h i

    subscripts_blind : {n : _} (r : Row_of-Expr n) (ks : Option (List Kind)) (zs : List ℤ)
        (v : View)
        → Blind x v.site.deeper → row_subscripts r ks zs (seen_from x v) ≡ row_subscripts r ks zs v
    subscripts_blind end_of-Expr ks zs v h = refl
    subscripts_blind (more_of-Expr e rest) ks zs v h = λ i. value_blind e v h i >>= λ a.
        ordinal a >>= λ z. with_subscript ks zs z >>= λ ys. subscripts_blind rest ks ys v h i

    values_blind : {n : _} (r : Row_of-Expr n) (xs : List Slot) (v : View)
        → Blind x v.site.deeper → row_values r xs (seen_from x v) ≡ row_values r xs v
    values_blind end_of-Expr xs v h = refl
    values_blind (more_of-Expr e rest) xs v h = λ i. value_blind e v h i >>= λ a.
        values_blind rest (xs ++ slot.Value a ∷ []) v h i

  in_path_blind : (ss : List Selector) (q : Reached) (v : View) → Blind x v.site.deeper
      → selected_in ss q (seen_from x v) ≡ selected_in ss q v
  in_path_blind [] q v h = refl
  in_path_blind (s ∷ ss) q v h =
      λ i. selected_blind s q v h i >>= λ r. in_path_blind ss r v h i

  pub variable_blind : (u : Used) (ss : List Selector) (v : View) → Blind x v.site.deeper
      → variable_of u ss (seen_from x v) ≡ variable_of u ss v
  variable_blind u ss v h = λ i. variable_begun_blind v (head v.site.text.outline u) i
      >>= λ r. in_path_blind ss r v h i
