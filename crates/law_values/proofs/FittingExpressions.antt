-- What expressions yield is what the rules say that they do.
use Rattle.std.specs.Option.{option_map}
use Rattle.std.proofs.Common.{◌≡◌, refl, sym, ap, subst, ◌∙◌, arith, ℕ, ◌+◌, ℤ, Bool, true, false}
use Rattle.std.proofs.Common.{List, [], ◌∷◌, ◌++◌, length, Option, Some, None, inl, inr}
use Rattle.std.proofs.Common.{true≢false, length-append}
use Rattle.std.proofs.lemmas.Bool.{and_parts}
use Rattle.std.proofs.lemmas.Option.{same_Some, none-some}
use Rattle.est_syntax.specs.declared.expression.Expr.{Expr, Expr', Expr-relation-None'}
use Rattle.est_syntax.specs.declared.expression.Expr.{Expr-relation-Some'}
use Rattle.est_syntax.specs.declared.expression.Factor.{Factor, Row_of-Expr, end_of-Expr}
use Rattle.est_syntax.specs.declared.expression.Factor.{more_of-Expr, Row_of-Member}
use Rattle.est_syntax.specs.declared.expression.Factor.{end_of-Member, more_of-Member}
use Rattle.est_syntax.specs.declared.expression.Factor.{Row_of-Selector, end_of-Selector}
use Rattle.est_syntax.specs.declared.expression.Factor.{more_of-Selector}
use Rattle.est_syntax.specs.declared.expression.Member.{Member, Member', Held-Member-high}
use Rattle.est_syntax.specs.declared.expression.Member.{Member-high-None', Member-high-Some'}
use Rattle.est_syntax.specs.declared.expression.Operator.{Operator}
use Rattle.est_syntax.specs.declared.expression.Relation.{Relation'}
use Rattle.est_syntax.specs.declared.expression.Selector.{Selector}
use Rattle.est_syntax.specs.declared.expression.Simple.{Simple, Simple', Row_of-SumStep}
use Rattle.est_syntax.specs.declared.expression.Simple.{end_of-SumStep, more_of-SumStep}
use Rattle.est_syntax.specs.declared.expression.SumStep.{SumStep'}
use Rattle.est_syntax.specs.declared.expression.Term.{Term, Term', Row_of-ProductStep}
use Rattle.est_syntax.specs.declared.expression.Term.{end_of-ProductStep, more_of-ProductStep}
use Rattle.est_syntax.specs.declared.kind.Kind.{Kind}
use Rattle.est_syntax.specs.declared.name.Used.{Used}
use Rattle.est_syntax.specs.declared.routine.Routine.{Routine}
use Rattle.est_syntax.specs.declared.expression.Factor.TheVariants as factor
use Rattle.est_syntax.specs.declared.expression.Selector.TheVariants as selector
use Rattle.est_values.specs.declared.value.Value.{Value}
use Rattle.est_values.specs.FittingValues.{Fits}
use Rattle.est_values.specs.PartsOfValues.{part_at}
use Rattle.est_values.specs.declared.value.Value.TheVariants as value
use Rattle.rule_scope.specs.Outline.{Outline, entry_at}
use Rattle.rule_scope.specs.Uses.{is_sort, meaning}
use Rattle.rule_scope.specs.declared.declaration.Entry.{Entry}
use Rattle.rule_scope.specs.declared.declaration.Meant.{Meant}
use Rattle.rule_scope.specs.declared.declaration.Measured.{Measured}
use Rattle.rule_scope.specs.declared.predeclared.PredeclaredName.{PredeclaredName}
use Rattle.rule_scope.specs.declared.declaration.Meant.TheVariants as meant
use Rattle.rule_scope.specs.declared.declaration.Sort.TheVariants as sort
use Rattle.est_values.specs.Types.{Yielded, type_of}
use Rattle.rule_expressions.specs.Calls.{declared_callee, callee_meant, call_by}
use Rattle.rule_expressions.specs.Expressions.{expr_type, simple_type, term_type, factor_type}
use Rattle.rule_expressions.specs.Expressions.{row_first, row_factor, row_taken, are_taken}
use Rattle.rule_expressions.specs.Operators.{is_given}
use Rattle.rule_expressions.specs.Selections.{Selection, Broken, declared_type, parameter}
use Rattle.rule_expressions.specs.Variables.{selected_type}
use Rattle.rule_expressions.specs.Expressions as rules
use Rattle.rule_expressions.specs.Operators as types
use Rattle.rule_expressions.specs.Selections as select
use Rattle.rule_expressions.specs.declared.receivers.Receiver.TheVariants as receiver
use Rattle.mean_blocks.specs.declared.frame.Place.{Place}
use Rattle.mean_blocks.specs.declared.frame.Slot.{Slot}
use Rattle.mean_blocks.specs.Outcome.{Outcome, Done, Fault, Limit, ◌>>=◌, lift, known}
use Rattle.mean_blocks.specs.TextByPlace.{Text, routine_at, statements_of}
use Rattle.mean_blocks.specs.Frames.{slot_of, frame_at, value_in, read_at, existing, whole}
use Rattle.mean_blocks.specs.Frames.{component_of}
use Rattle.mean_blocks.specs.TakenValues.{component_at}
use Rattle.mean_blocks.specs.declared.frame.Holder.TheVariants as holder
use Rattle.mean_blocks.specs.NamesInRuns.{Head, Nothing, Constant, Function, Variable, Modules}
use Rattle.mean_blocks.specs.NamesInRuns.{head, kind_at, array_in, field_in}
use Rattle.mean_blocks.specs.WorkingState.{State, View, Deeper}
use Rattle.mean_blocks.specs.SetOperators.{set_of}
use Rattle.mean_blocks.specs.OperandHosts.{host_of}
use Rattle.mean_blocks.specs.ValueOperators.{ordinal, signed, negated, joined, defined_in}
use Rattle.mean_blocks.specs.ValueOperators.{defined}
use Rattle.mean_blocks.specs.ReachedVariables.{Reached, Component, Module, variable_begun}
use Rattle.mean_blocks.specs.ReachedVariables.{value_begun, loaded, with_field, with_component}
use Rattle.mean_blocks.specs.FunctionCalls.{called, valued, result_of, routine_frame}
use Rattle.mean_blocks.specs.FunctionCalls.{required_by, part_of_result}
use Rattle.mean_blocks.specs.ExpressionValues.{applied, value_of, simple_of, row_sum, term_of}
use Rattle.mean_blocks.specs.ExpressionValues.{row_product, factor_of, row_required}
use Rattle.mean_blocks.specs.ExpressionValues.{row_members, row_selected, row_values, values_in}
use Rattle.mean_blocks.specs.ExpressionValues.{member_of, held_high, selected_in, variable_of}
use Rattle.mean_blocks.specs.ExpressionValues.{selected, row_components}
use Rattle.mean_blocks.specs.declared.frame.Slot.TheVariants as slot
use Rattle.mean_blocks.specs.ExpressionValues as runs
use Rattle.law_runs.specs.UpkeepLaws.{OnDone}
use Rattle.law_runs.proofs.GivenThings.{OnGood}
use Rattle.law_runs.proofs.GivenThings.{Gives, then_gives, lift_gives, good_gives, given_on}
use Rattle.law_values.specs.SteadyOutlines.{IsSteady}
use Rattle.law_values.specs.FittingStates.{FrameFits, FramesFit, SituationFits, StateFits}
use Rattle.law_values.specs.ValuesOfTypes.{DoAscend, IsYielded}
use Rattle.law_values.proofs.AscendingSets.{none_ascend}
use Rattle.law_values.proofs.OperatorValues.{ordinal_simple, set_of_simple, good_more}
use Rattle.law_values.proofs.OperatorValues.{joined_yields, signed_yields, negated_yields}
use Rattle.law_values.proofs.OperatorValues.{integer_yields, spanned_ascend, signed_same}
use Rattle.law_values.proofs.OperatorValues.{operand_types}
use Rattle.law_values.proofs.TypedValues.{fits_yielded}
use Rattle.law_values.proofs.FittingFrames.{slot_fits, frame_fits, value_fits, read_fits}
use Rattle.law_values.proofs.FittingFrames.{whole_has}
use Rattle.law_values.proofs.PartsFit.{part_fits}
use Rattle.law_values.proofs.SameKinds.{same_fits}
use Rattle.law_values.proofs.ReachedKinds.{IsOr, OnHead, IsVariable, head_on, Goes}
use Rattle.law_values.proofs.ReachedKinds.{begun_agrees, selected_agrees, path_agrees, kind_is}
use Rattle.law_values.proofs.FittingArguments.{AreGivenFor, value_given, routine_given}
use Rattle.law_values.proofs.FittingArguments.{none_given, given_more}

-- TYPES

-- a sum or a product has a type where what begins it has one
sum_some : (o : Outline) {n : _} (row : Row_of-SumStep n) (x : Option Yielded) (t : Yielded)
    → rules.row_sum o x row ≡ Some t → (s : Yielded) × (x ≡ Some s)
sum_some o end_of-SumStep x t h = (t, h)
sum_some o (more_of-SumStep (SumStep' op right) rest) x t h =
    let s = sum_some o rest (types.operated op x (term_type o right)) t h in
    let r = operand_types op x (term_type o right) s.0 s.1 in (r.0, r.2)

product_some : (o : Outline) {n : _} (row : Row_of-ProductStep n) (x : Option Yielded) (t : Yielded)
    → rules.row_product o x row ≡ Some t → (s : Yielded) × (x ≡ Some s)
product_some o end_of-ProductStep x t h = (t, h)
product_some o (more_of-ProductStep op right rest) x t h =
    let s = product_some o rest (types.operated op x (factor_type o right)) t h in
    let r = operand_types op x (factor_type o right) s.0 s.1 in (r.0, r.2)

right_type : (op : Operator) (s : Yielded) (y : Option Yielded) (t : Yielded)
    → types.operated op (Some s) y ≡ Some t
    → (r : Yielded) × (y ≡ Some r) × (types.operated op (Some s) (Some r) ≡ Some t)
right_type op s None t h = absurd (none-some t h)
right_type op s (Some r) t h = (r, refl, h)

pub given_some : (x y : Option Yielded) → is_given x y ≡ true → (t : Yielded) × (y ≡ Some t)
given_some None y h = absurd (true≢false (sym h))
given_some (Some x) None h = absurd (true≢false (sym h))
given_some (Some x) (Some t) h = (t, refl)

-- what breaks a rule has no type
broken_end : (o : Outline) {n : _} (path : Row_of-Selector n) (t : Yielded)
    → selected_type (rules.row_selected o Broken path) ≡ Some t → ⊥
broken_end o end_of-Selector t h = none-some t h
broken_end o (more_of-Selector (selector.Index' n row place) rest) t h = broken_end o rest t h
broken_end o (more_of-Selector (selector.Field u) rest) t h = broken_end o rest t h

-- what a function yields by its kind
declared_kind : (o : Outline) (p : ℕ) (t : Yielded) → declared_type (entry_at o p) ≡ Some t
    → (k : Kind) × (kind_at o p ≡ Some k) × (type_of k ≡ t)
declared_kind o p t h = by (entry_at o p) refl h
  where
    measured : (e : Entry) (m : Option Measured) → entry_at o p ≡ Some e → e.kind ≡ m
        → option_map (λ (m : Measured). type_of m.kind) m ≡ Some t
        → (k : Kind) × (kind_at o p ≡ Some k) × (type_of k ≡ t)
    measured e None i k g = absurd (none-some t g)
    measured e (Some m) i k g = (m.kind, kind_is o p e m i k, same_Some (type_of m.kind) t g)

    by : (x : Option Entry) → entry_at o p ≡ x → declared_type x ≡ Some t
        → (k : Kind) × (kind_at o p ≡ Some k) × (type_of k ≡ t)
    by None i g = absurd (none-some t g)
    by (Some e) i g = measured e e.kind i refl g

-- a list with one thing more
pub one_longer : {A : Type 0} (xs : List A) (x : A) (i : ℕ) → i ≡ length xs
    → i + 1 ≡ length (xs ++ x ∷ [])
one_longer xs x i e = omega (arith, e, length-append xs (x ∷ []))

-- the statements of functions leave what fits
abbrev pub CallsFit : Text → Deeper → Type 0
CallsFit t d = (p : ℕ) (r : Routine) (n : ℕ) → routine_at t p ≡ Some r → (s : State)
    → StateFits t.outline s → OnDone (StateFits t.outline) (d n true (statements_of r) s)

module _ (v : View) (steady : IsSteady v.site.text.outline)
    (situation : SituationFits v.site.text.outline v.situation)
    (frames : FramesFit v.site.text.outline v.frames)
    (calls : CallsFit v.site.text v.site.deeper) where
  abbrev o : Outline
  o = v.site.text.outline

  abbrev pub Y : Yielded → Value → Type 0
  Y t a = IsYielded steady.sizes t a

  -- CALLS

  -- what holds of each defined value of the result's kind, holds of the result
  result_gives : (Q : Value → Type 0) (p : ℕ) (k : Kind) (x : Outcome State (Unit {0}))
      → kind_at o p ≡ Some k → ((w : Value) → Fits k w → OnGood Q (defined_in w))
      → OnDone (StateFits o) x → Gives Q (result_of p x)
  result_gives Q p k (Done a s) e each h =
      lift_gives Q (Fits k) (value_in (slot_of p (frame_at s.frames 0))) s.left
      defined
      (value_fits o steady k (slot_of p (frame_at s.frames 0))
      (slot_fits o steady p k (frame_at s.frames 0) e (frame_fits o steady s.frames 0 h.frames)))
      (λ w m f. good_gives Q (defined_in w) m (each w f))
  result_gives Q p k (Fault f) e each h = tt
  result_gives Q p k Limit e each h = tt

  called_gives : (Q : Value → Type 0) (p : ℕ) (k : Kind) (xs : List Slot) (l : ℕ)
      → kind_at o p ≡ Some k → ((w : Value) → Fits k w → OnGood Q (defined_in w))
      → AreGivenFor o steady p xs → Gives Q (called v p xs l)
  called_gives Q p k xs l e each h = by (routine_at v.site.text p) refl
    where
      by : (r : Option Routine) → routine_at v.site.text p ≡ r
          → Gives Q ((known r >>= λ r. lift (routine_frame o p xs) >>= λ f.
          λ n. result_of p (v.site.deeper v.site.instance true (statements_of r)
          (record { situation = v.situation; outs = []; frames = f ∷ []; left = n }))) l)
      by None i = tt
      by (Some r) i =
          lift_gives Q (FrameFits o) (routine_frame o p xs) l _
          (routine_given o steady p xs h)
          (λ f m q. result_gives Q p k _ e each (calls p r v.site.instance i
          (record { situation = v.situation; outs = []; frames = f ∷ []; left = m })
          (record { situation = situation; frames = (q, tt); sent = tt })))

  called_yields : (p : ℕ) (k : Kind) (xs : List Slot) (l : ℕ) → kind_at o p ≡ Some k
      → AreGivenFor o steady p xs → Gives (Y (type_of k)) (called v p xs l)
  called_yields p k xs l e h = called_gives (Y (type_of k)) p k xs l e
      (λ w f. fits_yielded steady.sizes k w (steady.sized p k e) f) h

  -- VARIABLES

  read_yields : (p : Place) (j : Kind) (l : ℕ) → IsVariable o steady.sizes p j
      → Gives (Y (type_of j)) (loaded v (Component p j) l)
  read_yields p j l h =
      lift_gives (Y (type_of j)) (Fits j) (read_at p v.situation v.frames) l defined
      (read_fits o steady v.situation v.frames situation.rows frames p j h.has)
      (λ w m f. good_gives (Y (type_of j)) (defined_in w) m
      (fits_yielded steady.sizes j w h.sized f))

  loaded_yields : (s : Selection) (r : Reached) (t : Yielded) (l : ℕ) → Goes v steady frames s r
      → selected_type s ≡ Some t → Gives (Y t) (loaded v r l)
  loaded_yields s (Module p zs) t l h e = tt
  loaded_yields (select.Component k) (Component p j) t l h e =
      subst (λ u. Gives (Y u) (loaded v (Component p j) l))
      (ap type_of (sym h.0) ∙ same_Some (type_of k) t e) (read_yields p j l h.1)
  loaded_yields (select.Value u) (Component p j) t l h e =
      subst (λ u. Gives (Y u) (loaded v (Component p j) l)) (sym h.0 ∙ same_Some u t e)
      (read_yields p j l h.1)
  loaded_yields _ (Component p j) t l h e = absurd (none-some t e)

  reached_yields : {n : _} (h : Head) (s : Selection) (path : Row_of-Selector n) (t : Yielded)
      (l : ℕ) → OnHead o s h → selected_type (rules.row_selected o s path) ≡ Some t
      → Gives (Y t) (((variable_begun v h >>= λ r. row_selected path r v) >>= loaded v) l)
  reached_yields h s path t l on e =
      let Q = Goes v steady frames (rules.row_selected o s path) in
      given_on Q (Y t) ((variable_begun v h >>= λ r. row_selected path r v) l) (loaded v)
      (given_on (Goes v steady frames s) Q (variable_begun v h l) (λ r. row_selected path r v)
      (begun_agrees v steady frames h s l on)
      (λ r m g. path_agrees v steady frames path s r m g))
      (λ r m g. loaded_yields (rules.row_selected o s path) r t m g e)

  -- PARTS OF RESULTS

  -- a part of what is declared at a place
  abbrev IsPartOf : ℕ → Reached → Type 0
  IsPartOf p (Component q j) = q.declared ≡ p
  IsPartOf p (Module q zs) = ⊥

  component_within : (p : ℕ) (r : Reached) (z : ℤ) (l : ℕ) → IsPartOf p r
      → Gives (IsPartOf p) (with_component r z l)
  component_within p (Component q j) z l h = then_gives (IsPartOf p) (known (array_in j) l) _
      (λ ks m. then_gives (IsPartOf p) (lift (component_at ks.0 z) m) _ (λ n i. h))
  component_within p (Module q zs) z l h = absurd h

  components_within : {n : _} (row : Row_of-Expr n) (p : ℕ) (r : Reached) (l : ℕ) → IsPartOf p r
      → Gives (IsPartOf p) (row_components row r v l)
  components_within end_of-Expr p r l h = h
  components_within (more_of-Expr e rest) p r l h =
      then_gives (IsPartOf p) (value_of e v l) _
      (λ a m. then_gives (IsPartOf p) (ordinal a m) _
      (λ z i. given_on (IsPartOf p) (IsPartOf p) (with_component r z i) _
      (component_within p r z i h) (λ q w g. components_within rest p q w g)))

  field_within : (u : Used) (p : ℕ) (q : Place) (j : Kind) (l : ℕ) → q.declared ≡ p
      → Gives (IsPartOf p) (with_field v u (Component q j) l)
  field_within u p q j l h = by (field_in j u)
    where
      by : (x : Option (ℕ × Kind)) → Gives (IsPartOf p)
          (known (option_map (λ (f : ℕ × Kind). Component (component_of f.0 q) f.1) x) l)
      by None = tt
      by (Some f) = h

  selected_within : (x : Selector) (p : ℕ) (r : Reached) (l : ℕ) → IsPartOf p r
      → Gives (IsPartOf p) (selected x r v l)
  selected_within x p (Module q zs) l h = absurd h
  selected_within (selector.Index' n row place) p (Component q j) l h =
      components_within row p (Component q j) l h
  selected_within (selector.Field u) p (Component q j) l h = field_within u p q j l h

  path_within : {n : _} (path : Row_of-Selector n) (p : ℕ) (r : Reached) (l : ℕ) → IsPartOf p r
      → Gives (IsPartOf p) (row_selected path r v l)
  path_within end_of-Selector p r l h = h
  path_within (more_of-Selector x rest) p r l h =
      given_on (IsPartOf p) (IsPartOf p) (selected x r v l) (λ q. row_selected rest q v)
      (selected_within x p r l h) (λ q m g. path_within rest p q m g)

  part_yields : (p : ℕ) (k : Kind) (a : Value) (q : Place) (j : Kind) (l : ℕ) → Fits k a
      → kind_at o p ≡ Some k → q.declared ≡ p → IsVariable o steady.sizes q j
      → Gives (Y (type_of j)) (part_of_result a (Component q j) l)
  part_yields p k a q j l f e d h =
      lift_gives (Y (type_of j)) (Fits j) (existing (part_at q.path a)) l defined
      (by (part_at q.path a) refl)
      (λ w m g. good_gives (Y (type_of j)) (defined_in w) m
      (fits_yielded steady.sizes j w h.sized g))
    where
      whole : h.has.whole ≡ k
      whole = same_Some h.has.whole k (sym h.has.declared ∙ ap (kind_at o) d ∙ e)

      fitted : Fits h.has.whole a
      fitted = subst (λ x. Fits x a) (sym whole) f

      by : (x : Option Value) → part_at q.path a ≡ x → OnGood (Fits j) (existing x)
      by None i = tt
      by (Some w) i = same_fits h.has.part j w h.has.same
          (part_fits q.path h.has.whole h.has.part a w fitted h.has.reached i)

  returned_yields : (s : Selection) (r : Reached) (t : Yielded) (a : Value) (l p : ℕ) (k : Kind)
      → Fits k a → kind_at o p ≡ Some k → IsPartOf p r → Goes v steady frames s r
      → selected_type s ≡ Some t → Gives (Y t) (part_of_result a r l)
  returned_yields s (Module q zs) t a l p k f e d g i = absurd d
  returned_yields (select.Component c) (Component q j) t a l p k f e d g i =
      subst (λ u. Gives (Y u) (part_of_result a (Component q j) l))
      (ap type_of (sym g.0) ∙ same_Some (type_of c) t i) (part_yields p k a q j l f e d g.1)
  returned_yields (select.Value u) (Component q j) t a l p k f e d g i =
      subst (λ u. Gives (Y u) (part_of_result a (Component q j) l))
      (sym g.0 ∙ same_Some u t i) (part_yields p k a q j l f e d g.1)
  returned_yields _ (Component q j) t a l p k f e d g i = absurd (none-some t i)

  defined_fits : (k : Kind) (w : Value) → Fits k w → OnGood (Fits k) (defined_in w)
  defined_fits k value.Undefined f = tt
  defined_fits k w f = f

  both_given : {A : Type 0} (P Q : A → Type 0) (x : Outcome ℕ A) → Gives P x → Gives Q x
      → Gives (λ a. P a × Q a) x
  both_given P Q (Done a l) h g = (h, g)
  both_given P Q (Fault f) h g = tt
  both_given P Q Limit h g = tt

  -- the result of a function without arguments, with its selectors
  function_selected : {n : _} (p : ℕ) (k : Kind) (s : Selection) (path : Row_of-Selector n)
      (t : Yielded) (l : ℕ) → kind_at o p ≡ Some k → s ≡ select.Component k
      → selected_type (rules.row_selected o s path) ≡ Some t
      → Gives (Y t) (valued v (Function p k) (value_begun v (Function p k)
      >>= λ r. row_selected path r v) l)
  function_selected p k s path t l e d i =
      given_on (Fits k) (Y t) (called v p [] l) _
      (called_gives (Fits k) p k [] l e (defined_fits k) (none_given o steady p))
      (λ a m f. given_on
      (λ r. Goes v steady frames (rules.row_selected o s path) r × IsPartOf p r) (Y t)
      (row_selected path begin v m) (part_of_result a)
      (both_given (Goes v steady frames (rules.row_selected o s path)) (IsPartOf p)
      (row_selected path begin v m) (path_agrees v steady frames path s begin m goes)
      (path_within path p begin m refl))
      (λ r j g. returned_yields (rules.row_selected o s path) r t a j p k f e g.1 g.0 i))
    where
      begin : Reached
      begin = Component (whole (holder.Instance v.site.instance) p) k

      goes : Goes v steady frames s begin
      goes = subst (λ x. Goes v steady frames x begin) (sym d) (
        refl,
        record {
          has = whole_has o steady (holder.Instance v.site.instance) p k e;
          sized = steady.sized p k e;
        },
      )

  variable_yields : {n : _} (h : Head) (s : Selection) (path : Row_of-Selector n) (t : Yielded)
      (l : ℕ) → OnHead o s h → selected_type (rules.row_selected o s path) ≡ Some t
      → Gives (Y t) (valued v h (value_begun v h >>= λ r. row_selected path r v) l)
  variable_yields (Constant z) s path t l on e = ordinal_simple steady.sizes z t
  variable_yields (Function p k) s path t l on e = by on.1
    where
      by : IsOr s (select.Component k) → Gives (Y t) (valued v (Function p k)
          (value_begun v (Function p k) >>= λ r. row_selected path r v) l)
      by (inl d) = function_selected p k s path t l on.0 d e
      by (inr d) = absurd (broken_end o path t
          (subst (λ x. selected_type (rules.row_selected o x path) ≡ Some t) d e))
  variable_yields Nothing s path t l on e = reached_yields Nothing s path t l on e
  variable_yields (Variable p k) s path t l on e = reached_yields (Variable p k) s path t l on e
  variable_yields (Modules p) s path t l on e = reached_yields (Modules p) s path t l on e

  -- SETS AND PREDECLARED FUNCTIONS

  high_ascends : (high : Held-Member-high) (a : Value) (zs : List ℤ) (l : ℕ) → DoAscend zs
      → Gives DoAscend (held_high high a zs v l)
  high_ascends Member-high-None' a zs l h = spanned_ascend a a zs l h
  high_ascends (Member-high-Some' e) a zs l h = then_gives DoAscend (value_of e v l) _
      (λ b m. spanned_ascend a b zs m h)

  member_ascends : (x : Member) (zs : List ℤ) (l : ℕ) → DoAscend zs
      → Gives DoAscend (member_of x zs v l)
  member_ascends (Member' low high) zs l h = then_gives DoAscend (value_of low v l) _
      (λ a m. high_ascends high a zs m h)

  members_ascend : {n : _} (row : Row_of-Member n) (zs : List ℤ) (l : ℕ) → DoAscend zs
      → Gives DoAscend (row_members row zs v l)
  members_ascend end_of-Member zs l h = h
  members_ascend (more_of-Member x rest) zs l h =
      given_on DoAscend DoAscend (member_of x zs v l) _ (member_ascends x zs l h)
      (λ ys m g. members_ascend rest ys m g)

  required_yields : {n : _} (row : Row_of-Expr n) (name : PredeclaredName) (t : Yielded) (l : ℕ)
      → Gives (Y t) (row_required row v name l)
  required_yields end_of-Expr name t l = tt
  required_yields (more_of-Expr e rest) name t l =
      then_gives (Y t) (value_of e v l) _
      (λ a m. then_gives (Y t) (ordinal a m) _
      (λ z i. then_gives (Y t) (lift (required_by name (host_of o e) z) i) _
      (λ y q. ordinal_simple steady.sizes y t)))

  -- FUNCTIONS

  -- a call of a function that takes these arguments
  function_yields : {n : _} (p : ℕ) (row : Row_of-Expr n) (x : Option Yielded) (t : Yielded) (l : ℕ)
      (c : Bool) → row_taken o (Some (receiver.Parameters p)) 0 row ≡ c
      → call_by o (Some (receiver.Parameters p)) c x ≡ Some t
      → (row_taken o (Some (receiver.Parameters p)) 0 row ≡ true
      → (m : ℕ) → Gives (AreGivenFor o steady p) (row_values row [] v m))
      → Gives (Y t) ((row_values row [] v >>= called v p) l)
  function_yields p row x t l true i h given =
      let k = declared_kind o p t h in
      given_on (AreGivenFor o steady p) (Y t) (row_values row [] v l) (called v p) (given i l)
      (λ xs m g. subst (λ u. Gives (Y u) (called v p xs m)) k.2
      (called_yields p k.0 xs m k.1 g))
  function_yields p row x t l false i h given = absurd (none-some t h)

  applied_yields : {n : _} (m : Meant) (row : Row_of-Expr n) (t : Yielded) (l : ℕ)
      → call_by o (callee_meant o m) (row_taken o (callee_meant o m) 0 row) (row_first o row)
      ≡ Some t
      → ((p : ℕ) → row_taken o (Some (receiver.Parameters p)) 0 row ≡ true
      → (i : ℕ) → Gives (AreGivenFor o steady p) (row_values row [] v i))
      → Gives (Y t) (applied v m (row_values row [] v) (row_required row v) l)
  applied_yields (meant.Seen p) row t l h given = by (is_sort sort.Function (entry_at o p)) h
    where
      by : (b : Bool) → call_by o (declared_callee b p)
          (row_taken o (declared_callee b p) 0 row) (row_first o row) ≡ Some t
          → Gives (Y t) ((row_values row [] v >>= called v p) l)
      by true g = function_yields p row (row_first o row) t l
          (row_taken o (Some (receiver.Parameters p)) 0 row) refl g (given p)
      by false g = absurd (nothing_called (row_taken o None 0 row) g)
        where
          nothing_called : (c : Bool) → call_by o None c (row_first o row) ≡ Some t → ⊥
          nothing_called true k = none-some t k
          nothing_called false k = none-some t k
  applied_yields (meant.Predeclared n) row t l h given = required_yields row n t l
  applied_yields (meant.Unseen p) row t l h given = tt
  applied_yields meant.Nothing row t l h given = tt

  -- one argument more
  one_given : (p i : ℕ) (xs : List Slot) (a : Value) (t : Yielded) → i ≡ length xs
      → AreGivenFor o steady p xs → Y t a
      → is_given (declared_type (parameter o p i)) (Some t) ≡ true
      → AreGivenFor o steady p (xs ++ slot.Value a ∷ [])
  one_given p i xs a t e h q g =
      given_more o steady p xs (slot.Value a) h
      (value_given o steady (parameter o p (length xs)) a t p (length xs) refl q
      (subst (λ j. is_given (declared_type (parameter o p j)) (Some t) ≡ true) e g))

  -- EXPRESSIONS

  mutual
    pub expr_yields : (e : Expr) (t : Yielded) (l : ℕ) → expr_type o e ≡ Some t
        → Gives (Y t) (value_of e v l)
    expr_yields (Expr' left Expr-relation-None' place) t l h =
        given_on (Y t) (Y t) (simple_of left v l) _ (simple_yields left t l h) (λ a m q. q)
    expr_yields (Expr' left (Expr-relation-Some' (Relation' op right)) place) t l h =
        let s = operand_types op (simple_type o left) (simple_type o right) t h in
        given_on (Y s.0) (Y t) (simple_of left v l) _ (simple_yields left s.0 l s.2)
        (λ a m q. joined_yields steady.sizes op a (simple_of right v) s.0 s.1 t m s.4 q
        (λ i. simple_yields right s.1 i s.3))

    simple_yields : (e : Simple) (t : Yielded) (l : ℕ) → simple_type o e ≡ Some t
        → Gives (Y t) (simple_of e v l)
    simple_yields (Simple' sign first n rest) t l h =
        let s = sum_some o rest (types.signed sign (term_type o first)) t h in
        let k = subst (λ x. rules.row_sum o x rest ≡ Some t) s.1 h in
        given_on (Y s.0) (Y t) (term_of first v l) _
        (term_yields first s.0 l (signed_same sign (term_type o first) s.0 s.1))
        (λ a m q. given_on (Y s.0) (Y t) (signed sign a m) _
        (signed_yields steady.sizes sign a s.0 m q)
        (λ b i r. sum_yields rest s.0 t b i k r))

    sum_yields : {n : _} (row : Row_of-SumStep n) (s t : Yielded) (a : Value) (l : ℕ)
        → rules.row_sum o (Some s) row ≡ Some t → Y s a → Gives (Y t) (row_sum row a v l)
    sum_yields end_of-SumStep s t a l h q = subst (λ u. Y u a) (same_Some s t h) q
    sum_yields (more_of-SumStep (SumStep' op right) rest) s t a l h q =
        let u = sum_some o rest (types.operated op (Some s) (term_type o right)) t h in
        let r = right_type op s (term_type o right) u.0 u.1 in
        given_on (Y u.0) (Y t) (joined op a (term_of right v) l) _
        (joined_yields steady.sizes op a (term_of right v) s r.0 u.0 l r.2 q
        (λ i. term_yields right r.0 i r.1))
        (λ b m g. sum_yields rest u.0 t b m
        (subst (λ x. rules.row_sum o x rest ≡ Some t) u.1 h) g)

    term_yields : (e : Term) (t : Yielded) (l : ℕ) → term_type o e ≡ Some t
        → Gives (Y t) (term_of e v l)
    term_yields (Term' first n rest) t l h =
        let s = product_some o rest (factor_type o first) t h in
        let k = subst (λ x. rules.row_product o x rest ≡ Some t) s.1 h in
        given_on (Y s.0) (Y t) (factor_of first v l) _ (factor_yields first s.0 l s.1)
        (λ a m q. product_yields rest s.0 t a m k q)

    product_yields : {n : _} (row : Row_of-ProductStep n) (s t : Yielded) (a : Value) (l : ℕ)
        → rules.row_product o (Some s) row ≡ Some t → Y s a → Gives (Y t) (row_product row a v l)
    product_yields end_of-ProductStep s t a l h q = subst (λ u. Y u a) (same_Some s t h) q
    product_yields (more_of-ProductStep op right rest) s t a l h q =
        let u = product_some o rest (types.operated op (Some s) (factor_type o right)) t h in
        let r = right_type op s (factor_type o right) u.0 u.1 in
        given_on (Y u.0) (Y t) (joined op a (factor_of right v) l) _
        (joined_yields steady.sizes op a (factor_of right v) s r.0 u.0 l r.2 q
        (λ i. factor_yields right r.0 i r.1))
        (λ b m g. product_yields rest u.0 t b m
        (subst (λ x. rules.row_product o x rest ≡ Some t) u.1 h) g)

    factor_yields : (e : Factor) (t : Yielded) (l : ℕ) → factor_type o e ≡ Some t
        → Gives (Y t) (factor_of e v l)
    factor_yields (factor.Number n place) t l h = integer_yields steady.sizes n t l
    factor_yields (factor.Character c place) t l h = ordinal_simple steady.sizes _ t
    factor_yields (factor.Group' p e place) t l h = first_yields e t l h
    factor_yields (factor.Not' p f place) t l h =
        then_gives (Y t) (runs.row_factor f v l) negated
        (λ a m. negated_yields steady.sizes a t m)
    factor_yields (factor.Set' n members place) t l h =
        given_on DoAscend (Y t) (row_members members [] v l) _
        (members_ascend members [] l none_ascend)
        (λ zs m q. good_gives (Y t) (set_of zs) m
        (good_more steady.sizes t (set_of zs) (set_of_simple steady.sizes zs q)))
    factor_yields (factor.Variable' name n path place) t l h =
        variable_yields (head o name) (select.head o name) path t l (head_on o name) h
    factor_yields (factor.Call' name n arguments place) t l h =
        applied_yields (meaning o name) arguments t l h
        (λ p k i. values_given arguments p 0 [] i refl (none_given o steady p) k)

    first_yields : {n : _} (row : Row_of-Expr n) (t : Yielded) (l : ℕ) → row_first o row ≡ Some t
        → Gives (Y t) (runs.row_first row v l)
    first_yields end_of-Expr t l h = absurd (none-some t h)
    first_yields (more_of-Expr e rest) t l h = expr_yields e t l h

    values_given : {n : _} (row : Row_of-Expr n) (p i : ℕ) (xs : List Slot) (l : ℕ)
        → i ≡ length xs → AreGivenFor o steady p xs
        → row_taken o (Some (receiver.Parameters p)) i row ≡ true
        → Gives (AreGivenFor o steady p) (row_values row xs v l)
    values_given end_of-Expr p i xs l e h k = h
    values_given (more_of-Expr x rest) p i xs l e h k =
        let own = and_parts (is_given (declared_type (parameter o p i)) (expr_type o x))
        (row_taken o (Some (receiver.Parameters p)) (i + 1) rest) k in
        let t = given_some (declared_type (parameter o p i)) (expr_type o x) own.0 in
        given_on (Y t.0) (AreGivenFor o steady p) (value_of x v l) _ (expr_yields x t.0 l t.1)
        (λ a m q. values_given rest p (i + 1) (xs ++ slot.Value a ∷ []) m
        (one_longer xs (slot.Value a) i e)
        (one_given p i xs a t.0 e h q
        (subst (λ y. is_given (declared_type (parameter o p i)) y ≡ true) t.1 own.0)) own.1)

  -- the same of lists of arguments
  pub values_in_given : (es : List Expr) (p i : ℕ) (xs : List Slot) (l : ℕ)
      → i ≡ length xs → AreGivenFor o steady p xs
      → are_taken o (Some (receiver.Parameters p)) i es ≡ true
      → Gives (AreGivenFor o steady p) (values_in es xs v l)
  values_in_given [] p i xs l e h k = h
  values_in_given (x ∷ es) p i xs l e h k =
      let own = and_parts (is_given (declared_type (parameter o p i)) (expr_type o x))
      (are_taken o (Some (receiver.Parameters p)) (i + 1) es) k in
      let t = given_some (declared_type (parameter o p i)) (expr_type o x) own.0 in
      given_on (Y t.0) (AreGivenFor o steady p) (value_of x v l) _ (expr_yields x t.0 l t.1)
      (λ a m q. values_in_given es p (i + 1) (xs ++ slot.Value a ∷ []) m
      (one_longer xs (slot.Value a) i e)
      (one_given p i xs a t.0 e h q
      (subst (λ y. is_given (declared_type (parameter o p i)) y ≡ true) t.1 own.0)) own.1)

  -- what selectors in a list reach
  path_in_agrees : (xs : List Selector) (s : Selection) (r : Reached) (l : ℕ)
      → Goes v steady frames s r
      → Gives (Goes v steady frames (rules.selected o s xs)) (selected_in xs r v l)
  path_in_agrees [] s r l h = h
  path_in_agrees (x ∷ xs) s r l h =
      given_on (Goes v steady frames (rules.selection o s x))
      (Goes v steady frames (rules.selected o (rules.selection o s x) xs)) (runs.selected x r v l) _
      (selected_agrees v steady frames x s r l h)
      (λ q m g. path_in_agrees xs (rules.selection o s x) q m g)

  pub variable_agrees : (u : Used) (path : List Selector) (s : Selection) (l : ℕ)
      → OnHead o s (head o u)
      → Gives (Goes v steady frames (rules.selected o s path)) (variable_of u path v l)
  variable_agrees u path s l on =
      given_on (Goes v steady frames s) (Goes v steady frames (rules.selected o s path))
      (variable_begun v (head o u) l) _ (begun_agrees v steady frames (head o u) s l on)
      (λ r m g. path_in_agrees path s r m g)
