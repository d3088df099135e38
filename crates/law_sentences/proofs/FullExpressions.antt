-- An expression that breaks no rule yields something.
use mathlib.Core.Former.{none_left, one_more}
use Rattle.std.specs.Prelude.{if◌then◌else◌, nat_le, ◌&&◌}
use Rattle.std.proofs.Common.{◌≡◌, ◌↔◌, refl, sym, ap, subst, ◌∙◌, true≢false, ℕ, ◌+◌, ◌≤◌, Bool}
use Rattle.std.proofs.Common.{true, List, [], ◌∷◌, ◌++◌, Option, Some, None, arith}
use Rattle.std.proofs.lemmas.Bool.{and_parts}
use Rattle.est_syntax.specs.Faults.{broken}
use Rattle.est_syntax.specs.Kinds.{maxint}
use Rattle.est_syntax.specs.declared.expression.Expr.{Expr, Expr', Held-Expr-relation}
use Rattle.est_syntax.specs.declared.expression.Expr.{Expr-relation-None', Expr-relation-Some'}
use Rattle.est_syntax.specs.declared.expression.Factor.{Factor, Row_of-Expr, end_of-Expr}
use Rattle.est_syntax.specs.declared.expression.Factor.{more_of-Expr, Row_of-Factor, more_of-Factor}
use Rattle.est_syntax.specs.declared.expression.Factor.{Row_of-Member, end_of-Member}
use Rattle.est_syntax.specs.declared.expression.Factor.{more_of-Member, Row_of-Selector}
use Rattle.est_syntax.specs.declared.expression.Factor.{end_of-Selector, more_of-Selector}
use Rattle.est_syntax.specs.declared.expression.Factor.TheVariants as factor
use Rattle.est_syntax.specs.declared.expression.Member.{Member, Member', Held-Member-high}
use Rattle.est_syntax.specs.declared.expression.Member.{Member-high-None', Member-high-Some'}
use Rattle.est_syntax.specs.declared.expression.Operator.{Operator}
use Rattle.est_syntax.specs.declared.expression.Relation.{Relation, Relation'}
use Rattle.est_syntax.specs.declared.expression.Selector.{Selector}
use Rattle.est_syntax.specs.declared.expression.Selector.TheVariants as selector
use Rattle.est_syntax.specs.declared.expression.Simple.{Simple, Simple', Row_of-SumStep}
use Rattle.est_syntax.specs.declared.expression.Simple.{end_of-SumStep, more_of-SumStep}
use Rattle.est_syntax.specs.declared.expression.SumStep.{SumStep, SumStep'}
use Rattle.est_syntax.specs.declared.expression.Term.{Term, Term', Row_of-ProductStep}
use Rattle.est_syntax.specs.declared.expression.Term.{end_of-ProductStep, more_of-ProductStep}
use Rattle.est_syntax.specs.declared.kind.Kind.{Kind}
use Rattle.est_syntax.specs.declared.name.Used.{Used}
use Rattle.est_syntax.specs.declared.rule.Fault.{Fault}
use Rattle.est_syntax.specs.declared.rule.Rule.TheVariants as rule
use Rattle.rule_scope.specs.Outline.{Outline}
use Rattle.rule_scope.specs.Uses.{meaning}
use Rattle.est_values.specs.Types.{Yielded, Ordinal, Set}
use Rattle.est_values.specs.declared.types.Host.{Host}
use Rattle.est_values.specs.declared.types.Host.TheVariants as host
use Rattle.rule_expressions.specs.Calls.{taken_faults, callee, callee_faults, call_by}
use Rattle.rule_expressions.specs.ExpressionPlaces.{factor_place, term_place, sign_place}
use Rattle.rule_expressions.specs.ExpressionPlaces.{simple_place, expr_place}
use Rattle.rule_expressions.specs.Expressions.{expr_type, held_relation, with_simple, simple_type}
use Rattle.rule_expressions.specs.Expressions.{row_sum, with_term, term_type, row_product}
use Rattle.rule_expressions.specs.Expressions.{factor_type, row_first, row_factor, row_members}
use Rattle.rule_expressions.specs.Expressions.{with_members, held_high, row_taken, row_selected}
use Rattle.rule_expressions.specs.Expressions.{selection, row_components, operation_faults}
use Rattle.rule_expressions.specs.Expressions.{expr_faults, held_relation_faults}
use Rattle.rule_expressions.specs.Expressions.{with_simple_faults}
use Rattle.rule_expressions.specs.Expressions.{simple_faults, row_sum_faults, with_term_faults}
use Rattle.rule_expressions.specs.Expressions.{term_faults, row_product_faults, factor_faults}
use Rattle.rule_expressions.specs.Expressions.{box_faults, row_faults, row_not_faults}
use Rattle.rule_expressions.specs.Expressions.{row_member_faults, with_members_faults}
use Rattle.rule_expressions.specs.Expressions.{held_high_faults, row_taken_faults}
use Rattle.rule_expressions.specs.Expressions.{row_selected_faults, selection_faults}
use Rattle.rule_expressions.specs.Expressions.{row_component_faults, are_taken, one_faults}
use Rattle.rule_expressions.specs.Expressions.{are_taken_faults, selected, selected_faults}
use Rattle.rule_expressions.specs.Operators.{wants, kept, left_of, operated, right_faults, signed}
use Rattle.rule_expressions.specs.Operators.{sign_faults, with_member, member_disagrees}
use Rattle.rule_expressions.specs.Operators.{span_faults}
use Rattle.rule_expressions.specs.Receivers.{is_argument, takes_number}
use Rattle.rule_expressions.specs.Selections.{Selection, Broken, Value, Component, Modules, Module}
use Rattle.rule_expressions.specs.Selections.{SomeModule, head, head_faults}
use Rattle.rule_expressions.specs.Variables.{component, component_faults, end_faults}
use Rattle.rule_declares.specs.declared.required.Required.{Required}
use Rattle.rule_expressions.specs.declared.operators.Wanted.TheVariants as wanted
use Rattle.rule_expressions.specs.declared.receivers.Receiver.{Receiver}
use Rattle.rule_expressions.specs.declared.receivers.Receiver.TheVariants as receiver
use Rattle.rule_expressions.proofs.Clean.{expr_clean}
use Rattle.law_sentences.specs.Full.{IsThere}
use Rattle.law_sentences.specs.FullExpressions.{IsWhole, IsKnown}
use Rattle.law_sentences.proofs.FullCalls.{IsReady, subscripts_ready, callable_ready, callee_full}
use Rattle.law_sentences.proofs.FullCalls.{yields_full, argument_there, received_full}
use Rattle.law_sentences.proofs.FullNames.{IsComponent, IsPlace, place_known, head_known}
use Rattle.law_sentences.proofs.FullNames.{component_full, with_field_place, end_full}
use Rattle.law_sentences.proofs.FullOperators.{kept_full, operated_full, signed_full, ordinal_full}
use Rattle.law_sentences.proofs.FullOperators.{span_full, member_full}
use Rattle.law_sentences.proofs.NoFaults.{parted, unbroken}
use Rattle.law_sentences.proofs.NotBroken.{not_broken, three}

-- arguments or subscripts from a number on are taken, and as many as there are
abbrev pub AreTaken : Outline → Receiver → ℕ → Bool → Type 0
AreTaken o r i taken =
    (n : ℕ) × (i ≤ n) × (takes_number o r n ≡ true) × (taken ≡ true)

-- an operation, where its right operand is there if it breaks nothing by itself
operation_full : (op : Operator) (l r : Option Yielded) (own : List Fault) (first second : ℕ)
    → IsThere l → operation_faults op l first own r second ≡ [] → (own ≡ [] → IsThere r)
    → IsThere (operated op l r)
operation_full op l r own first second k h right =
    let s = three (wants (left_of op) l first) own (right_faults op l r second) h in
    operated_full op l r first second k (right s.1) s.0 s.2

-- the argument of a predeclared function is there
first_full : (o : Outline) (f : Required) {n : _} (row : Row_of-Expr n)
    → row_taken o (Some (receiver.Function f)) 0 row ≡ true → IsThere (row_first o row)
first_full o f end_of-Expr h = absurd (true≢false (sym h))
first_full o f (more_of-Expr e rest) h =
    let taken = row_taken o (Some (receiver.Function f)) 1 rest in
    argument_there f (expr_type o e) (and_parts (is_argument f (expr_type o e)) taken h).0

mutual
  pub expr_full : (o : Outline) (e : Expr) → IsWhole o → expr_faults o e ≡ []
      → IsThere (expr_type o e)
  expr_full o (Expr' left relation place) w h =
      let s = parted (simple_faults o left)
      (held_relation_faults o (simple_type o left) place relation) h in
      relation_full o (simple_type o left) place relation w (simple_full o left w s.0) s.1

  relation_full : (o : Outline) (t : Option Yielded) (place : ℕ) (r : Held-Expr-relation)
      → IsWhole o → IsThere t → held_relation_faults o t place r ≡ []
      → IsThere (held_relation o t r)
  relation_full o t place Expr-relation-None' w k h = k
  relation_full o t place (Expr-relation-Some' r) w k h = with_simple_full o t place r w k h

  with_simple_full : (o : Outline) (t : Option Yielded) (place : ℕ) (r : Relation) → IsWhole o
      → IsThere t → with_simple_faults o t place r ≡ [] → IsThere (with_simple o t r)
  with_simple_full o t place (Relation' op right) w k h =
      operation_full op t (simple_type o right) (simple_faults o right) place (simple_place right)
      k h (λ q. simple_full o right w q)

  simple_full : (o : Outline) (s : Simple) → IsWhole o → simple_faults o s ≡ []
      → IsThere (simple_type o s)
  simple_full o (Simple' sign first n rest) w h =
      let s = three (term_faults o first) (sign_faults sign (term_type o first) (term_place first))
      (row_sum_faults o (signed sign (term_type o first)) (sign_place sign (term_place first)) rest)
      h in
      sum_full o (signed sign (term_type o first)) (sign_place sign (term_place first)) rest w
      (signed_full sign (term_type o first) (term_place first) (term_full o first w s.0) s.1) s.2

  sum_full : (o : Outline) (t : Option Yielded) (place : ℕ) {n : _} (row : Row_of-SumStep n)
      → IsWhole o → IsThere t → row_sum_faults o t place row ≡ [] → IsThere (row_sum o t row)
  sum_full o t place end_of-SumStep w k h = k
  sum_full o t place (more_of-SumStep x rest) w k h =
      let s = parted (with_term_faults o t place x) (row_sum_faults o (with_term o t x) place rest)
      h
      in
      sum_full o (with_term o t x) place rest w (with_term_full o t place x w k s.0) s.1

  with_term_full : (o : Outline) (t : Option Yielded) (place : ℕ) (x : SumStep) → IsWhole o
      → IsThere t → with_term_faults o t place x ≡ [] → IsThere (with_term o t x)
  with_term_full o t place (SumStep' op right) w k h =
      operation_full op t (term_type o right) (term_faults o right) place (term_place right)
      k h (λ q. term_full o right w q)

  term_full : (o : Outline) (t : Term) → IsWhole o → term_faults o t ≡ []
      → IsThere (term_type o t)
  term_full o (Term' first n rest) w h =
      let s = parted (factor_faults o first)
      (row_product_faults o (factor_type o first) (factor_place first) rest) h in
      product_full o (factor_type o first) (factor_place first) rest w (factor_full o first w s.0)
      s.1

  product_full : (o : Outline) (t : Option Yielded) (place : ℕ) {n : _}
      (row : Row_of-ProductStep n) → IsWhole o → IsThere t → row_product_faults o t place row ≡ []
      → IsThere (row_product o t row)
  product_full o t place end_of-ProductStep w k h = k
  product_full o t place (more_of-ProductStep op right rest) w k h =
      let s = parted (operation_faults op t place (factor_faults o right) (factor_type o right)
      (factor_place right)) (row_product_faults o (operated op t (factor_type o right)) place rest)
      h in
      product_full o (operated op t (factor_type o right)) place rest w
      (operation_full op t (factor_type o right) (factor_faults o right) place
      (factor_place right) k s.0 (λ q. factor_full o right w q)) s.1

  factor_full : (o : Outline) (f : Factor) → IsWhole o → factor_faults o f ≡ []
      → IsThere (factor_type o f)
  factor_full o (factor.Number n place) w h = (
    Ordinal host.Integer,
    ap (λ (b : Bool). if b then Some (Ordinal host.Integer) else None)
        (unbroken (nat_le n maxint) place rule.NumberTooLarge h),
  )
  factor_full o (factor.Character c place) w h = (Ordinal host.Char, refl)
  factor_full o (factor.Group' p e place) w h = box_full o e w h
  factor_full o (factor.Not' p f place) w h = not_full o f w h
  factor_full o (factor.Set' n ms place) w h =
      let s = members_full o None ms w h in (Set s.0, s.1)
  factor_full o (factor.Variable' name n path place) w h =
      let s = three (head_faults o name) (row_selected_faults o (head o name) name.place path)
      (end_faults (row_selected o (head o name) path) name.place) h in
      end_full o (row_selected o (head o name) path) name.place
      (selected_full o (head o name) name.place path w (head_known o name w.full s.0) s.1) s.2
  factor_full o (factor.Call' name n es place) w h =
      let s = parted (callee_faults o name) (row_taken_faults o (callee o name) 0 name.place es) h
      in
      let c = callee_full o (meaning o name) name.place w.full s.0 in
      let t = row_full o c.0 0 name.place es w (callable_ready o c.0 w c.2)
      (subst (λ (r : Option Receiver). row_taken_faults o r 0 name.place es ≡ []) c.1 s.1) in
      let first = λ (f : Required) (is : c.0 ≡ receiver.Function f). first_full o f es
      (subst (λ (r : Receiver). row_taken o (Some r) 0 es ≡ true) is t.3) in
      subst (λ (r : Option Receiver). IsThere (call_by o r (row_taken o r 0 es) (row_first o es)))
      (sym c.1) (subst (λ (b : Bool). IsThere (call_by o (Some c.0) b (row_first o es))) (sym t.3)
      (yields_full o c.0 (row_first o es) c.2 first))

  box_full : (o : Outline) (row : Row_of-Expr (one_more none_left)) → IsWhole o
      → box_faults o row ≡ [] → IsThere (row_first o row)
  box_full o (more_of-Expr e rest) w h = expr_full o e w h

  not_full : (o : Outline) (row : Row_of-Factor (one_more none_left)) → IsWhole o
      → row_not_faults o row ≡ [] → IsThere (kept wanted.Boolean (row_factor o row))
  not_full o (more_of-Factor f rest) w h =
      let s = parted (factor_faults o f) (wants wanted.Boolean (factor_type o f) (factor_place f)) h
      in
      kept_full wanted.Boolean (factor_type o f) (factor_place f) (factor_full o f w s.0) s.1

  members_full : (o : Outline) (g : Option Host) {n : _} (row : Row_of-Member n) → IsWhole o
      → row_member_faults o (Some (Set g)) row ≡ []
      → (k : Option Host) × (row_members o (Some (Set g)) row ≡ Some (Set k))
  members_full o g end_of-Member w h = (g, refl)
  members_full o g (more_of-Member m rest) w h =
      let s = parted (with_members_faults o (Some (Set g)) m)
      (row_member_faults o (with_members o (Some (Set g)) m) rest) h in
      let f = with_members_full o g m w s.0 in
      let r = members_full o (Some f.0) rest w
      (subst (λ (t : Option Yielded). row_member_faults o t rest ≡ []) f.1 s.1) in
      (r.0, ap (λ (t : Option Yielded). row_members o t rest) f.1 ∙ r.1)

  with_members_full : (o : Outline) (g : Option Host) (m : Member) → IsWhole o
      → with_members_faults o (Some (Set g)) m ≡ []
      → (k : Host) × (with_members o (Some (Set g)) m ≡ Some (Set (Some k)))
  with_members_full o g (Member' low high) w h =
      let s = three (expr_faults o low ++ wants wanted.Ordinal (expr_type o low) (expr_place low))
      (held_high_faults o (expr_type o low) high)
      (member_disagrees (Some (Set g)) (expr_type o low) (expr_place low)) h in
      let a = parted (expr_faults o low) (wants wanted.Ordinal (expr_type o low) (expr_place low))
      s.0
      in
      let t = ordinal_full (expr_type o low) (expr_place low) (expr_full o low w a.0) a.1 in
      let k = high_full o t.0 high w
      (subst (λ (x : Option Yielded). held_high_faults o x high ≡ []) t.1 s.1) in
      let d = member_full g t.0 (expr_place low)
      (subst (λ (x : Option Yielded). member_disagrees (Some (Set g)) x (expr_place low) ≡ [])
      t.1 s.2) in (
        t.0,
        ap (λ (x : Option Yielded). with_member (Some (Set g)) (held_high o x high)) t.1
            ∙ ap (with_member (Some (Set g))) k ∙ d,
      )

  high_full : (o : Outline) (g : Host) (high : Held-Member-high) → IsWhole o
      → held_high_faults o (Some (Ordinal g)) high ≡ []
      → held_high o (Some (Ordinal g)) high ≡ Some (Ordinal g)
  high_full o g Member-high-None' w h = refl
  high_full o g (Member-high-Some' e) w h =
      let s = parted (expr_faults o e) (span_faults (Some (Ordinal g)) (expr_type o e)
      (expr_place e))
      h in
      span_full g (expr_type o e) (expr_place e) (expr_full o e w s.0) s.1

  row_full : (o : Outline) (r : Receiver) (i name : ℕ) {n : _} (row : Row_of-Expr n) → IsWhole o
      → IsReady o r → row_taken_faults o (Some r) i name row ≡ []
      → AreTaken o r i (row_taken o (Some r) i row)
  row_full o r i name end_of-Expr w ready h =
      let b = unbroken (takes_number o r i) name rule.WrongNumber h in (i, omega arith, b, b)
  row_full o r i name (more_of-Expr e rest) w ready h =
      let s = parted (expr_faults o e ++ taken_faults o (Some r) i (expr_type o e) (expr_place e))
      (row_taken_faults o (Some r) (i + 1) name rest) h in
      let a = parted (expr_faults o e) (taken_faults o (Some r) i (expr_type o e) (expr_place e))
      s.0
      in
      let t = row_full o r (i + 1) name rest w ready s.1 in
      let l : i + 1 ≤ t.0 = t.1 in
      let g = received_full o r t.0 i (expr_type o e) (expr_place e) ready t.2 (omega arith)
      (expr_full o e w a.0) a.1 in
      (t.0, omega arith, t.2, λ j. g j && t.3 j)

  selected_full : (o : Outline) (s : Selection) (name : ℕ) {n : _} (row : Row_of-Selector n)
      → IsWhole o → IsKnown o s → row_selected_faults o s name row ≡ []
      → IsKnown o (row_selected o s row)
  selected_full o s name end_of-Selector w k h = k
  selected_full o s name (more_of-Selector x rest) w k h =
      let q = parted (selection_faults o s name x) (row_selected_faults o (selection o s x) name
      rest)
      h in
      selected_full o (selection o s x) name rest w
      (place_known o (selection o s x) (selection_full o s name x w k q.0)) q.1

  selection_full : (o : Outline) (s : Selection) (name : ℕ) (x : Selector) → IsWhole o
      → IsKnown o s → selection_faults o s name x ≡ [] → IsPlace o (selection o s x)
  selection_full o s name (selector.Field u) w k h = with_field_place o s u name w.full k h
  selection_full o Broken name (selector.Index' n es place) w k h = absurd k
  selection_full o SomeModule name (selector.Index' n es place) w k h = absurd k
  selection_full o (Value t) name (selector.Index' n es place) w k h =
      not_broken name rule.WrongKind (parted (row_faults o es) (broken name rule.WrongKind) h).1
  selection_full o (Module p) name (selector.Index' n es place) w k h =
      not_broken name rule.WrongNumber (parted (row_faults o es) (broken name rule.WrongNumber) h).1
  selection_full o (Component j) name (selector.Index' n es place) w k h =
      let c = components_full o j name es w h in
      subst (λ (s : Selection). IsPlace o s) (sym c.1) tt
  selection_full o (Modules p) name (selector.Index' n es place) w k h =
      let t = row_full o (receiver.Subscripts p) 0 name es w (subscripts_ready o p k.0) h in
      subst (λ (b : Bool). IsPlace o (if b then Module p else SomeModule)) (sym t.3) k.1

  components_full : (o : Outline) (k : Kind) (name : ℕ) {n : _} (row : Row_of-Expr n) → IsWhole o
      → row_component_faults o (Component k) name row ≡ []
      → IsComponent (row_components o (Component k) row)
  components_full o k name end_of-Expr w h = (k, refl)
  components_full o k name (more_of-Expr e rest) w h =
      let s = parted
      (expr_faults o e ++ component_faults (Component k) (expr_type o e) (expr_place e) name)
      (row_component_faults o (component (Component k) (expr_type o e)) name rest) h in
      let a = parted (expr_faults o e)
      (component_faults (Component k) (expr_type o e) (expr_place e) name) s.0 in
      let c = component_full k (expr_type o e) (expr_place e) name (expr_full o e w a.0) a.1 in
      let r = components_full o c.0 name rest w
      (subst (λ (x : Selection). row_component_faults o x name rest ≡ []) c.1 s.1) in
      (r.0, ap (λ (x : Selection). row_components o x rest) c.1 ∙ r.1)

-- the same over lists
pub path_full : (o : Outline) (s : Selection) (name : ℕ) (path : List Selector) → IsWhole o
    → IsKnown o s → selected_faults o s name path ≡ [] → IsKnown o (selected o s path)
path_full o s name [] w k h = k
path_full o s name (x ∷ xs) w k h =
    let q = parted (selection_faults o s name x) (selected_faults o (selection o s x) name xs) h in
    path_full o (selection o s x) name xs w
    (place_known o (selection o s x) (selection_full o s name x w k q.0)) q.1

-- selectors of a variable or a module stand for no value
pub path_place : (o : Outline) (s : Selection) (name : ℕ) (path : List Selector) → IsWhole o
    → IsPlace o s → selected_faults o s name path ≡ [] → IsPlace o (selected o s path)
path_place o s name [] w k h = k
path_place o s name (x ∷ xs) w k h =
    let q = parted (selection_faults o s name x) (selected_faults o (selection o s x) name xs) h in
    path_place o (selection o s x) name xs w
    (selection_full o s name x w (place_known o s k) q.0) q.1

pub variable_full : (o : Outline) (u : Used) (path : List Selector) → IsWhole o
    → head_faults o u ≡ [] → selected_faults o (head o u) u.place path ≡ []
    → IsKnown o (selected o (head o u) path)
variable_full o u path w h k =
    path_full o (head o u) u.place path w (head_known o u w.full h) k

pub taken_full : (o : Outline) (r : Receiver) (i name : ℕ) (es : List Expr) → IsWhole o
    → IsReady o r → are_taken_faults o (Some r) i name es ≡ []
    → AreTaken o r i (are_taken o (Some r) i es)
taken_full o r i name [] w ready h =
    let b = unbroken (takes_number o r i) name rule.WrongNumber h in (i, omega arith, b, b)
taken_full o r i name (e ∷ es) w ready h =
    let s = parted (one_faults o (Some r) i e) (are_taken_faults o (Some r) (i + 1) name es) h in
    let a = parted (expr_faults o e) (taken_faults o (Some r) i (expr_type o e) (expr_place e)) s.0
    in
    let t = taken_full o r (i + 1) name es w ready s.1 in
    let l : i + 1 ≤ t.0 = t.1 in
    let g = received_full o r t.0 i (expr_type o e) (expr_place e) ready t.2 (omega arith)
    (expr_full o e w a.0) a.1 in
    (t.0, omega arith, t.2, λ j. g j && t.3 j)

-- and what yields something breaks nothing
pub yields_or_breaks : (o : Outline) (e : Expr) → IsWhole o
    → expr_faults o e ≡ [] ↔ IsThere (expr_type o e)
yields_or_breaks o e w = (λ h. expr_full o e w h, λ k. expr_clean o e k.0 k.1)
