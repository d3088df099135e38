-- An expression that yields something breaks no rule.
use Rattle.std.specs.Prelude.{if◌then◌else◌, nat_le, ◌&&◌}
use Rattle.std.proofs.lemmas.Option.{none-some}
use Rattle.std.proofs.Common.{◌≡◌, refl, sym, ap, ◌∙◌, true≢false, ℕ, ◌+◌, Bool}
use Rattle.std.proofs.Common.{true, false, List, [], ◌++◌, Option, Some, None}
use Rattle.est_syntax.specs.Names.{spelled}
use Rattle.est_syntax.specs.Faults.{broken}
use Rattle.est_syntax.specs.Kinds.{maxint}
use Rattle.est_syntax.specs.declared.expression.Expr.{Expr, Expr', Held-Expr-relation}
use Rattle.est_syntax.specs.declared.expression.Expr.{Expr-relation-None', Expr-relation-Some'}
use Rattle.est_syntax.specs.declared.expression.Factor.{Factor, Row_of-Expr, end_of-Expr}
use Rattle.est_syntax.specs.declared.expression.Factor.{more_of-Expr, Row_of-Factor}
use Rattle.est_syntax.specs.declared.expression.Factor.{end_of-Factor, more_of-Factor}
use Rattle.est_syntax.specs.declared.expression.Factor.{Row_of-Member, end_of-Member}
use Rattle.est_syntax.specs.declared.expression.Factor.{more_of-Member, Row_of-Selector}
use Rattle.est_syntax.specs.declared.expression.Factor.{end_of-Selector, more_of-Selector}
use Rattle.est_syntax.specs.declared.expression.Factor.TheVariants as factor
use Rattle.est_syntax.specs.declared.expression.Member.{Member, Member', Held-Member-high}
use Rattle.est_syntax.specs.declared.expression.Member.{Member-high-None', Member-high-Some'}
use Rattle.est_syntax.specs.declared.constant.Sign.{Sign}
use Rattle.est_syntax.specs.declared.expression.Operator.{Operator}
use Rattle.est_syntax.specs.declared.expression.Relation.{Relation, Relation'}
use Rattle.est_syntax.specs.declared.expression.Selector.{Selector}
use Rattle.est_syntax.specs.declared.expression.Selector.TheVariants as selector
use Rattle.est_syntax.specs.declared.expression.Simple.{Simple, Simple', Row_of-SumStep}
use Rattle.est_syntax.specs.declared.expression.Simple.{end_of-SumStep, more_of-SumStep}
use Rattle.est_syntax.specs.declared.expression.SumStep.{SumStep, SumStep'}
use Rattle.est_syntax.specs.declared.expression.Term.{Term, Term', Row_of-ProductStep}
use Rattle.est_syntax.specs.declared.expression.Term.{end_of-ProductStep, more_of-ProductStep}
use Rattle.est_syntax.specs.declared.kind.Kind.{Kind, out-Kind}
use Rattle.est_syntax.specs.declared.kind.Kind.TheOpen as seen
use Rattle.est_syntax.specs.declared.kind.FieldKind.{FieldKind}
use Rattle.est_syntax.specs.declared.name.Used.{Used}
use Rattle.est_syntax.specs.declared.rule.Fault.{Fault}
use Rattle.est_syntax.specs.declared.rule.Rule.{Rule}
use Rattle.est_syntax.specs.declared.rule.Rule.TheVariants as rule
use Rattle.rule_scope.specs.declared.declaration.Entry.{Entry}
use Rattle.rule_scope.specs.declared.declaration.Meant.{Meant}
use Rattle.rule_scope.specs.declared.declaration.Meant.TheVariants as meant
use Rattle.rule_scope.specs.declared.declaration.Sort.{Sort}
use Rattle.rule_scope.specs.declared.declaration.Sort.TheVariants as sort
use Rattle.rule_scope.specs.declared.predeclared.PredeclaredName.{PredeclaredName}
use Rattle.rule_scope.specs.Outline.{Outline, entry_at}
use Rattle.rule_scope.specs.Uses.{meaning}
use Rattle.rule_declares.specs.rule_kinds.declared.value.Valued.{Valued}
use Rattle.rule_declares.specs.rule_kinds.Constants.{predeclared_constant}
use Rattle.est_values.specs.Types.{Yielded, Ordinal, Set, Group, type_of}
use Rattle.est_values.specs.Types.{is_assignable, are_hosts_one}
use Rattle.rule_expressions.specs.declared.operators.Wanted.{Wanted}
use Rattle.rule_expressions.specs.declared.operators.Wanted.TheVariants as wanted
use Rattle.rule_declares.specs.declared.required.Required.{Required}
use Rattle.rule_expressions.specs.declared.receivers.Receiver.{Receiver}
use Rattle.rule_expressions.specs.declared.receivers.Receiver.TheVariants as receiver
use Rattle.rule_expressions.specs.Operators.{is_ordinal, is_taken, wants, kept, gives, is_given}
use Rattle.rule_expressions.specs.Operators.{left_of, do_agree, do_match, result_of, matched}
use Rattle.rule_expressions.specs.Operators.{operated, disagrees, right_faults, signed, sign_faults}
use Rattle.rule_expressions.specs.Operators.{with_member, member_disagrees, spanned, span_faults}
use Rattle.rule_expressions.specs.Selections.{Selection, Broken, Value, Component, Modules, Module}
use Rattle.rule_expressions.specs.Selections.{SomeModule, declared_type, parameter, takes_so_many}
use Rattle.rule_expressions.specs.Selections.{argument_of, head_by, head_in, head_meant, head}
use Rattle.rule_expressions.specs.Selections.{predeclared_head, predeclared_faults, sort_faults}
use Rattle.rule_expressions.specs.Selections.{entry_faults, meant_faults, head_faults}
use Rattle.rule_expressions.specs.Receivers.{subscript_in, is_argument, takes_number}
use Rattle.rule_declares.specs.LookUps.{dims_in}
use Rattle.rule_expressions.specs.ExpressionPlaces.{factor_place, term_place, sign_place}
use Rattle.rule_expressions.specs.ExpressionPlaces.{simple_place, expr_place}
use Rattle.rule_expressions.specs.Variables.{indexed, component, subscript_faults}
use Rattle.rule_expressions.specs.Variables.{component_faults, field_in, field_found}
use Rattle.rule_expressions.specs.Variables.{field_of, found_faults, field_faults, is_export}
use Rattle.rule_expressions.specs.Variables.{of_header, has_exports, export_by}
use Rattle.rule_declares.specs.LookUps.{header_in}
use Rattle.rule_expressions.specs.Variables.{export_of, no_export, export_faults, with_field}
use Rattle.rule_expressions.specs.Variables.{with_field_faults, selected_type, end_faults}
use Rattle.rule_expressions.specs.Calls.{is_received, taken_faults, is_number}
use Rattle.rule_expressions.specs.Calls.{count_faults, callee_meant, callee, no_callee}
use Rattle.rule_expressions.specs.Calls.{callee_faults_by, callee_faults, call_by}
use Rattle.rule_expressions.specs.Expressions.{expr_type, held_relation, with_simple, simple_type}
use Rattle.rule_expressions.specs.Expressions.{row_sum, with_term, term_type, row_product}
use Rattle.rule_expressions.specs.Expressions.{factor_type, row_first, row_factor, row_members}
use Rattle.rule_expressions.specs.Expressions.{with_members, held_high, row_taken, row_selected}
use Rattle.rule_expressions.specs.Expressions.{selection, row_components, operation_faults}
use Rattle.rule_expressions.specs.Expressions.{expr_faults, held_relation_faults}
use Rattle.rule_expressions.specs.Expressions.{with_simple_faults}
use Rattle.rule_expressions.specs.Expressions.{simple_faults, row_sum_faults, with_term_faults}
use Rattle.rule_expressions.specs.Expressions.{term_faults, row_product_faults, factor_faults}
use Rattle.rule_expressions.specs.Expressions.{box_faults, row_not_faults, row_member_faults}
use Rattle.rule_expressions.specs.Expressions.{with_members_faults, held_high_faults}
use Rattle.rule_expressions.specs.Expressions.{row_taken_faults, row_selected_faults}
use Rattle.rule_expressions.specs.Expressions.{selection_faults, row_component_faults}

abbrev pub Has : {X : Type 0} → Option X → Type 0
Has {X} k = (x : X) × (k ≡ Some x)

joined : (xs ys : List Fault) → xs ≡ [] → ys ≡ [] → xs ++ ys ≡ []
joined xs ys h k = λ i. h i ++ k i

three : (xs ys zs : List Fault) → xs ≡ [] → ys ≡ [] → zs ≡ [] → xs ++ ys ++ zs ≡ []
three xs ys zs h k l = joined (xs ++ ys) zs (joined xs ys h k) l

-- a condition that holds where something is known
met : {X : Type 0} (b : Bool) (k : Option X) (x : X) (place : ℕ) (r : Rule)
    → (if b then k else None) ≡ Some x → (if b then [] else broken place r) ≡ []
met true k x place r h = refl
met false k x place r h = absurd (none-some x h)

held : (b : Bool) (place : ℕ) (r : Rule) → b ≡ true → (if b then [] else broken place r) ≡ []
held true place r h = refl
held false place r h = absurd (true≢false (sym h))

both : (a b : Bool) → a && b ≡ true → (a ≡ true) × (b ≡ true)
both true b h = (refl, h)
both false b h = absurd (true≢false (sym h))

-- operators
taken_clean : (w : Wanted) (t : Option Yielded) (x : Yielded) (place : ℕ) → kept w t ≡ Some x
    → Has t × (wants w t place ≡ [])
taken_clean w None x place h = absurd (none-some x h)
taken_clean w (Some y) x place h = ((y, refl), met (is_taken w y) (Some y) x place rule.WrongKind h)

operated_clean : (op : Operator) (l r : Option Yielded) (x : Yielded) (first second : ℕ)
    → operated op l r ≡ Some x
    → Has l × Has r × (wants (left_of op) l first ≡ []) × (right_faults op l r second ≡ [])
operated_clean op None r x first second h = absurd (none-some x h)
operated_clean op (Some l) None x first second h = absurd (none-some x h)
operated_clean op (Some l) (Some r) x first second h =
    let s = by (is_taken (left_of op) l) h in ((l, refl), (r, refl), s.0, s.1)
  where
    by : (b : Bool) → (if b then matched op l r else None) ≡ Some x
        → ((if b then [] else broken first rule.WrongKind) ≡ [])
        × ((if b then disagrees op l r second else []) ≡ [])
    by true h = (refl, met (do_match op l r) (Some (result_of op l r)) x second rule.WrongKind h)
    by false h = absurd (none-some x h)

sign_clean : (sign : Option Sign) (t : Option Yielded) (x : Yielded) (place : ℕ)
    → signed sign t ≡ Some x → Has t × (sign_faults sign t place ≡ [])
sign_clean (Some sign) t x place h = taken_clean wanted.Integer t x place h
sign_clean None t x place h = ((x, h), refl)

-- members of sets
kept_same : (w : Wanted) (t : Option Yielded) (x : Yielded) → kept w t ≡ Some x → t ≡ Some x
kept_same w None x h = absurd (none-some x h)
kept_same w (Some y) x h = by (is_taken w y) h
  where
    by : (b : Bool) → (if b then Some y else None) ≡ Some x → Some y ≡ Some x
    by true h = h
    by false h = absurd (none-some x h)

span_clean : (l r : Option Yielded) (x : Yielded) (first second : ℕ) → spanned l r ≡ Some x
    → (l ≡ Some x) × Has r × (wants wanted.Ordinal l first ≡ []) × (span_faults l r second ≡ [])
span_clean None r x first second h = absurd (none-some x h)
span_clean (Some l) None x first second h = absurd (none-some x h)
span_clean (Some l) (Some r) x first second h =
    let s = by (is_ordinal l) (do_agree l r) h in (s.0, (r, refl), s.1, s.2)
  where
    by : (b c : Bool) → (if b then (if c then Some l else None) else None) ≡ Some x
        → (Some l ≡ Some x) × ((if b then [] else broken first rule.WrongKind) ≡ [])
        × ((if b then (if c then [] else broken second rule.WrongKind) else []) ≡ [])
    by true true h = (h, refl, refl)
    by true false h = absurd (none-some x h)
    by false c h = absurd (none-some x h)

member_clean : (t m : Option Yielded) (x : Yielded) (place : ℕ) → with_member t m ≡ Some x
    → Has t × Has m × (member_disagrees t m place ≡ [])
member_clean None m x place h = absurd (none-some x h)
member_clean (Some (Ordinal g)) m x place h = absurd (none-some x h)
member_clean (Some (Group k)) m x place h = absurd (none-some x h)
member_clean (Some (Set g)) None x place h = absurd (none-some x h)
member_clean (Some (Set g)) (Some (Set i)) x place h = absurd (none-some x h)
member_clean (Some (Set g)) (Some (Group k)) x place h = absurd (none-some x h)
member_clean (Some (Set g)) (Some (Ordinal i)) x place h = (
  (Set g, refl),
  (Ordinal i, refl),
  met (are_hosts_one (Some i) g) (Some (Set (Some i))) x place
      rule.WrongKind h,
)

-- what is taken
given_clean : (target t : Option Yielded) (place : ℕ) → is_given target t ≡ true
    → Has t × (gives target t place ≡ [])
given_clean None t place h = absurd (true≢false (sym h))
given_clean (Some w) None place h = absurd (true≢false (sym h))
given_clean (Some w) (Some t) place h = ((t, refl), held (is_assignable w t) place rule.WrongKind h)

argument_clean : (f : Required) (t : Option Yielded) (place : ℕ) → is_argument f t ≡ true
    → Has t × (wants (argument_of f) t place ≡ [])
argument_clean f None place h = absurd (true≢false (sym h))
argument_clean f (Some t) place h =
    ((t, refl), held (is_taken (argument_of f) t) place rule.WrongKind h)

received_clean : (o : Outline) (r : Option Receiver) (i : ℕ) (t : Option Yielded) (place : ℕ)
    → is_received o r i t ≡ true → Has t × (taken_faults o r i t place ≡ [])
received_clean o None i t place h = absurd (true≢false (sym h))
received_clean o (Some (receiver.Subscripts p)) i t place h =
    given_clean (subscript_in (dims_in (entry_at o p)) i) t place h
received_clean o (Some (receiver.Parameters p)) i t place h =
    given_clean (declared_type (parameter o p i)) t place h
received_clean o (Some (receiver.Function f)) i t place h = argument_clean f t place h

count_clean : (o : Outline) (r : Option Receiver) (n name : ℕ) → is_number o r n ≡ true
    → count_faults o r n name ≡ []
count_clean o None n name h = absurd (true≢false (sym h))
count_clean o (Some r) n name h = held (takes_number o r n) name rule.WrongNumber h

-- variables
abbrev is_whole : Selection → Bool
is_whole Broken = false
is_whole SomeModule = false
is_whole _ = true

indexed_clean : (k : seen.Kind-F Kind FieldKind) (t : Yielded) (place name : ℕ)
    → is_whole (indexed k t) ≡ true → subscript_faults k (Some t) place name ≡ []
indexed_clean (seen.ArrayOf index of) t place name h = by (is_assignable (type_of index) t) h
  where
    by : (b : Bool) → is_whole (if b then Component of else Broken) ≡ true
        → (if b then [] else broken place rule.WrongKind) ≡ []
    by true h = refl
    by false h = absurd (true≢false (sym h))
indexed_clean seen.Integer t place name h = absurd (true≢false (sym h))
indexed_clean seen.Boolean t place name h = absurd (true≢false (sym h))
indexed_clean seen.Char t place name h = absurd (true≢false (sym h))
indexed_clean (seen.Enumeration p names) t place name h = absurd (true≢false (sym h))
indexed_clean (seen.Part from low high) t place name h = absurd (true≢false (sym h))
indexed_clean (seen.SetOf base) t place name h = absurd (true≢false (sym h))
indexed_clean (seen.Fields fs) t place name h = absurd (true≢false (sym h))

component_clean : (s : Selection) (t : Option Yielded) (place name : ℕ)
    → is_whole (component s t) ≡ true → (is_whole s ≡ true) × Has t
    × (component_faults s t place name ≡ [])
component_clean Broken t place name h = absurd (true≢false (sym h))
component_clean SomeModule t place name h = absurd (true≢false (sym h))
component_clean (Value v) t place name h = absurd (true≢false (sym h))
component_clean (Modules p) t place name h = absurd (true≢false (sym h))
component_clean (Module p) t place name h = absurd (true≢false (sym h))
component_clean (Component k) None place name h = absurd (true≢false (sym h))
component_clean (Component k) (Some t) place name h =
    (refl, (t, refl), indexed_clean (out-Kind k) t place name h)

found_clean : (k : Option Kind) (place : ℕ) → is_whole (field_found k) ≡ true
    → found_faults k place ≡ []
found_clean None place h = absurd (true≢false (sym h))
found_clean (Some k) place h = refl

field_clean : (k : seen.Kind-F Kind FieldKind) (u : Used) (name : ℕ)
    → is_whole (field_of k (spelled u)) ≡ true → field_faults k u name ≡ []
field_clean (seen.Fields fs) u name h = found_clean (field_in fs (spelled u)) u.place h
field_clean seen.Integer u name h = absurd (true≢false (sym h))
field_clean seen.Boolean u name h = absurd (true≢false (sym h))
field_clean seen.Char u name h = absurd (true≢false (sym h))
field_clean (seen.Enumeration p names) u name h = absurd (true≢false (sym h))
field_clean (seen.Part from low high) u name h = absurd (true≢false (sym h))
field_clean (seen.SetOf base) u name h = absurd (true≢false (sym h))
field_clean (seen.ArrayOf index of) u name h = absurd (true≢false (sym h))

chosen_whole : (b : Bool) (s : Selection) → is_whole (if b then s else Broken) ≡ true → b ≡ true
chosen_whole true s h = refl
chosen_whole false s h = absurd (true≢false (sym h))

module_whole : (b : Bool) (p : ℕ) → is_whole (if b then Module p else SomeModule) ≡ true → b ≡ true
module_whole true p h = refl
module_whole false p h = absurd (true≢false (sym h))

exported_clean : (e : Option Entry) (place : ℕ) → is_whole (export_by e) ≡ true
    → no_export e place ≡ []
exported_clean None place h = absurd (true≢false (sym h))
exported_clean (Some e) place h = held (is_export e) place rule.WrongSort
    (chosen_whole (is_export e) _ h)

export_clean : (o : Outline) (header : Option ℕ) (u : Used) (name : ℕ)
    → is_whole (export_of o header u) ≡ true → export_faults o header u name ≡ []
export_clean o None u name h = absurd (true≢false (sym h))
export_clean o (Some p) u name h = by (has_exports (entry_at o p)) h
  where
    by : (b : Bool) → is_whole (if b then export_by (of_header o p u) else Broken) ≡ true
        → (if b then no_export (of_header o p u) u.place else broken name rule.WrongKind) ≡ []
    by true h = exported_clean (of_header o p u) u.place h
    by false h = absurd (true≢false (sym h))

with_field_clean : (o : Outline) (s : Selection) (u : Used) (name : ℕ)
    → is_whole (with_field o s u) ≡ true → (is_whole s ≡ true) × (with_field_faults o s u name ≡ [])
with_field_clean o Broken u name h = absurd (true≢false (sym h))
with_field_clean o SomeModule u name h = absurd (true≢false (sym h))
with_field_clean o (Value t) u name h = absurd (true≢false (sym h))
with_field_clean o (Modules p) u name h = absurd (true≢false (sym h))
with_field_clean o (Component k) u name h = (refl, field_clean (out-Kind k) u name h)
with_field_clean o (Module p) u name h = (refl, export_clean o (header_in (entry_at o p)) u name h)

end_clean : (s : Selection) (x : Yielded) (name : ℕ) → selected_type s ≡ Some x
    → (is_whole s ≡ true) × (end_faults s name ≡ [])
end_clean Broken x name h = absurd (none-some x h)
end_clean SomeModule x name h = absurd (none-some x h)
end_clean (Value t) x name h = (refl, refl)
end_clean (Component k) x name h = (refl, refl)
end_clean (Modules p) x name h = absurd (none-some x h)
end_clean (Module p) x name h = absurd (none-some x h)

-- names
predeclared_clean : (v : Option Valued) (n : PredeclaredName) (place : ℕ)
    → is_whole (predeclared_head v) ≡ true → predeclared_faults v n place ≡ []
predeclared_clean None n place h = absurd (true≢false (sym h))
predeclared_clean (Some v) n place h = refl

sort_clean : (o : Outline) (p : ℕ) (e : Entry) (s : Sort) (place : ℕ)
    → is_whole (head_by o p e s) ≡ true → sort_faults o p s place ≡ []
sort_clean o p e sort.Constant place h = refl
sort_clean o p e sort.Variable place h = refl
sort_clean o p e sort.ModuleVariable place h = refl
sort_clean o p e sort.Function place h = held (takes_so_many o p 0) place rule.WrongNumber
    (chosen_whole (takes_so_many o p 0) _ h)
sort_clean o p e sort.TypeName place h = absurd (true≢false (sym h))
sort_clean o p e sort.Channel place h = absurd (true≢false (sym h))
sort_clean o p e sort.Header place h = absurd (true≢false (sym h))
sort_clean o p e sort.Body place h = absurd (true≢false (sym h))
sort_clean o p e sort.Point place h = absurd (true≢false (sym h))
sort_clean o p e sort.State place h = absurd (true≢false (sym h))
sort_clean o p e sort.StateSet place h = absurd (true≢false (sym h))
sort_clean o p e sort.Procedure place h = absurd (true≢false (sym h))

entry_clean : (o : Outline) (p : ℕ) (e : Option Entry) (place : ℕ) → is_whole (head_in o p e) ≡ true
    → entry_faults o p e place ≡ []
entry_clean o p None place h = absurd (true≢false (sym h))
entry_clean o p (Some e) place h = sort_clean o p e e.declared.sort place h

meant_clean : (o : Outline) (m : Meant) (place : ℕ) → is_whole (head_meant o m) ≡ true
    → meant_faults o m place ≡ []
meant_clean o meant.Nothing place h = absurd (true≢false (sym h))
meant_clean o (meant.Predeclared n) place h = predeclared_clean (predeclared_constant n) n place h
meant_clean o (meant.Unseen p) place h = absurd (true≢false (sym h))
meant_clean o (meant.Seen p) place h = entry_clean o p (entry_at o p) place h

-- calls
call_clean : (o : Outline) (r : Option Receiver) (taken : Bool) (t : Option Yielded) (x : Yielded)
    → call_by o r taken t ≡ Some x → Has r × (taken ≡ true)
call_clean o r false t x h = absurd (none-some x h)
call_clean o None true t x h = absurd (none-some x h)
call_clean o (Some r) true t x h = ((r, refl), refl)

callee_clean : (o : Outline) (m : Meant) (r : Receiver) (place : ℕ)
    → callee_meant o m ≡ Some r → callee_faults_by o m place ≡ []
callee_clean o meant.Nothing r place h = absurd (none-some r h)
callee_clean o (meant.Predeclared n) r place h = ap (λ c. no_callee c place) h
callee_clean o (meant.Unseen p) r place h = absurd (none-some r h)
callee_clean o (meant.Seen p) r place h = ap (λ c. no_callee c place) h

-- an operation, where its right operand breaks nothing by itself
operation_clean : (op : Operator) (l r : Option Yielded) (own : List Fault) (first second : ℕ)
    (x : Yielded) → operated op l r ≡ Some x
    → (Has r → own ≡ []) → Has l × (operation_faults op l first own r second ≡ [])
operation_clean op l r own first second x h k =
    let s = operated_clean op l r x first second h in
    (s.0, three (wants (left_of op) l first) own (right_faults op l r second) s.2 (k s.1) s.3)

mutual
  pub expr_clean : (o : Outline) (e : Expr) (x : Yielded) → expr_type o e ≡ Some x
      → expr_faults o e ≡ []
  expr_clean o (Expr' left relation place) x h =
      let s = relation_clean o (simple_type o left) place relation x h in
      joined (simple_faults o left) (held_relation_faults o (simple_type o left) place relation)
      (simple_clean o left s.0.0 s.0.1) s.1

  relation_clean : (o : Outline) (t : Option Yielded) (place : ℕ) (r : Held-Expr-relation)
      (x : Yielded) → held_relation o t r ≡ Some x
      → Has t × (held_relation_faults o t place r ≡ [])
  relation_clean o t place Expr-relation-None' x h = ((x, h), refl)
  relation_clean o t place (Expr-relation-Some' r) x h = with_simple_clean o t place r x h

  with_simple_clean : (o : Outline) (t : Option Yielded) (place : ℕ) (r : Relation) (x : Yielded)
      → with_simple o t r ≡ Some x
      → Has t × (with_simple_faults o t place r ≡ [])
  with_simple_clean o t place (Relation' op right) x h =
      operation_clean op t (simple_type o right) (simple_faults o right) place (simple_place right)
      x h (λ r. simple_clean o right r.0 r.1)

  simple_clean : (o : Outline) (s : Simple) (x : Yielded) → simple_type o s ≡ Some x
      → simple_faults o s ≡ []
  simple_clean o (Simple' sign first n rest) x h =
      let s = sum_clean o (signed sign (term_type o first)) (sign_place sign (term_place first))
      rest x h in
      let f = sign_clean sign (term_type o first) s.0.0 (term_place first) s.0.1 in
      three (term_faults o first) (sign_faults sign (term_type o first) (term_place first))
      (row_sum_faults o (signed sign (term_type o first)) (sign_place sign (term_place first)) rest)
      (term_clean o first f.0.0 f.0.1) f.1 s.1

  sum_clean : (o : Outline) (t : Option Yielded) (place : ℕ) {n : _} (row : Row_of-SumStep n)
      (x : Yielded) → row_sum o t row ≡ Some x
      → Has t × (row_sum_faults o t place row ≡ [])
  sum_clean o t place end_of-SumStep x h = ((x, h), refl)
  sum_clean o t place (more_of-SumStep s rest) x h =
      let r = sum_clean o (with_term o t s) place rest x h in
      let f = with_term_clean o t place s r.0.0 r.0.1 in (
        f.0,
        joined (with_term_faults o t place s) (row_sum_faults o (with_term o t s) place rest)
            f.1 r.1,
      )

  with_term_clean : (o : Outline) (t : Option Yielded) (place : ℕ) (s : SumStep) (x : Yielded)
      → with_term o t s ≡ Some x
      → Has t × (with_term_faults o t place s ≡ [])
  with_term_clean o t place (SumStep' op right) x h =
      operation_clean op t (term_type o right) (term_faults o right) place (term_place right) x h
      (λ r. term_clean o right r.0 r.1)

  term_clean : (o : Outline) (t : Term) (x : Yielded) → term_type o t ≡ Some x
      → term_faults o t ≡ []
  term_clean o (Term' first n rest) x h =
      let s = product_clean o (factor_type o first) (factor_place first) rest x h in
      joined (factor_faults o first) (row_product_faults o (factor_type o first)
      (factor_place first) rest) (factor_clean o first s.0.0 s.0.1) s.1

  product_clean : (o : Outline) (t : Option Yielded) (place : ℕ) {n : _}
      (row : Row_of-ProductStep n) (x : Yielded) → row_product o t row ≡ Some x
      → Has t × (row_product_faults o t place row ≡ [])
  product_clean o t place end_of-ProductStep x h = ((x, h), refl)
  product_clean o t place (more_of-ProductStep op right rest) x h =
      let r = product_clean o (operated op t (factor_type o right)) place rest x h in
      let f = operation_clean op t (factor_type o right) (factor_faults o right) place
      (factor_place right) r.0.0 r.0.1 (λ y. factor_clean o right y.0 y.1) in (
        f.0,
        joined (operation_faults op t place (factor_faults o right) (factor_type o right)
            (factor_place right))
            (row_product_faults o (operated op t (factor_type o right)) place rest) f.1 r.1,
      )

  factor_clean : (o : Outline) (f : Factor) (x : Yielded) → factor_type o f ≡ Some x
      → factor_faults o f ≡ []
  factor_clean o (factor.Number n place) x h = met (nat_le n maxint) _ x place rule.NumberTooLarge
      h
  factor_clean o (factor.Character c place) x h = refl
  factor_clean o (factor.Group' p e place) x h = box_clean o e x h
  factor_clean o (factor.Not' p f place) x h = not_clean o f x h
  factor_clean o (factor.Set' n ms place) x h = (members_clean o (Some (Set None)) ms x h).1
  factor_clean o (factor.Variable' name n path place) x h =
      let e = end_clean (row_selected o (head o name) path) x name.place h in
      let s = selected_clean o (head o name) name.place path e.0 in
      three (head_faults o name) (row_selected_faults o (head o name) name.place path)
      (end_faults (row_selected o (head o name) path) name.place)
      (meant_clean o (meaning o name) name.place s.0) s.1 e.1
  factor_clean o (factor.Call' name n es place) x h =
      let c = call_clean o (callee o name) (row_taken o (callee o name) 0 es) (row_first o es) x h
      in
      joined (callee_faults o name) (row_taken_faults o (callee o name) 0 name.place es)
      (callee_clean o (meaning o name) c.0.0 name.place c.0.1)
      (row_clean o (callee o name) 0 name.place es c.1)

  box_clean : (o : Outline) {n : _} (row : Row_of-Expr n) (x : Yielded) → row_first o row ≡ Some x
      → box_faults o row ≡ []
  box_clean o end_of-Expr x h = refl
  box_clean o (more_of-Expr e rest) x h = expr_clean o e x h

  not_clean : (o : Outline) {n : _} (row : Row_of-Factor n) (x : Yielded)
      → kept wanted.Boolean (row_factor o row) ≡ Some x → row_not_faults o row ≡ []
  not_clean o end_of-Factor x h = refl
  not_clean o (more_of-Factor f rest) x h =
      let s = taken_clean wanted.Boolean (factor_type o f) x (factor_place f) h in
      joined (factor_faults o f) (wants wanted.Boolean (factor_type o f) (factor_place f))
      (factor_clean o f s.0.0 s.0.1) s.1

  members_clean : (o : Outline) (t : Option Yielded) {n : _} (row : Row_of-Member n) (x : Yielded)
      → row_members o t row ≡ Some x
      → Has t × (row_member_faults o t row ≡ [])
  members_clean o t end_of-Member x h = ((x, h), refl)
  members_clean o t (more_of-Member m rest) x h =
      let r = members_clean o (with_members o t m) rest x h in
      let f = with_members_clean o t m r.0.0 r.0.1 in (
        f.0,
        joined (with_members_faults o t m) (row_member_faults o (with_members o t m) rest) f.1
            r.1,
      )

  with_members_clean : (o : Outline) (t : Option Yielded) (m : Member) (x : Yielded)
      → with_members o t m ≡ Some x
      → Has t × (with_members_faults o t m ≡ [])
  with_members_clean o t (Member' low high) x h =
      let f = member_clean t (held_high o (expr_type o low) high) x (expr_place low) h in
      let s = high_clean o (expr_type o low) (expr_place low) high f.1.0 f.1.1 in (
        f.0,
        three (expr_faults o low ++ wants wanted.Ordinal (expr_type o low) (expr_place low))
            (held_high_faults o (expr_type o low) high)
            (member_disagrees t (expr_type o low) (expr_place low))
            (joined (expr_faults o low) (wants wanted.Ordinal (expr_type o low) (expr_place low))
            (expr_clean o low f.1.0 s.0) s.1) s.2
            (ap (λ y. member_disagrees t y (expr_place low)) (s.0 ∙ sym f.1.1) ∙ f.2),
      )

  high_clean : (o : Outline) (t : Option Yielded) (place : ℕ) (high : Held-Member-high)
      (x : Yielded) → held_high o t high ≡ Some x
      → (t ≡ Some x) × (wants wanted.Ordinal t place ≡ []) × (held_high_faults o t high ≡ [])
  high_clean o t place Member-high-None' x h =
      (kept_same wanted.Ordinal t x h, (taken_clean wanted.Ordinal t x place h).1, refl)
  high_clean o t place (Member-high-Some' e) x h =
      let s = span_clean t (expr_type o e) x place (expr_place e) h in (
        s.0,
        s.2,
        joined (expr_faults o e) (span_faults t (expr_type o e) (expr_place e))
            (expr_clean o e s.1.0 s.1.1) s.3,
      )

  row_clean : (o : Outline) (r : Option Receiver) (i name : ℕ) {n : _} (row : Row_of-Expr n)
      → row_taken o r i row ≡ true
      → row_taken_faults o r i name row ≡ []
  row_clean o r i name end_of-Expr h = count_clean o r i name h
  row_clean o r i name (more_of-Expr e rest) h =
      let b = both (is_received o r i (expr_type o e)) (row_taken o r (i + 1) rest) h in
      let s = received_clean o r i (expr_type o e) (expr_place e) b.0 in
      joined (expr_faults o e ++ taken_faults o r i (expr_type o e) (expr_place e))
      (row_taken_faults o r (i + 1) name rest)
      (joined (expr_faults o e) (taken_faults o r i (expr_type o e) (expr_place e))
      (expr_clean o e s.0.0 s.0.1) s.1)
      (row_clean o r (i + 1) name rest b.1)

  selected_clean : (o : Outline) (s : Selection) (name : ℕ) {n : _} (row : Row_of-Selector n)
      → is_whole (row_selected o s row) ≡ true
      → (is_whole s ≡ true) × (row_selected_faults o s name row ≡ [])
  selected_clean o s name end_of-Selector h = (h, refl)
  selected_clean o s name (more_of-Selector x rest) h =
      let r = selected_clean o (selection o s x) name rest h in
      let f = selection_clean o s name x r.0 in (
        f.0,
        joined (selection_faults o s name x) (row_selected_faults o (selection o s x) name rest)
            f.1 r.1,
      )

  selection_clean : (o : Outline) (s : Selection) (name : ℕ) (x : Selector)
      → is_whole (selection o s x) ≡ true
      → (is_whole s ≡ true) × (selection_faults o s name x ≡ [])
  selection_clean o s name (selector.Field u) h = with_field_clean o s u name h
  selection_clean o Broken name (selector.Index' n es place) h = absurd (true≢false (sym h))
  selection_clean o SomeModule name (selector.Index' n es place) h = absurd (true≢false (sym h))
  selection_clean o (Value t) name (selector.Index' n es place) h = absurd (true≢false (sym h))
  selection_clean o (Module p) name (selector.Index' n es place) h = absurd (true≢false (sym h))
  selection_clean o (Component k) name (selector.Index' n es place) h = components_clean o
      (Component k) name es h
  selection_clean o (Modules p) name (selector.Index' n es place) h = (
    refl,
    row_clean o (Some (receiver.Subscripts p)) 0 name es
        (module_whole (row_taken o (Some (receiver.Subscripts p)) 0 es) p h),
  )

  components_clean : (o : Outline) (s : Selection) (name : ℕ) {n : _} (row : Row_of-Expr n)
      → is_whole (row_components o s row) ≡ true
      → (is_whole s ≡ true) × (row_component_faults o s name row ≡ [])
  components_clean o s name end_of-Expr h = (h, refl)
  components_clean o s name (more_of-Expr e rest) h =
      let r = components_clean o (component s (expr_type o e)) name rest h in
      let c = component_clean s (expr_type o e) (expr_place e) name r.0 in (
        c.0,
        joined (expr_faults o e ++ component_faults s (expr_type o e) (expr_place e) name)
            (row_component_faults o (component s (expr_type o e)) name rest)
            (joined (expr_faults o e) (component_faults s (expr_type o e) (expr_place e) name)
            (expr_clean o e c.1.0 c.1.1) c.2) r.1,
      )
