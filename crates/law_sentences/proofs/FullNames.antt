-- What a name stands for is known where it and its selectors break nothing.
use Rattle.std.specs.Prelude.{if◌then◌else◌, option_and_then}
use Rattle.std.proofs.Common.{◌≡◌, refl, sym, ap, subst, true≢false, ℕ, Bool, true, false, List, []}
use Rattle.std.proofs.Common.{◌∷◌, Option, Some, None}
use Rattle.est_syntax.specs.Faults.{broken}
use Rattle.est_syntax.specs.Names.{spelled}
use Rattle.est_syntax.specs.declared.kind.FieldKind.{FieldKind}
use Rattle.est_syntax.specs.declared.kind.Kind.{Kind, out-Kind}
use Rattle.est_syntax.specs.declared.kind.Kind.TheOpen as seen
use Rattle.est_syntax.specs.declared.kind.Kind.TheVariants as kind
use Rattle.est_syntax.specs.declared.name.Used.{Used}
use Rattle.est_syntax.specs.declared.rule.Rule.TheVariants as rule
use Rattle.rule_scope.specs.Outline.{Outline, entry_at, standing}
use Rattle.rule_scope.specs.Uses.{meaning}
use Rattle.rule_scope.specs.declared.declaration.Entry.{Entry}
use Rattle.rule_scope.specs.declared.declaration.Meant.{Meant}
use Rattle.rule_scope.specs.declared.declaration.Meant.TheVariants as meant
use Rattle.rule_scope.specs.declared.declaration.Measured.{Measured}
use Rattle.rule_scope.specs.declared.declaration.Section.{Section}
use Rattle.rule_scope.specs.declared.declaration.Section.TheVariants as section
use Rattle.rule_scope.specs.declared.declaration.Sort.{Sort}
use Rattle.rule_scope.specs.declared.declaration.Sort.TheVariants as sort
use Rattle.rule_scope.specs.declared.declaration.Standing.{Standing}
use Rattle.rule_scope.specs.declared.predeclared.PredeclaredName.{PredeclaredName}
use Rattle.rule_scope.specs.declared.predeclared.PredeclaredName.TheVariants as known
use Rattle.rule_kinds.specs.Constants.{predeclared_constant}
use Rattle.est_values.specs.Types.{Yielded, type_of, is_assignable, host_in}
use Rattle.est_values.specs.declared.types.Host.{Host}
use Rattle.est_values.specs.declared.types.Host.TheVariants as host
use Rattle.rule_declares.specs.LookUps.{dims_in}
use Rattle.rule_expressions.specs.Selections.{Selection, Broken, Value, Component, Modules, Module}
use Rattle.rule_expressions.specs.Selections.{SomeModule, takes_so_many, value_head, variable_head}
use Rattle.rule_expressions.specs.Selections.{module_head, function_head, head_by, head_in}
use Rattle.rule_expressions.specs.Selections.{head_meant, head, predeclared_head}
use Rattle.rule_declares.specs.RequiredFunctions.{required_function}
use Rattle.rule_expressions.specs.Selections.{host_value, function_faults, predeclared_faults}
use Rattle.rule_expressions.specs.Selections.{sort_faults, entry_faults, meant_faults, head_faults}
use Rattle.rule_expressions.specs.Variables.{indexed, component, subscript_faults, component_faults}
use Rattle.rule_expressions.specs.Variables.{field_in, field_found, field_of, found_faults}
use Rattle.rule_expressions.specs.Variables.{field_faults, is_export, of_header}
use Rattle.rule_declares.specs.LookUps.{header_in}
use Rattle.rule_expressions.specs.Variables.{has_exports, export_by, export_of, no_export}
use Rattle.rule_expressions.specs.Variables.{export_faults, with_field, with_field_faults}
use Rattle.rule_expressions.specs.Variables.{selected_type, end_faults}
use Rattle.rule_declares.specs.declared.required.Required.{Required}
use Rattle.law_sentences.specs.Full.{IsThere, HasAll, AreFull}
use Rattle.law_sentences.specs.FullExpressions.{IsKnown}
use Rattle.law_sentences.proofs.FullOperators.{nowhere}
use Rattle.law_sentences.proofs.NoFaults.{unbroken}
use Rattle.law_sentences.proofs.NotBroken.{not_broken}

-- what is predeclared
boolean_host : host_in kind.Boolean ≡ Some host.Boolean
unfolding out-Kind denote.Hole.Carrier.out
boolean_host = refl

integer_host : host_in kind.Integer ≡ Some host.Integer
unfolding out-Kind denote.Hole.Carrier.out
integer_host = refl

host_known : (o : Outline) (h : Option Host) → IsThere h → IsKnown o (host_value h)
host_known o None k = nowhere k
host_known o (Some h) k = tt

no_function : {X : Type 0} (f : Option Required) (place : ℕ) → function_faults f place ≡ [] → X
no_function None place h = not_broken place rule.WrongSort h
no_function (Some f) place h = not_broken place rule.WrongNumber h

predeclared_known : (o : Outline) (n : PredeclaredName) (place : ℕ)
    → predeclared_faults (predeclared_constant n) n place ≡ []
    → IsKnown o (predeclared_head (predeclared_constant n))
predeclared_known o known.False place h =
    host_known o (host_in kind.Boolean) (host.Boolean, boolean_host)
predeclared_known o known.True place h =
    host_known o (host_in kind.Boolean) (host.Boolean, boolean_host)
predeclared_known o known.Maxint place h =
    host_known o (host_in kind.Integer) (host.Integer, integer_host)
predeclared_known o n place h = no_function (required_function n) place h

-- what stands for a variable or a module, and for no value
abbrev pub IsPlace : Outline → Selection → Type 0
IsPlace o (Value t) = ⊥
IsPlace o s = IsKnown o s

pub place_known : (o : Outline) (s : Selection) → IsPlace o s → IsKnown o s
place_known o (Value t) h = absurd h
place_known o Broken h = h
place_known o SomeModule h = h
place_known o (Component k) h = h
place_known o (Modules p) h = h
place_known o (Module p) h = h

-- what is declared
pub value_known : (o : Outline) (k : Option Measured) → IsThere k → IsKnown o (value_head k)
value_known o None h = nowhere h
value_known o (Some m) h = tt

pub variable_place : (o : Outline) (k : Option Measured) → IsThere k → IsPlace o (variable_head k)
variable_place o None h = nowhere h
variable_place o (Some m) h = tt

module_by : (o : Outline) (p : ℕ) (dims : Option (List Kind)) → dims_in (entry_at o p) ≡ dims
    → IsThere dims → IsThere (header_in (entry_at o p)) → IsPlace o (module_head dims p)
module_by o p None is h k = nowhere h
module_by o p (Some []) is h k = k
module_by o p (Some (d ∷ ds)) is h k = ((d ∷ ds, is), k)

pub module_place : (o : Outline) (p : ℕ) (e : Entry) → entry_at o p ≡ Some e → IsThere e.dims
    → IsThere e.header → IsPlace o (module_head e.dims p)
module_place o p e is h k =
    module_by o p e.dims (ap dims_in is) h
    (subst (λ (x : Option Entry). IsThere (header_in x)) (sym is) k)

sort_known : (o : Outline) (p : ℕ) (e : Entry) (s : Sort) (place : ℕ) → entry_at o p ≡ Some e
    → HasAll s e → sort_faults o p s place ≡ [] → IsKnown o (head_by o p e s)
sort_known o p e sort.Constant place is all h = value_known o e.kind all.0
sort_known o p e sort.Variable place is all h =
    place_known o (variable_head e.kind) (variable_place o e.kind all)
sort_known o p e sort.ModuleVariable place is all h =
    place_known o (module_head e.dims p) (module_place o p e is all.0 all.1)
sort_known o p e sort.Function place is all h =
    subst (λ (b : Bool). IsKnown o (function_head b e.kind))
    (sym (unbroken (takes_so_many o p 0) place rule.WrongNumber h))
    (place_known o (variable_head e.kind) (variable_place o e.kind all))
sort_known o p e _ place is all h = not_broken place rule.WrongSort h

entry_known : (o : Outline) (p : ℕ) (x : Option Entry) (place : ℕ) → AreFull o
    → entry_at o p ≡ x → entry_faults o p x place ≡ [] → IsKnown o (head_in o p x)
entry_known o p None place full is h = not_broken place rule.WrongSort h
entry_known o p (Some e) place full is h =
    sort_known o p e e.declared.sort place is (full p e is) h

meant_known : (o : Outline) (m : Meant) (place : ℕ) → AreFull o → meant_faults o m place ≡ []
    → IsKnown o (head_meant o m)
meant_known o meant.Nothing place full h = not_broken place rule.UnknownName h
meant_known o (meant.Predeclared n) place full h = predeclared_known o n place h
meant_known o (meant.Unseen p) place full h = not_broken place rule.NotSeenHere h
meant_known o (meant.Seen p) place full h = entry_known o p (entry_at o p) place full refl h

pub head_known : (o : Outline) (u : Used) → AreFull o → head_faults o u ≡ []
    → IsKnown o (head o u)
head_known o u full h = meant_known o (meaning o u) u.place full h

-- subscripts of arrays
abbrev pub IsComponent : Selection → Type 0
IsComponent s = (k : Kind) × (s ≡ Component k)

indexed_full : (k : seen.Kind-F Kind FieldKind) (t : Yielded) (place name : ℕ)
    → subscript_faults k (Some t) place name ≡ [] → IsComponent (indexed k t)
indexed_full (seen.ArrayOf index of) t place name h = (
  of,
  ap (λ (b : Bool). if b then Component of else Broken)
      (unbroken (is_assignable (type_of index) t) place rule.WrongKind h),
)
indexed_full _ t place name h = not_broken name rule.WrongKind h

pub component_full : (k : Kind) (t : Option Yielded) (place name : ℕ) → IsThere t
    → component_faults (Component k) t place name ≡ [] → IsComponent (component (Component k) t)
component_full k None place name h f = nowhere h
component_full k (Some t) place name h f = indexed_full (out-Kind k) t place name f

-- fields
found_place : (o : Outline) (k : Option Kind) (place : ℕ) → found_faults k place ≡ []
    → IsPlace o (field_found k)
found_place o None place h = not_broken place rule.UnknownName h
found_place o (Some k) place h = tt

field_place : (o : Outline) (k : seen.Kind-F Kind FieldKind) (u : Used) (name : ℕ)
    → field_faults k u name ≡ [] → IsPlace o (field_of k (spelled u))
field_place o (seen.Fields fs) u name h = found_place o (field_in fs (spelled u)) u.place h
field_place o _ u name h = not_broken name rule.WrongKind h

-- exported variables
export_sort : (e : Entry) → is_export e ≡ true → e.declared.sort ≡ sort.Variable
export_sort e = by e.section e.declared.sort
  where
    by : (x : Section) (s : Sort)
        → is_export (record e { section = x; declared = record e.declared { sort = s } }) ≡ true
        → s ≡ sort.Variable
    by section.Header sort.Variable h = refl
    by _ _ h = absurd (true≢false (sym h))

standing_entry : (o : Outline) (s : Option Standing) (e : Entry)
    → option_and_then (λ (s : Standing). entry_at o s.place) s ≡ Some e
    → (p : ℕ) × (entry_at o p ≡ Some e)
standing_entry o None e h = nowhere (e, h)
standing_entry o (Some s) e h = (s.place, h)

declared_export : (o : Outline) (header : ℕ) (u : Used) (x : Option Entry) → AreFull o
    → of_header o header u ≡ x → no_export x u.place ≡ [] → IsPlace o (export_by x)
declared_export o header u None full is h = not_broken u.place rule.UnknownName h
declared_export o header u (Some e) full is h =
    let b = unbroken (is_export e) u.place rule.WrongSort h in
    let s = standing_entry o (standing o header (spelled u)) e is in
    let k = subst (λ (s : Sort). HasAll s e) (export_sort e b) (full s.0 e s.1) in
    subst (λ (b : Bool). IsPlace o (if b then variable_head e.kind else Broken)) (sym b)
    (variable_place o e.kind k)

export_place : (o : Outline) (header : ℕ) (u : Used) (name : ℕ) → AreFull o
    → export_faults o (Some header) u name ≡ [] → IsPlace o (export_of o (Some header) u)
export_place o header u name full = by (has_exports (entry_at o header))
  where
    by : (b : Bool)
        → (if b then no_export (of_header o header u) u.place else broken name rule.WrongKind) ≡ []
        → IsPlace o (if b then export_by (of_header o header u) else Broken)
    by true h = declared_export o header u (of_header o header u) full refl h
    by false h = not_broken name rule.WrongKind h

pub with_field_place : (o : Outline) (s : Selection) (u : Used) (name : ℕ) → AreFull o
    → IsKnown o s → with_field_faults o s u name ≡ [] → IsPlace o (with_field o s u)
with_field_place o Broken u name full k h = absurd k
with_field_place o SomeModule u name full k h = absurd k
with_field_place o (Value t) u name full k h = not_broken name rule.WrongKind h
with_field_place o (Modules p) u name full k h = not_broken name rule.WrongNumber h
with_field_place o (Component j) u name full k h = field_place o (out-Kind j) u name h
with_field_place o (Module p) u name full k h =
    subst (λ (x : Option ℕ). IsPlace o (export_of o x u)) (sym k.1)
    (export_place o k.0 u name full
    (subst (λ (x : Option ℕ). export_faults o x u name ≡ []) k.1 h))

-- a name with its selectors
pub end_full : (o : Outline) (s : Selection) (name : ℕ) → IsKnown o s → end_faults s name ≡ []
    → IsThere (selected_type s)
end_full o Broken name k h = absurd k
end_full o SomeModule name k h = absurd k
end_full o (Value t) name k h = (t, refl)
end_full o (Component j) name k h = (type_of j, refl)
end_full o (Modules p) name k h = not_broken name rule.WrongNumber h
end_full o (Module p) name k h = not_broken name rule.WrongKind h
