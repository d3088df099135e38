-- The host by form of what an expression yields is that of the rules.
use Rattle.std.specs.Prelude.{option_and_then, if◌then◌else◌, nat_le}
use Rattle.std.specs.Option.{option_map}
use Rattle.std.proofs.Common.{◌≡◌, refl, sym, ap, subst, ◌∙◌, true≢false, ℕ, ◌+◌}
use Rattle.std.proofs.Common.{Bool, true, false, List, [], ◌∷◌, length, Option, Some, None}
use Rattle.std.proofs.lemmas.Option.{same_Some, none-some}
use Rattle.est_syntax.specs.Kinds.{maxint}
use Rattle.est_syntax.specs.Names.{is_name, spelled}
use Rattle.est_syntax.specs.declared.constant.Sign.{Sign}
use Rattle.est_syntax.specs.declared.expression.Expr.{Expr, Expr'}
use Rattle.est_syntax.specs.declared.expression.Expr.{Expr-relation-None', Expr-relation-Some'}
use Rattle.est_syntax.specs.declared.expression.Factor.{Factor, Row_of-Expr, end_of-Expr}
use Rattle.est_syntax.specs.declared.expression.Factor.{more_of-Expr}
use Rattle.est_syntax.specs.declared.expression.Factor.{Row_of-Member, end_of-Member}
use Rattle.est_syntax.specs.declared.expression.Factor.{more_of-Member, Row_of-Selector}
use Rattle.est_syntax.specs.declared.expression.Factor.{end_of-Selector, more_of-Selector}
use Rattle.est_syntax.specs.declared.expression.Factor.{items-the_row-Selector}
use Rattle.est_syntax.specs.declared.expression.Factor.TheOpen as opened
use Rattle.est_syntax.specs.declared.expression.Factor.TheVariants as factor
use Rattle.est_syntax.specs.declared.expression.Member.{Member, Member'}
use Rattle.est_syntax.specs.declared.expression.Operator.{Operator}
use Rattle.est_syntax.specs.declared.expression.Operator.TheVariants as operator
use Rattle.est_syntax.specs.declared.expression.ProductStep.{ProductStep}
use Rattle.est_syntax.specs.declared.expression.Relation.{Relation, Relation'}
use Rattle.est_syntax.specs.declared.expression.Selector.{Selector, out-Selector}
use Rattle.est_syntax.specs.declared.expression.Selector.{roll-Selector, roll-out-Selector}
use Rattle.est_syntax.specs.declared.expression.Selector.TheVariants as selector
use Rattle.est_syntax.specs.declared.expression.Simple.{Simple, Simple', Row_of-SumStep}
use Rattle.est_syntax.specs.declared.expression.Simple.{end_of-SumStep, more_of-SumStep}
use Rattle.est_syntax.specs.declared.expression.SumStep.{SumStep, SumStep'}
use Rattle.est_syntax.specs.declared.expression.Term.{Term, Term', Row_of-ProductStep}
use Rattle.est_syntax.specs.declared.expression.Term.{end_of-ProductStep, more_of-ProductStep}
use Rattle.est_syntax.specs.declared.kind.Kind.{Kind, out-Kind}
use Rattle.est_syntax.specs.declared.kind.Kind.TheOpen as seen
use Rattle.est_syntax.specs.declared.kind.Kind.TheVariants as kind
use Rattle.est_syntax.specs.declared.kind.FieldKind.{FieldKind}
use Rattle.est_syntax.specs.declared.name.Used.{Used}
use Rattle.est_values.specs.FittingValues.{KindLayer}
use Rattle.rule_scope.specs.declared.declaration.Entry.{Entry}
use Rattle.rule_scope.specs.declared.declaration.Meant.{Meant}
use Rattle.rule_scope.specs.declared.declaration.Meant.TheVariants.{Seen, Predeclared}
use Rattle.rule_scope.specs.declared.declaration.Measured.{Measured}
use Rattle.rule_scope.specs.declared.declaration.Sort.{Sort}
use Rattle.rule_scope.specs.declared.declaration.Sort.TheVariants as sort
use Rattle.rule_scope.specs.declared.declaration.Standing.{Standing}
use Rattle.rule_scope.specs.declared.predeclared.PredeclaredName.TheVariants as known
use Rattle.rule_scope.specs.Outline.{Outline, entry_at, standing}
use Rattle.rule_scope.specs.Uses.{is_sort, same_sort, meaning}
use Rattle.est_values.specs.declared.types.Host.{Host}
use Rattle.est_values.specs.declared.types.Host.TheVariants as host
use Rattle.est_values.specs.Types.{Yielded, Ordinal, Set, Group, is_host, are_hosts_one, type_by}
use Rattle.est_values.specs.Types.{type_of, is_assignable}
use Rattle.est_values.specs.Types as types
use Rattle.rule_declares.specs.LookUps.{header_in}
use Rattle.rule_declares.specs.declared.required.Required.{Required}
use Rattle.rule_declares.specs.declared.required.Required.TheVariants as required
use Rattle.rule_declares.specs.RequiredFunctions.{required_function}
use Rattle.rule_expressions.specs.declared.operators.Wanted.{Wanted}
use Rattle.rule_expressions.specs.declared.operators.Wanted.TheVariants as wanted
use Rattle.rule_expressions.specs.Operators.{is_taken, kept, left_of, do_agree, do_match, united}
use Rattle.rule_expressions.specs.Operators.{is_relation, result_of, operated, signed, with_member}
use Rattle.rule_expressions.specs.ExpressionPlaces.{number_type}
use Rattle.rule_expressions.specs.Selections.{Selection, Broken, Value, Component, Modules, Module}
use Rattle.rule_expressions.specs.Selections.{SomeModule, declared_type, value_of, module_head}
use Rattle.rule_expressions.specs.Selections.{variable_head, value_head, function_head}
use Rattle.rule_expressions.specs.Selections.{takes_so_many, host_value, head_by, head_in}
use Rattle.rule_expressions.specs.Selections.{head_meant}
use Rattle.rule_expressions.specs.Variables.{indexed, component, chosen_by, field_found, field_of}
use Rattle.rule_expressions.specs.Variables.{is_export, export_by, has_exports, export_of}
use Rattle.rule_expressions.specs.Variables.{with_field, selected_type}
use Rattle.rule_expressions.specs.Variables as variables
use Rattle.rule_expressions.specs.Calls.{subscripts_of, declared_callee, required_callee}
use Rattle.rule_expressions.specs.Calls.{callee_meant, callee, call_by}
use Rattle.rule_expressions.specs.Expressions.{expr_type, simple_type, row_sum, term_type}
use Rattle.rule_expressions.specs.Expressions.{row_product, factor_type, row_first, row_factor}
use Rattle.rule_expressions.specs.Expressions.{row_members, held_high, row_taken, row_selected}
use Rattle.rule_expressions.specs.Expressions.{selection, components, are_taken, with_index}
use Rattle.rule_expressions.proofs.Rows.{index_selection_at}
use Rattle.mean_blocks.specs.NamesInRuns.{kind_at, array_in, field_from, field_in}
use Rattle.mean_blocks.specs.OperandHosts.{Subject, OfKind, OfModules, of_kind_at, subject_at}
use Rattle.mean_blocks.specs.OperandHosts.{component_of, subscripted, field_subject}
use Rattle.mean_blocks.specs.OperandHosts.{selected_subject, subject_along, subject_host}
use Rattle.mean_blocks.specs.OperandHosts.{named_host, required_host, call_host}
use Rattle.mean_blocks.specs.OperandHosts.{host_of, simple_host, term_host, factor_host, row_host}
use Rattle.law_values.specs.HostsOfForms.{AddUp, Multiply, IsFormed, IsFormedSum}
use Rattle.law_values.specs.HostsOfForms.{IsFormedProduct, IsFormedFactor, IsFormedFirst}
use Rattle.law_values.specs.HostsOfForms.{HostsAreThoseOfRules}

-- an ordinal of a host
abbrev Yields : Option Yielded → Host → Type 0
Yields x h = x ≡ Some (Ordinal h)

-- OPERATORS

match_plain : (op : Operator) (l r : Yielded) → is_relation op ≡ false
    → do_match op l r ≡ do_agree l r
match_plain operator.Within l r n = absurd (true≢false n)
match_plain _ l r n = refl

united_ordinal : (l r : Yielded) (h : Host) → do_agree l r ≡ true → united l r ≡ Ordinal h
    → l ≡ Ordinal h
united_ordinal (Set None) (Set g) h d e = absurd (cc)
united_ordinal (Set None) (Ordinal g) h d e = absurd (true≢false (sym d))
united_ordinal (Set None) (Group k) h d e = absurd (true≢false (sym d))
united_ordinal (Set (Some g)) r h d e = absurd (cc)
united_ordinal (Ordinal g) r h d e = e
united_ordinal (Group k) r h d e = absurd (cc)

-- what does not compare yields an ordinal of the host of its left operand
left_yields : (op : Operator) (x y : Option Yielded) (h : Host) → is_relation op ≡ false
    → Yields (operated op x y) h → Yields x h
left_yields op None y h n e = absurd (none-some (Ordinal h) e)
left_yields op (Some l) None h n e = absurd (none-some (Ordinal h) e)
left_yields op (Some l) (Some r) h n e = by (is_taken (left_of op) l) (do_match op l r) refl e
  where
    by : (s t : Bool) → do_match op l r ≡ t
        → (if s then (if t then Some (result_of op l r) else None) else None) ≡ Some (Ordinal h)
        → Yields (Some l) h
    by true true d e = ap Some (united_ordinal l r h (sym (match_plain op l r n) ∙ d)
        (subst (λ (b : Bool). (if b then Ordinal host.Boolean else united l r) ≡ Ordinal h) n
        (same_Some (result_of op l r) (Ordinal h) e)))
    by true false d e = absurd (none-some (Ordinal h) e)
    by false t d e = absurd (none-some (Ordinal h) e)

-- what compares yields a boolean
compared_yields : (op : Operator) (x y : Option Yielded) (h : Host) → is_relation op ≡ true
    → Yields (operated op x y) h → Some host.Boolean ≡ Some h
compared_yields op None y h n e = absurd (none-some (Ordinal h) e)
compared_yields op (Some l) None h n e = absurd (none-some (Ordinal h) e)
compared_yields op (Some l) (Some r) h n e = by (is_taken (left_of op) l) (do_match op l r) e
  where
    by : (s t : Bool)
        → (if s then (if t then Some (result_of op l r) else None) else None) ≡ Some (Ordinal h)
        → Some host.Boolean ≡ Some h
    by true true e =
        let i : Ordinal host.Boolean ≡ Ordinal h =
        subst (λ (b : Bool). (if b then Ordinal host.Boolean else united l r) ≡ Ordinal h) n
        (same_Some (result_of op l r) (Ordinal h) e) in cc
    by true false e = absurd (none-some (Ordinal h) e)
    by false t e = absurd (none-some (Ordinal h) e)

kept_yields : (w : Wanted) (x : Option Yielded) (h : Host) → Yields (kept w x) h → Yields x h
kept_yields w None h e = absurd (none-some (Ordinal h) e)
kept_yields w (Some t) h e = by (is_taken w t) e
  where
    by : (b : Bool) → (if b then Some t else None) ≡ Some (Ordinal h) → Yields (Some t) h
    by true e = e
    by false e = absurd (none-some (Ordinal h) e)

signed_yields : (sign : Option Sign) (x : Option Yielded) (h : Host) → Yields (signed sign x) h
    → Yields x h
signed_yields None x h e = e
signed_yields (Some sign) x h e = kept_yields wanted.Integer x h e

negated_yields : (x : Option Yielded) (h : Host) → Yields (kept wanted.Boolean x) h
    → Some host.Boolean ≡ Some h
negated_yields None h e = absurd (none-some (Ordinal h) e)
negated_yields (Some (Ordinal host.Boolean)) h e =
    let i : Ordinal host.Boolean ≡ Ordinal h = same_Some _ (Ordinal h) e in cc
negated_yields (Some t) h e = absurd (none-some (Ordinal h) e)

number_yields : (n : ℕ) (h : Host) → Yields (number_type n) h → Some host.Integer ≡ Some h
number_yields n h e = by (nat_le n maxint) e
  where
    by : (b : Bool) → (if b then Some (Ordinal host.Integer) else None) ≡ Some (Ordinal h)
        → Some host.Integer ≡ Some h
    by true e = cc
    by false e = absurd (none-some (Ordinal h) e)

-- SETS

member_no_ordinal : (x y : Option Yielded) (h : Host) → Yields (with_member x y) h → ⊥
member_no_ordinal (Some (Set g)) (Some (Ordinal k)) h e = by (are_hosts_one (Some k) g) e
  where
    by : (b : Bool) → (if b then Some (Set (Some k)) else None) ≡ Some (Ordinal h) → ⊥
    by true e = absurd (cc)
    by false e = none-some (Ordinal h) e
member_no_ordinal x y h e = none-some (Ordinal h) e

members_no_ordinal : (o : Outline) {n : _} (row : Row_of-Member n) (x : Option Yielded) (h : Host)
    → (Yields x h → ⊥) → Yields (row_members o x row) h → ⊥
members_no_ordinal o end_of-Member x h f e = f e
members_no_ordinal o (more_of-Member (Member' low high) rest) x h f e =
    members_no_ordinal o rest (with_member x (held_high o (expr_type o low) high)) h
    (member_no_ordinal x (held_high o (expr_type o low) high) h) e

-- KINDS

-- what a variable of a kind yields, by the layer of that
abbrev type_layer : Kind → KindLayer → Yielded
type_layer k (seen.SetOf base) = Set (types.host_of base)
type_layer k _ = type_by (types.host_of k) k

type_open : (k : Kind) → type_of k ≡ type_layer k (out-Kind k)
type_open k = refl

type_host : (k : Kind) (h : Host) → type_of k ≡ Ordinal h → types.host_of k ≡ Some h
type_host k h e = by (out-Kind k) refl
  where
    one : (x : Option Host) → type_by x k ≡ Ordinal h → x ≡ Some h
    one None i = absurd (cc)
    one (Some g) i = cc

    by : (l : KindLayer) → out-Kind k ≡ l → types.host_of k ≡ Some h
    by (seen.SetOf base) d =
        let i : type_of k ≡ Set (types.host_of base) = type_open k ∙ ap (type_layer k) d in
        absurd (cc)
    by _ d = one (types.host_of k) (sym (type_open k ∙ ap (type_layer k) d) ∙ e)

-- SELECTORS

-- what selectors reach by the rules is what they lead to
abbrev Leads : Selection → Option Subject → Type 0
Leads (Component k) x = x ≡ Some (OfKind k)
Leads (Modules p) x = x ≡ Some (OfModules p)
Leads (Module p) x = x ≡ Some (OfModules p)
Leads (Value t) x = (h : Host) → t ≡ Ordinal h → subject_host x ≡ Some h
Leads SomeModule x = Unit {0}
Leads Broken x = Unit {0}

broken_components : (o : Outline) (es : List Expr) → components o Broken es ≡ Broken
broken_components o [] = refl
broken_components o (e ∷ es) = broken_components o es

-- what so many subscripts of an array lead to
abbrev Reaches : ℕ → Option (Kind × Kind) → Option Subject
Reaches n x = option_map OfKind
    (option_and_then (λ (ks : Kind × Kind). component_of n ks.1) x)

component_leads : (o : Outline) (es : List Expr) (k : Kind)
    → ((of : Kind)
    → Leads (components o (Component of) es) (option_map OfKind (component_of (length es) of)))
    → (x : Option Yielded)
    → Leads (components o (component (Component k) x) es) (Reaches (length es) (array_in k))
component_leads o es k f x = by x
  where
    broken : Leads (components o Broken es) (Reaches (length es) (array_in k))
    broken = subst (λ (s : Selection). Leads s (Reaches (length es) (array_in k)))
        (sym (broken_components o es)) tt

    within : (index of : Kind) (b : Bool) → out-Kind k ≡ seen.ArrayOf index of
        → Leads (components o (if b then Component of else Broken) es)
        (Reaches (length es) (array_in k))
    within index of true d = let i : array_in k ≡ Some (index, of) = rw d refl in
        subst (λ (z : Option (Kind × Kind)). Leads (components o (Component of) es)
        (Reaches (length es) z)) (sym i) (f of)
    within index of false d = broken

    one : (t : Yielded) (l : KindLayer) → out-Kind k ≡ l
        → Leads (components o (indexed l t) es) (Reaches (length es) (array_in k))
    one t (seen.ArrayOf index of) d = within index of (is_assignable (type_of index) t) d
    one t _ d = broken

    by : (y : Option Yielded)
        → Leads (components o (component (Component k) y) es) (Reaches (length es) (array_in k))
    by None = broken
    by (Some t) = one t (out-Kind k) refl

components_lead : (o : Outline) (es : List Expr) (k : Kind)
    → Leads (components o (Component k) es) (option_map OfKind (component_of (length es) k))
components_lead o [] k = refl
components_lead o (e ∷ es) k =
    component_leads o es k (λ of. components_lead o es of) (expr_type o e)

-- fields
field_same : (fs : List FieldKind) (name : List ℕ) (n : ℕ)
    → option_map (λ (f : ℕ × Kind). OfKind f.1) (field_from n fs name)
    ≡ option_map OfKind (variables.field_in fs name)
field_same [] name n = refl
field_same (f ∷ fs) name n = by (is_name name f.name.bytes) (field_same fs name (n + 1))
  where
    by : (b : Bool) → option_map (λ (g : ℕ × Kind). OfKind g.1) (field_from (n + 1) fs name)
        ≡ option_map OfKind (variables.field_in fs name)
        → option_map (λ (g : ℕ × Kind). OfKind g.1)
        (if b then Some (n, f.kind) else field_from (n + 1) fs name)
        ≡ option_map OfKind (if b then Some f.kind else variables.field_in fs name)
    by true h = refl
    by false h = h

field_leads : (o : Outline) (k : Kind) (u : Used)
    → Leads (field_of (out-Kind k) (spelled u)) (field_subject o u (OfKind k))
field_leads o k u = by (out-Kind k) refl
  where
    found : (x : Option Kind) (s : Option Subject) → s ≡ option_map OfKind x
        → Leads (field_found x) s
    found None s e = tt
    found (Some f) s e = e

    by : (l : KindLayer) → out-Kind k ≡ l
        → Leads (field_of l (spelled u)) (field_subject o u (OfKind k))
    by (seen.Fields fs) d =
        let i : field_in k u ≡ field_from 0 fs (spelled u) = rw d refl in
        found (variables.field_in fs (spelled u)) (field_subject o u (OfKind k))
        (ap (option_map (λ (f : ℕ × Kind). OfKind f.1)) i ∙ field_same fs (spelled u) 0)
    by _ d = tt

-- exported variables
kind_leads : (o : Outline) (p : ℕ) (e : Entry) (m : Measured) → entry_at o p ≡ Some e
    → e.kind ≡ Some m → of_kind_at o p ≡ Some (OfKind m.kind)
kind_leads o p e m i k =
    ap (λ (x : Option Entry). option_map OfKind (option_map (λ (m : Measured). m.kind)
    (option_and_then (λ (e : Entry). e.kind) x))) i
    ∙ ap (λ (x : Option Measured). option_map OfKind (option_map (λ (m : Measured). m.kind) x)) k

export_leads : (o : Outline) (header : Option ℕ) (u : Used)
    → Leads (export_of o header u) (option_and_then (of_kind_at o) (option_and_then
    (λ (h : ℕ). option_map (λ (s : Standing). s.place) (standing o h (spelled u))) header))
export_leads o None u = tt
export_leads o (Some h) u = found (standing o h (spelled u)) (has_exports (entry_at o h))
  where
    measured : (d : ℕ) (e : Entry) (b c : Bool) (m : Option Measured) → entry_at o d ≡ Some e
        → e.kind ≡ m → Leads (if b then (if c then variable_head m else Broken) else Broken)
        (of_kind_at o d)
    measured d e true true (Some m) i k = kind_leads o d e m i k
    measured d e true true None i k = tt
    measured d e true false m i k = tt
    measured d e false c m i k = tt

    entry : (d : ℕ) (b : Bool) (x : Option Entry) → entry_at o d ≡ x
        → Leads (if b then export_by x else Broken) (of_kind_at o d)
    entry d true None i = tt
    entry d false None i = tt
    entry d b (Some e) i = measured d e b (is_export e) e.kind i refl

    found : (y : Option Standing) (b : Bool)
        → Leads (if b then export_by (option_and_then
        (λ (s : Standing). entry_at o s.place) y) else Broken)
        (option_and_then (of_kind_at o) (option_map (λ (s : Standing). s.place) y))
    found None true = tt
    found None false = tt
    found (Some y) b = entry y.place b (entry_at o y.place) refl

-- one selector
index_leads : (o : Outline) (es : List Expr) (s : Selection) (y : Option Subject) → Leads s y
    → Leads (with_index o s es) (option_and_then (subscripted (length es)) y)
index_leads o es (Component k) y h =
    subst (λ (z : Option Subject). Leads (components o (Component k) es)
    (option_and_then (subscripted (length es)) z)) (sym h) (components_lead o es k)
index_leads o es (Modules p) y h = by (are_taken o (subscripts_of (Modules p)) 0 es)
  where
    by : (b : Bool) → Leads (if b then Module p else SomeModule)
        (option_and_then (subscripted (length es)) y)
    by true = ap (option_and_then (subscripted (length es))) h
    by false = tt
index_leads o es s y h = tt

name_leads : (o : Outline) (u : Used) (s : Selection) (y : Option Subject) → Leads s y
    → Leads (with_field o s u) (option_and_then (field_subject o u) y)
name_leads o u (Component k) y h =
    subst (λ (z : Option Subject). Leads (field_of (out-Kind k) (spelled u))
    (option_and_then (field_subject o u) z)) (sym h) (field_leads o k u)
name_leads o u (Module p) y h =
    subst (λ (z : Option Subject). Leads (export_of o (header_in (entry_at o p)) u)
    (option_and_then (field_subject o u) z)) (sym h)
    (export_leads o (header_in (entry_at o p)) u)
name_leads o u s y h = tt

-- a layer of a selector
abbrev SelectorLayer : Type 0
SelectorLayer =
    opened.Selector-F Factor Selector Expr Member ProductStep Relation Simple SumStep Term

abbrev subject_layer : Outline → Subject → SelectorLayer → Option Subject
subject_layer o z (opened.Index es place) = subscripted (length es) z
subject_layer o z (opened.Field u) = field_subject o u z

subject_open : (o : Outline) (x : Selector) (z : Subject)
    → selected_subject o x z ≡ subject_layer o z (out-Selector x)
subject_open o x z = refl

then_same : (f g : Subject → Option Subject) → ((z : Subject) → f z ≡ g z) → (y : Option Subject)
    → option_and_then f y ≡ option_and_then g y
then_same f g h None = refl
then_same f g h (Some z) = h z

selector_leads : (o : Outline) (x : Selector) (s : Selection) (y : Option Subject) → Leads s y
    → Leads (selection o s x) (option_and_then (selected_subject o x) y)
unfolding roll-Selector denote.Hole.Carrier.roll
selector_leads o x s y h = by (out-Selector x) refl
  where
    rolled : (l : SelectorLayer) → out-Selector x ≡ l → x ≡ roll-Selector l
    rolled l d = sym (roll-out-Selector x) ∙ ap roll-Selector d

    alike : (l : SelectorLayer) → out-Selector x ≡ l
        → option_and_then (λ z. subject_layer o z l) y
        ≡ option_and_then (selected_subject o x) y
    alike l d = then_same (λ z. subject_layer o z l) (selected_subject o x)
        (λ z. sym (subject_open o x z ∙ ap (subject_layer o z) d)) y

    along : (l : SelectorLayer) (q : Selection) → out-Selector x ≡ l → selection o s x ≡ q
        → Leads q (option_and_then (λ z. subject_layer o z l) y)
        → Leads (selection o s x) (option_and_then (selected_subject o x) y)
    along l q d i k =
        subst (λ (z : Option Subject). Leads (selection o s x) z) (alike l d)
        (subst (λ (r : Selection). Leads r (option_and_then (λ z. subject_layer o z l) y))
        (sym i) k)

    by : (l : SelectorLayer) → out-Selector x ≡ l
        → Leads (selection o s x) (option_and_then (selected_subject o x) y)
    by (opened.Index es place) d = along (opened.Index es place) (with_index o s es) d
        (index_selection_at o s x es place (rolled (opened.Index es place) d))
        (index_leads o es s y h)
    by (opened.Field u) d = along (opened.Field u) (with_field o s u) d
        (ap (selection o s) (rolled (opened.Field u) d)) (name_leads o u s y h)

path_leads : (o : Outline) (n : _) (path : Row_of-Selector n) (s : Selection) (y : Option Subject)
    → Leads s y
    → Leads (row_selected o s path) (subject_along o (items-the_row-Selector n path) y)
path_leads o n end_of-Selector s y h = h
path_leads o n (more_of-Selector x rest) s y h =
    path_leads o _ rest (selection o s x) (option_and_then (selected_subject o x) y)
    (selector_leads o x s y h)

end_host : (s : Selection) (y : Option Subject) (h : Host) → Leads s y
    → Yields (selected_type s) h → subject_host y ≡ Some h
end_host (Value t) y h l e = l h (same_Some t (Ordinal h) e)
end_host (Component k) y h l e =
    subst (λ (x : Option Subject). subject_host x ≡ Some h) (sym l)
    (type_host k h (same_Some (type_of k) (Ordinal h) e))
end_host s y h l e = absurd (none-some (Ordinal h) e)

-- HEADS

subject_kind : (o : Outline) (p : ℕ) (e : Entry) (m : Measured) → entry_at o p ≡ Some e
    → same_sort sort.ModuleVariable e.declared.sort ≡ false → e.kind ≡ Some m
    → subject_at o p ≡ Some (OfKind m.kind)
subject_kind o p e m i d k =
    ap (λ (b : Bool). if b then Some (OfModules p) else of_kind_at o p)
    (ap (is_sort sort.ModuleVariable) i ∙ d)
    ∙ kind_leads o p e m i k

subject_modules : (o : Outline) (p : ℕ) (e : Entry) → entry_at o p ≡ Some e
    → same_sort sort.ModuleVariable e.declared.sort ≡ true → subject_at o p ≡ Some (OfModules p)
subject_modules o p e i d = ap (λ (b : Bool). if b then Some (OfModules p) else of_kind_at o p)
    (ap (is_sort sort.ModuleVariable) i ∙ d)

module _ (o : Outline) (p : ℕ) (e : Entry) (i : entry_at o p ≡ Some e) where
  value_leads : same_sort sort.ModuleVariable e.declared.sort ≡ false
      → Leads (value_head e.kind) (subject_at o p)
  value_leads d = by e.kind refl
    where
      by : (m : Option Measured) → e.kind ≡ m → Leads (value_head m) (subject_at o p)
      by None k = tt
      by (Some m) k = λ h z. ap subject_host (subject_kind o p e m i d k) ∙ type_host m.kind h z

  variable_leads : same_sort sort.ModuleVariable e.declared.sort ≡ false
      → Leads (variable_head e.kind) (subject_at o p)
  variable_leads d = by e.kind refl
    where
      by : (m : Option Measured) → e.kind ≡ m → Leads (variable_head m) (subject_at o p)
      by None k = tt
      by (Some m) k = subject_kind o p e m i d k

  function_leads : (b : Bool) → same_sort sort.ModuleVariable e.declared.sort ≡ false
      → Leads (function_head b e.kind) (subject_at o p)
  function_leads true d = variable_leads d
  function_leads false d = tt

  modules_lead : (dims : Option (List Kind))
      → same_sort sort.ModuleVariable e.declared.sort ≡ true
      → Leads (module_head dims p) (subject_at o p)
  modules_lead None d = tt
  modules_lead (Some []) d = subject_modules o p e i d
  modules_lead (Some (k ∷ ks)) d = subject_modules o p e i d

  sort_leads : (x : Sort) → e.declared.sort ≡ x → Leads (head_by o p e x) (subject_at o p)
  sort_leads sort.Constant z = value_leads (ap (same_sort sort.ModuleVariable) z)
  sort_leads sort.Variable z = variable_leads (ap (same_sort sort.ModuleVariable) z)
  sort_leads sort.ModuleVariable z = modules_lead e.dims (ap (same_sort sort.ModuleVariable) z)
  sort_leads sort.Function z =
      function_leads (takes_so_many o p 0) (ap (same_sort sort.ModuleVariable) z)
  sort_leads _ z = tt

entry_leads : (o : Outline) (p : ℕ) (x : Option Entry) → entry_at o p ≡ x
    → Leads (head_in o p x) (subject_at o p)
entry_leads o p None i = tt
entry_leads o p (Some e) i = sort_leads o p e i e.declared.sort refl

-- what breaks a rule yields nothing
broken_end : (o : Outline) {n : _} (path : Row_of-Selector n) (h : Host)
    → Yields (selected_type (row_selected o Broken path)) h → ⊥
broken_end o end_of-Selector h e = none-some (Ordinal h) e
broken_end o (more_of-Selector (selector.Index' n row place) rest) h e = broken_end o rest h e
broken_end o (more_of-Selector (selector.Field u) rest) h e = broken_end o rest h e

-- a value has no parts
value_end : (o : Outline) {n : _} (path : Row_of-Selector n) (g h : Host)
    → Yields (selected_type (row_selected o (Value (Ordinal g)) path)) h → Some g ≡ Some h
value_end o end_of-Selector g h e = cc
value_end o (more_of-Selector (selector.Index' n row place) rest) g h e =
    absurd (broken_end o rest h e)
value_end o (more_of-Selector (selector.Field u) rest) g h e = absurd (broken_end o rest h e)

boolean_host : types.host_in kind.Boolean ≡ Some host.Boolean
unfolding out-Kind denote.Hole.Carrier.out
boolean_host = refl

integer_host : types.host_in kind.Integer ≡ Some host.Integer
unfolding out-Kind denote.Hole.Carrier.out
integer_host = refl

-- so of a constant that is predeclared
host_end : (o : Outline) {n : _} (path : Row_of-Selector n) (x : Option Host) (g h : Host)
    → x ≡ Some g → Yields (selected_type (row_selected o (host_value x) path)) h
    → Some g ≡ Some h
host_end o path x g h i e = value_end o path g h
    (subst (λ (y : Option Host). Yields (selected_type (row_selected o (host_value y) path)) h) i e)

named_rule : (o : Outline) (m : Meant) (n : _) (path : Row_of-Selector n) (h : Host)
    → Yields (selected_type (row_selected o (head_meant o m) path)) h
    → named_host o (items-the_row-Selector n path) m ≡ Some h
named_rule o (Seen p) n path h e =
    end_host (row_selected o (head_in o p (entry_at o p)) path)
    (subject_along o (items-the_row-Selector n path) (subject_at o p)) h
    (path_leads o n path (head_in o p (entry_at o p)) (subject_at o p)
    (entry_leads o p (entry_at o p) refl)) e
named_rule o (Predeclared known.False) n path h e =
    host_end o path (types.host_in kind.Boolean) host.Boolean h boolean_host e
named_rule o (Predeclared known.True) n path h e =
    host_end o path (types.host_in kind.Boolean) host.Boolean h boolean_host e
named_rule o (Predeclared known.Maxint) n path h e =
    host_end o path (types.host_in kind.Integer) host.Integer h integer_host e
named_rule o m n path h e = absurd (broken_end o path h e)

-- CALLS

declared_rule : (o : Outline) (p : ℕ) (h : Host) → Yields (declared_type (entry_at o p)) h
    → option_and_then types.host_of (kind_at o p) ≡ Some h
declared_rule o p h e = by (entry_at o p) e
  where
    one : (m : Option Measured)
        → Yields (option_map (λ (m : Measured). type_of m.kind) m) h
        → option_and_then types.host_of (option_map (λ (m : Measured). m.kind) m) ≡ Some h
    one None e = absurd (none-some (Ordinal h) e)
    one (Some m) e = type_host m.kind h (same_Some (type_of m.kind) (Ordinal h) e)

    by : (x : Option Entry) → Yields (declared_type x) h
        → option_and_then types.host_of (option_map (λ (m : Measured). m.kind)
        (option_and_then (λ (e : Entry). e.kind) x)) ≡ Some h
    by None e = absurd (none-some (Ordinal h) e)
    by (Some x) e = one x.kind e

required_rule : (f : Required) (t : Option Yielded) (g : Option Host) (h : Host)
    → ((k : Host) → Yields t k → g ≡ Some k) → Yields (option_map (value_of f) t) h
    → required_host f g ≡ Some h
required_rule f None g h r e = absurd (none-some (Ordinal h) e)
required_rule required.Chr (Some t) g h r e = cc
required_rule required.Odd (Some t) g h r e = cc
required_rule required.Succ (Some t) g h r e = r h e
required_rule required.Pred (Some t) g h r e = r h e
required_rule _ (Some t) g h r e = cc

call_rule : (o : Outline) (m : Meant) (taken : Bool) (t : Option Yielded) (g : Option Host)
    (h : Host) → ((k : Host) → Yields t k → g ≡ Some k)
    → Yields (call_by o (callee_meant o m) taken t) h → call_host o m g ≡ Some h
call_rule o m false t g h r e = absurd (none-some (Ordinal h) e)
call_rule o (Seen p) true t g h r e = by (is_sort sort.Function (entry_at o p)) e
  where
    by : (b : Bool) → Yields (call_by o (declared_callee b p) true t) h
        → option_and_then types.host_of (kind_at o p) ≡ Some h
    by true e = declared_rule o p h e
    by false e = absurd (none-some (Ordinal h) e)
call_rule o (Predeclared n) true t g h r e = by (required_function n) e
  where
    by : (x : Option Required) → Yields (call_by o (required_callee x) true t) h
        → option_and_then (λ (f : Required). required_host f g) x ≡ Some h
    by None e = absurd (none-some (Ordinal h) e)
    by (Some f) e = required_rule f t g h r e
call_rule o m true t g h r e = absurd (none-some (Ordinal h) e)

-- EXPRESSIONS

sum_left : (o : Outline) {n : _} (row : Row_of-SumStep n) (x : Option Yielded) (h : Host)
    → AddUp row → Yields (row_sum o x row) h → Yields x h
sum_left o end_of-SumStep x h a e = e
sum_left o (more_of-SumStep (SumStep' op right) rest) x h a e =
    left_yields op x (term_type o right) h a.0
    (sum_left o rest (operated op x (term_type o right)) h a.1 e)

product_left : (o : Outline) {n : _} (row : Row_of-ProductStep n) (x : Option Yielded) (h : Host)
    → Multiply row → Yields (row_product o x row) h → Yields x h
product_left o end_of-ProductStep x h a e = e
product_left o (more_of-ProductStep op right rest) x h a e =
    left_yields op x (factor_type o right) h a.0
    (product_left o rest (operated op x (factor_type o right)) h a.1 e)

mutual
  expr_rule : (o : Outline) (e : Expr) (h : Host) → IsFormed e → Yields (expr_type o e) h
      → host_of o e ≡ Some h
  expr_rule o (Expr' left Expr-relation-None' place) h f y = simple_rule o left h f.1 y
  expr_rule o (Expr' left (Expr-relation-Some' (Relation' op right)) place) h f y =
      compared_yields op (simple_type o left) (simple_type o right) h f.0 y

  simple_rule : (o : Outline) (e : Simple) (h : Host) → IsFormedSum e → Yields (simple_type o e) h
      → simple_host o e ≡ Some h
  simple_rule o (Simple' sign first n rest) h f y =
      term_rule o first h f.0 (signed_yields sign (term_type o first) h
      (sum_left o rest (signed sign (term_type o first)) h f.1 y))

  term_rule : (o : Outline) (e : Term) (h : Host) → IsFormedProduct e → Yields (term_type o e) h
      → term_host o e ≡ Some h
  term_rule o (Term' first n rest) h f y =
      factor_rule o first h f.0 (product_left o rest (factor_type o first) h f.1 y)

  factor_rule : (o : Outline) (e : Factor) (h : Host) → IsFormedFactor e
      → Yields (factor_type o e) h → factor_host o e ≡ Some h
  factor_rule o (factor.Number n place) h f y = number_yields n h y
  factor_rule o (factor.Character c place) h f y = cc
  factor_rule o (factor.Group' p e place) h f y = first_rule o e h f y
  factor_rule o (factor.Not' p e place) h f y = negated_yields (row_factor o e) h y
  factor_rule o (factor.Set' n members place) h f y =
      absurd (members_no_ordinal o members (Some (Set None)) h (λ e. absurd (cc)) y)
  factor_rule o (factor.Variable' name n path place) h f y =
      named_rule o (meaning o name) _ path h y
  factor_rule o (factor.Call' name n arguments place) h f y =
      call_rule o (meaning o name) (row_taken o (callee o name) 0 arguments)
      (row_first o arguments) (row_host o arguments) h (λ k z. first_rule o arguments k f z) y

  first_rule : (o : Outline) {n : _} (row : Row_of-Expr n) (h : Host) → IsFormedFirst row
      → Yields (row_first o row) h → row_host o row ≡ Some h
  first_rule o end_of-Expr h f y = absurd (none-some (Ordinal h) y)
  first_rule o (more_of-Expr e rest) h f y = expr_rule o e h f y

pub hosts_by_rules : HostsAreThoseOfRules
hosts_by_rules o e h f y = expr_rule o e h f y
