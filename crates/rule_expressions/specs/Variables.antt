-- Components of variables, and exported variables of modules (ISO 7185, 6.5.3; ISO 9074, exported
-- variables).
use Rattle.std.specs.Prelude.{ℕ, Bool, true, false, List, [], ◌∷◌}
use Rattle.std.specs.Prelude.{◌++◌, Option, Some, None, option_and_then, if◌then◌else◌}
use Rattle.std.specs.Option.{option_map_or}
use Rattle.est_syntax.specs.Names.{is_name, spelled}
use Rattle.est_syntax.specs.Faults.{broken}
use Rattle.est_syntax.specs.declared.kind.Kind.{Kind, out-Kind}
use Rattle.est_syntax.specs.declared.kind.Kind.TheOpen as seen
use Rattle.est_syntax.specs.declared.kind.FieldKind.{FieldKind}
use Rattle.est_syntax.specs.declared.name.Used.{Used}
use Rattle.est_syntax.specs.declared.rule.Fault.{Fault}
use Rattle.est_syntax.specs.declared.rule.Rule.TheVariants.{UnknownName, WrongSort}
use Rattle.est_syntax.specs.declared.rule.Rule.TheVariants.{WrongKind, WrongNumber}
use Rattle.rule_scope.specs.declared.declaration.Entry.{Entry}
use Rattle.rule_scope.specs.declared.declaration.Section.{Section}
use Rattle.rule_scope.specs.declared.declaration.Section.TheVariants as section
use Rattle.rule_scope.specs.declared.declaration.Sort.{Sort}
use Rattle.rule_scope.specs.declared.declaration.Sort.TheVariants as sort
use Rattle.rule_scope.specs.declared.declaration.Standing.{Standing}
use Rattle.rule_scope.specs.Outline.{Outline, entry_at, standing}
use Rattle.est_values.specs.Types.{Yielded, type_of, is_assignable}
use Rattle.rule_declares.specs.LookUps.{header_in}
use Rattle.rule_expressions.specs.Selections.{Selection, Broken, Value, Component}
use Rattle.rule_expressions.specs.Selections.{Modules, Module, SomeModule, variable_head}

-- A component of an array variable, where the subscript is of the host of its index. What it breaks
-- that the variable is no array stands at its name.
abbrev pub indexed : seen.Kind-F Kind FieldKind → Yielded → Selection
indexed (seen.ArrayOf index of) t = if is_assignable (type_of index) t then Component of else Broken
indexed _ t = Broken

-- a component of what stands before a subscript
abbrev pub component : Selection → Option Yielded → Selection
component (Component k) (Some t) = indexed (out-Kind k) t
component _ _ = Broken

-- what a subscript of a variable of this kind breaks, at its place or at the variable's name
abbrev pub subscript_faults : seen.Kind-F Kind FieldKind → Option Yielded → ℕ → ℕ → List Fault
subscript_faults (seen.ArrayOf index of) None place name = []
subscript_faults (seen.ArrayOf index of) (Some t) place name =
    if is_assignable (type_of index) t then [] else broken place WrongKind
subscript_faults _ t place name = broken name WrongKind

-- what a subscript breaks after what stands before it
abbrev pub component_faults : Selection → Option Yielded → ℕ → ℕ → List Fault
component_faults (Component k) t place name = subscript_faults (out-Kind k) t place name
component_faults _ t place name = []

-- what subscripts make of what stands before them: of its components, or whether they are taken
abbrev pub chosen_by : Selection → Selection → Bool → Selection
chosen_by (Component k) components taken = components
chosen_by (Modules p) components taken = if taken then Module p else SomeModule
chosen_by _ components taken = Broken

-- and what they break, by what they break of an array, of module variables, and by themselves
abbrev pub index_faults : Selection → List Fault → List Fault → List Fault → ℕ → List Fault
index_faults (Component k) components taken own name = components
index_faults (Modules p) components taken own name = taken
index_faults (Module p) components taken own name = own ++ broken name WrongNumber
index_faults SomeModule components taken own name = own ++ broken name WrongNumber
index_faults (Value t) components taken own name = own ++ broken name WrongKind
index_faults Broken components taken own name = own

-- a field of a record variable
abbrev pub field_in : List FieldKind → List ℕ → Option Kind
field_in [] name = None
field_in (f ∷ fs) name = if is_name name f.name.bytes then Some f.kind else field_in fs name

-- a field of a record variable, where there is one of this name
abbrev pub field_found : Option Kind → Selection
field_found None = Broken
field_found (Some k) = Component k

-- a field of a variable of this kind
abbrev pub field_of : seen.Kind-F Kind FieldKind → List ℕ → Selection
field_of (seen.Fields fs) name = field_found (field_in fs name)
field_of _ name = Broken

-- what a name breaks that is no field's
abbrev pub found_faults : Option Kind → ℕ → List Fault
found_faults None place = broken place UnknownName
found_faults (Some k) place = []

-- what a field of a variable of this kind breaks, at its place or at the variable's name
abbrev pub field_faults : seen.Kind-F Kind FieldKind → Used → ℕ → List Fault
field_faults (seen.Fields fs) u name = found_faults (field_in fs (spelled u)) u.place
field_faults _ u name = broken name WrongKind

-- an exported variable of a module, by its header
abbrev pub is_export : Entry → Bool
is_export e = exported e.section e.declared.sort
  where
    exported : Section → Sort → Bool
    exported section.Header sort.Variable = true
    exported _ _ = false

-- what a header declares under a name
abbrev pub of_header : Outline → ℕ → Used → Option Entry
of_header o header u =
    option_and_then (λ (s : Standing). entry_at o s.place) (standing o header (spelled u))

-- the exported variable that is declared, if one is
abbrev pub export_by : Option Entry → Selection
export_by None = Broken
export_by (Some e) = if is_export e then variable_head e.kind else Broken

-- whether a header has exported variables
abbrev pub has_exports : Option Entry → Bool
has_exports header = option_map_or (λ (e : Entry). e.exports) header false

-- an exported variable of a module of this header
abbrev pub export_of : Outline → Option ℕ → Used → Selection
export_of o None u = Broken
export_of o (Some header) u =
    if has_exports (entry_at o header) then export_by (of_header o header u) else Broken

-- what a name breaks that is no exported variable's
abbrev pub no_export : Option Entry → ℕ → List Fault
no_export None place = broken place UnknownName
no_export (Some e) place = if is_export e then [] else broken place WrongSort

-- what an exported variable breaks of a module of this header
abbrev pub export_faults : Outline → Option ℕ → Used → ℕ → List Fault
export_faults o None u name = []
export_faults o (Some header) u name =
    if has_exports (entry_at o header) then no_export (of_header o header u) u.place
    else broken name WrongKind

-- what a field makes of what stands before it
abbrev pub with_field : Outline → Selection → Used → Selection
with_field o (Component k) u = field_of (out-Kind k) (spelled u)
with_field o (Module p) u = export_of o (header_in (entry_at o p)) u
with_field o _ u = Broken

-- what it breaks there
abbrev pub with_field_faults : Outline → Selection → Used → ℕ → List Fault
with_field_faults o (Component k) u name = field_faults (out-Kind k) u name
with_field_faults o (Module p) u name = export_faults o (header_in (entry_at o p)) u name
with_field_faults o (Modules p) u name = broken name WrongNumber
with_field_faults o (Value t) u name = broken name WrongKind
with_field_faults o SomeModule u name = []
with_field_faults o Broken u name = []

-- what a name with its selectors yields
abbrev pub selected_type : Selection → Option Yielded
selected_type (Value t) = Some t
selected_type (Component k) = Some (type_of k)
selected_type _ = None

-- what a name with its selectors breaks that stands for a module, or for several
abbrev pub end_faults : Selection → ℕ → List Fault
end_faults (Modules p) name = broken name WrongNumber
end_faults (Module p) name = broken name WrongKind
end_faults _ name = []
