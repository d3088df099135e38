-- What names stand for while a block runs (ISO 7185, 6.2.2; ISO 9074, scope of identifiers).
use Rattle.std.specs.Prelude.{ℕ, ◌+◌, ℤ, Bool, true, false, List, [], ◌∷◌, map, Option, Some, None}
use Rattle.std.specs.Prelude.{option_and_then, if◌then◌else◌}
use Rattle.std.specs.List.{filter}
use Rattle.std.specs.Option.{option_map, option_map_or}
use Rattle.est_syntax.specs.Names.{is_name, spelled}
use Rattle.est_syntax.specs.declared.name.Used.{Used}
use Rattle.est_syntax.specs.declared.kind.Kind.{Kind, out-Kind}
use Rattle.est_syntax.specs.declared.kind.Kind.TheOpen as seen
use Rattle.est_syntax.specs.declared.kind.FieldKind.{FieldKind}
use Rattle.rule_declares.specs.rule_scope.declared.declaration.Entry.{Entry}
use Rattle.rule_declares.specs.rule_scope.declared.declaration.Measured.{Measured}
use Rattle.rule_declares.specs.rule_scope.declared.declaration.Meant.{Meant}
use Rattle.rule_declares.specs.rule_scope.declared.declaration.Meant.TheVariants.{Seen}
use Rattle.rule_declares.specs.rule_scope.declared.declaration.Section.{Section}
use Rattle.rule_declares.specs.rule_scope.declared.declaration.Section.TheVariants as section
use Rattle.rule_declares.specs.rule_scope.declared.declaration.Sort.{Sort}
use Rattle.rule_declares.specs.rule_scope.declared.declaration.Sort.TheVariants as sort
use Rattle.rule_declares.specs.rule_scope.declared.declaration.Standing.{Standing}
use Rattle.rule_declares.specs.rule_scope.Outline.{Outline, entry_at, standing, names_of, nth}
use Rattle.rule_declares.specs.rule_scope.Uses.{is_sort, meaning}
use Rattle.rule_declares.specs.rule_kinds.declared.value.Valued.{Valued}
use Rattle.rule_declares.specs.rule_kinds.Constants.{named_value}
use Rattle.rule_declares.specs.Bodies.{interaction_at, side_meant}
use Rattle.rule_declares.specs.LookUps.{dims_in}
use Rattle.rule_declares.specs.LookUps.{header_in}
use Rattle.est_values.specs.FittingValues.{KindLayer}

-- WHAT IS KNOWN OF A DECLARATION

-- the kind of what is declared at a place
abbrev pub kind_at : Outline → ℕ → Option Kind
kind_at o p = option_map (λ (m : Measured). m.kind)
    (option_and_then (λ (e : Entry). e.kind) (entry_at o p))

-- the kinds of the subscripts of what is declared at a place
abbrev pub dims_at : Outline → ℕ → Option (List Kind)
dims_at o p = dims_in (entry_at o p)

-- the header of the body or the module variable that is declared at a place
abbrev pub header_at : Outline → ℕ → Option ℕ
header_at o p = header_in (entry_at o p)

-- where a region declares a name
abbrev pub declared_within : Outline → Used → ℕ → Option ℕ
declared_within o u region = option_map (λ (s : Standing). s.place) (standing o region (spelled u))

-- where the header of a module variable declares a name (ISO 9074, exported variables)
abbrev pub declared_in_header : Outline → ℕ → Used → Option ℕ
declared_in_header o p u = option_and_then (declared_within o u) (header_at o p)

-- where the interaction is declared that a name means at an interaction point
abbrev pub interaction_of : Outline → ℕ → Used → Option ℕ
interaction_of o p u = interaction_at o (side_meant o (Some p)) u

-- the places of what is declared in a region with a sort, in the order of the text
abbrev pub places_of : Outline → Sort → ℕ → List ℕ
places_of o s region = filter (λ (p : ℕ). is_sort s (entry_at o p))
    (map (λ (n : List ℕ × Standing). n.1.place) (names_of o region))

-- whether a parameter is given a variable (ISO 7185, 6.6.3.3)
abbrev pub is_place_section : Section → Bool
is_place_section section.Place = true
is_place_section _ = false

-- whether the parameter of a routine with this number, counted from 0, is given a variable
abbrev pub takes_place : Outline → ℕ → ℕ → Bool
takes_place o p i = option_map_or (λ (e : Entry). is_place_section e.section)
    (option_and_then (entry_at o) (nth o p i)) false

-- WHAT NAMES STAND FOR

-- What a name stands for: an ordinal, where it is a constant's; a function; a variable of a kind,
-- by the place of its declaration; or module variables.
pub data Head : Type 0 where
  Nothing : Head
  Constant : ℤ → Head
  Function : ℕ → Kind → Head
  Variable : ℕ → Kind → Head
  Modules : ℕ → Head

-- a declaration with a kind
abbrev pub with_kind : (Kind → Head) → Option Measured → Head
with_kind make None = Nothing
with_kind make (Some m) = make m.kind

-- what a declaration of this sort is
abbrev pub head_by : ℕ → Option Measured → Sort → Head
head_by p m sort.Variable = with_kind (Variable p) m
head_by p m sort.Function = with_kind (Function p) m
head_by p m sort.ModuleVariable = Modules p
head_by p m _ = Nothing

-- what is declared at a place
abbrev pub head_in : ℕ → Option Entry → Head
head_in p None = Nothing
head_in p (Some e) = head_by p e.kind e.declared.sort

-- what a name is that means this, if it is no constant's
abbrev pub head_meant : Outline → Option Valued → Meant → Head
head_meant o (Some v) m = Constant v.ordinal
head_meant o None (Seen p) = head_in p (entry_at o p)
head_meant o None _ = Nothing

-- what a name stands for
abbrev pub head : Outline → Used → Head
head o u = head_meant o (named_value o u) (meaning o u)

-- the place of a declaration, where there is one
abbrev pub place_in : Meant → Option ℕ
place_in (Seen p) = Some p
place_in _ = None

-- where a name is declared
abbrev pub declared_at : Outline → Used → Option ℕ
declared_at o u = place_in (meaning o u)

-- COMPONENTS OF KINDS

-- the kinds of an array's index and of its components (ISO 7185, 6.4.3.2)
abbrev pub array_in : Kind → Option (Kind × Kind)
array_in k = held (out-Kind k)
  where
    held : KindLayer → Option (Kind × Kind)
    held (seen.ArrayOf index of) = Some (index, of)
    held _ = None

-- the number and the kind of a field, of fields that are numbered from n on
abbrev pub field_from : ℕ → List FieldKind → List ℕ → Option (ℕ × Kind)
field_from n [] name = None
field_from n (f ∷ fs) name =
    if is_name name f.name.bytes then Some (n, f.kind) else field_from (n + 1) fs name

-- the number, counted from 0, and the kind of a field of a record (ISO 7185, 6.4.3.3)
abbrev pub field_in : Kind → Used → Option (ℕ × Kind)
field_in k u = held (out-Kind k)
  where
    held : KindLayer → Option (ℕ × Kind)
    held (seen.Fields fs) = field_from 0 fs (spelled u)
    held _ = None
