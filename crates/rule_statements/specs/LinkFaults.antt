-- Links between interaction points (ISO 9074, connect, disconnect, attach and detach).
use Rattle.std.specs.Prelude.{ℕ, nat_eq, Bool, true, false, ◌&&◌, not, List}
use Rattle.std.specs.Prelude.{[], ◌++◌, Option, Some, None, if◌then◌else◌}
use Rattle.std.specs.Option.{option_map_or}
use Rattle.est_syntax.specs.Names.{spelled}
use Rattle.est_syntax.specs.Faults.{broken}
use Rattle.est_syntax.specs.declared.channel.Role.{Role}
use Rattle.est_syntax.specs.contracts.channel.RolePartialEq.TheImpl.{ghosts}
use Rattle.est_syntax.specs.declared.expression.Access.{Access}
use Rattle.est_syntax.specs.declared.expression.EndPoint.{EndPoint}
use Rattle.est_syntax.specs.declared.name.Used.{Used}
use Rattle.est_syntax.specs.declared.rule.Fault.{Fault}
use Rattle.est_syntax.specs.declared.rule.Rule.TheVariants.{UnknownName, WrongSort, WrongLink}
use Rattle.rule_scope.specs.declared.declaration.Entry.{Entry}
use Rattle.rule_scope.specs.declared.declaration.Meant.{Meant}
use Rattle.rule_scope.specs.declared.declaration.Meant.TheVariants.{Seen}
use Rattle.rule_scope.specs.declared.declaration.Section.{Section}
use Rattle.rule_scope.specs.declared.declaration.Section.TheVariants as section
use Rattle.rule_scope.specs.declared.declaration.Side.{Side}
use Rattle.rule_scope.specs.declared.declaration.Sort.{Sort}
use Rattle.rule_scope.specs.declared.declaration.Sort.TheVariants as sort
use Rattle.rule_scope.specs.declared.declaration.Standing.{Standing}
use Rattle.rule_scope.specs.declared.predeclared.PredeclaredName.{PredeclaredName}
use Rattle.rule_scope.specs.Outline.{Outline, entry_at, standing}
use Rattle.rule_scope.specs.Uses.{is_sort, meaning, meaning_faults, declaration_of}
use Rattle.rule_expressions.specs.Expressions.{are_taken_faults}
use Rattle.rule_expressions.specs.Accesses.{subscripts_at, access_faults}
use Rattle.rule_declares.specs.LookUps.{side_at, point_side}
use Rattle.rule_declares.specs.LookUps.{header_at}

-- whether an interaction point or a module variable is declared
abbrev pub is_end_sort : Option Entry → Bool
is_end_sort None = false
is_end_sort (Some e) = held e.declared.sort
  where
    held : Sort → Bool
    held sort.Point = true
    held sort.ModuleVariable = true
    held _ = false

-- the place of the interaction point or module variable that this meaning is of
abbrev pub end_meant : Outline → Meant → Option ℕ
end_meant o (Seen p) = if is_end_sort (entry_at o p) then Some p else None
end_meant o _ = None

-- the place of the interaction point or module variable that a name means
abbrev pub end_of : Outline → Used → Option ℕ
end_of o u = end_meant o (meaning o u)

-- what a name of this meaning breaks that stands alone
abbrev pub end_used : Outline → ℕ → Meant → List Fault
end_used o place m = meaning_faults m place (λ (n : PredeclaredName). broken place WrongSort)
    (λ (p : ℕ). if is_end_sort (entry_at o p) then [] else broken place WrongSort)

-- what a name with its subscripts breaks that stands alone
abbrev pub single_faults : Outline → Access → List Fault
single_faults o a = end_used o a.name.place (meaning o a.name)
    ++ are_taken_faults o (subscripts_at (end_of o a.name)) 0 a.name.place a.index

-- the place of an interaction point that stands in a header
abbrev pub point_in : Outline → Option Standing → Option ℕ
point_in o None = None
point_in o (Some s) = if is_sort sort.Point (entry_at o s.place) then Some s.place else None

-- the place of the interaction point of a header that a name means there
abbrev pub outer_point : Outline → Option ℕ → Used → Option ℕ
outer_point o None u = None
outer_point o (Some header) u = point_in o (standing o header (spelled u))

-- what a name breaks that stands in a header, or does not, and is no interaction point's
abbrev pub point_used : Outline → Option Standing → ℕ → List Fault
point_used o None place = broken place UnknownName
point_used o (Some s) place =
    if is_sort sort.Point (entry_at o s.place) then [] else broken place WrongSort

-- what a name breaks that is looked up in a header
abbrev pub outer_used : Outline → Option ℕ → Used → List Fault
outer_used o None u = []
outer_used o (Some header) u = point_used o (standing o header (spelled u)) u.place

-- the header of the module variable that a name means
abbrev pub module_header : Outline → Access → Option ℕ
module_header o a = header_at o (declaration_of o sort.ModuleVariable a.name)

-- the place of an interaction point of the module of a module variable
abbrev pub child_point : Outline → Access → Access → Option ℕ
child_point o child point = outer_point o (module_header o child) point.name

-- what a module variable and an interaction point of its module break
abbrev pub child_faults : Outline → Access → Access → List Fault
child_faults o child point = access_faults o sort.ModuleVariable child
    ++ outer_used o (module_header o child) point.name
    ++ are_taken_faults o (subscripts_at (child_point o child point)) 0 point.name.place point.index

-- whether what this section declares is external: it stands in a header
abbrev pub is_external : Section → Bool
is_external section.Header = true
is_external _ = false

-- whether an internal interaction point is declared
abbrev pub is_internal_point : Option Entry → Bool
is_internal_point None = false
is_internal_point (Some e) = internal e.declared.sort e.section
  where
    internal : Sort → Section → Bool
    internal sort.Point s = not (is_external s)
    internal _ s = false

-- an own point that is connected is internal
abbrev pub internal_faults : Outline → Option ℕ → ℕ → List Fault
internal_faults o None place = []
internal_faults o (Some p) place =
    if is_internal_point (entry_at o p) then [] else broken place WrongLink

-- whether what is declared is external
abbrev pub is_external_entry : Option Entry → Bool
is_external_entry entry = option_map_or (λ (e : Entry). is_external e.section) entry false

-- an own point that is attached is external
abbrev pub external_faults : Outline → Option ℕ → ℕ → List Fault
external_faults o None place = []
external_faults o (Some p) place =
    if is_external_entry (entry_at o p) then [] else broken place WrongLink

-- what an end of a `connect` breaks
abbrev pub connected_faults : Outline → Access → Option Access → List Fault
connected_faults o first None =
    single_faults o first ++ internal_faults o (end_of o first.name) first.name.place
connected_faults o first (Some point) = child_faults o first point

-- the channel and the role of that end
abbrev pub connected_side : Outline → Access → Option Access → Option Side
connected_side o first None = point_side o first.name
connected_side o first (Some point) = side_at o (child_point o first point)

-- whether two roles are one: the comparison that the type derives
abbrev pub same_role : Role → Role → Bool
same_role r s = ghosts.eq r s

-- whether two ends have one channel and its two roles
abbrev pub do_connect : Side → Side → Bool
do_connect s t = nat_eq s.channel t.channel && not (same_role s.role t.role)

-- whether two ends have one channel and one role
abbrev pub do_attach : Side → Side → Bool
do_attach s t = nat_eq s.channel t.channel && same_role s.role t.role

-- two ends that are connected have one channel and its two roles
abbrev pub opposed_faults : Option Side → Option Side → ℕ → List Fault
opposed_faults (Some s) (Some t) place = if do_connect s t then [] else broken place WrongLink
opposed_faults _ _ place = []

-- two ends that are attached have one channel and one role
abbrev pub joined_faults : Option Side → Option Side → ℕ → List Fault
joined_faults (Some s) (Some t) place = if do_attach s t then [] else broken place WrongLink
joined_faults _ _ place = []

-- what a `connect` breaks
abbrev pub connect_faults : Outline → EndPoint → EndPoint → List Fault
connect_faults o one other =
    connected_faults o one.first one.second ++ connected_faults o other.first other.second
    ++ opposed_faults (connected_side o one.first one.second)
    (connected_side o other.first other.second) other.first.name.place

-- what an `attach` of an own point to a point of a child breaks
abbrev pub attach_faults : Outline → Access → Access → Access → List Fault
attach_faults o own child point = access_faults o sort.Point own
    ++ external_faults o (declaration_of o sort.Point own.name) own.name.place
    ++ child_faults o child point
    ++ joined_faults (point_side o own.name) (side_at o (child_point o child point))
    child.name.place

-- what the end of a `disconnect` or a `detach` breaks
abbrev pub untied_faults : Outline → Access → Option Access → List Fault
untied_faults o first None = single_faults o first
untied_faults o first (Some point) = child_faults o first point
