-- The ports of a specification: the elements of the interaction points of the one module that it
-- starts (ISO 9074, interaction points, channels and init-statement).
use Rattle.std.specs.Prelude.{ℕ, ℤ, List, [], ◌∷◌, map, flat_map, Option, Some, None}
use Rattle.std.specs.Prelude.{option_to_list, if◌then◌else◌}
use Rattle.std.specs.Option.{option_map}
use Rattle.est_syntax.specs.declared.channel.Role.{Role}
use Rattle.est_syntax.specs.declared.kind.Kind.{Kind}
use Rattle.est_syntax.specs.declared.ports.Direction.TheVariants.{Sends, Receives}
use Rattle.est_syntax.specs.declared.ports.Port.{Port}
use Rattle.est_syntax.specs.declared.ports.Signal.{Signal}
use Rattle.est_syntax.specs.declared.specification.Spec.{Spec}
use Rattle.est_syntax.specs.declared.statement.Statement.{Statement}
use Rattle.rule_kinds.specs.rule_scope.declared.declaration.Entry.{Entry}
use Rattle.rule_kinds.specs.rule_scope.declared.declaration.Measured.{Measured}
use Rattle.rule_kinds.specs.rule_scope.declared.declaration.Member.{Member}
use Rattle.rule_kinds.specs.rule_scope.declared.declaration.Member.TheVariants as member
use Rattle.rule_kinds.specs.rule_scope.declared.declaration.Side.{Side}
use Rattle.rule_kinds.specs.rule_scope.declared.declaration.Sort.TheVariants as sort
use Rattle.rule_kinds.specs.rule_scope.declared.declaration.Standing.{Standing}
use Rattle.rule_kinds.specs.rule_scope.Outline.{Outline, Region, names_of, entry_at, member_at}
use Rattle.rule_kinds.specs.rule_scope.Uses.{same_sort}
use Rattle.rule_declares.specs.Bodies.{outline_of}
use Rattle.rule_declares.specs.LookUps.{may_pass}
use Rattle.rule_declares.specs.LookUps.{started_header}
use Rattle.rule_declares.specs.OrdinalValues.{tuples_of}

-- the kind of a parameter, where one is declared and has a kind
abbrev pub kind_by : Option Entry → List Kind
kind_by None = []
kind_by (Some e) = if same_sort sort.Variable e.declared.sort then
    option_to_list (option_map (λ (m : Measured). m.kind) e.kind)
    else []

-- the kinds of the parameters among the names of a region, in the order of the text
abbrev pub kinds_in : Outline → Region → List Kind
kinds_in o names = flat_map (λ (n : List ℕ × Standing). kind_by (entry_at o n.1.place)) names

-- an interaction of a channel at a point in a role, which has a region for its parameters
abbrev pub signal_by : Outline → Role → List ℕ × Standing → Option Member → List Signal
signal_by o r n (Some (member.Interaction s)) = record {
  name = record { bytes = n.0 };
  kinds = kinds_in o (names_of o n.1.place);
  sends = may_pass Sends r s;
  receives = may_pass Receives r s;
} ∷ []
signal_by o r n _ = []

-- those among the names of a channel, in the order of the text
abbrev pub signals_in : Outline → Role → Region → List Signal
signals_in o r names =
    flat_map (λ (n : List ℕ × Standing). signal_by o r n (member_at o n.1.place)) names

-- what may pass a point of this side, or nothing where it has none
abbrev pub signals_of : Outline → Option Side → List Signal
signals_of o None = []
signals_of o (Some side) = signals_in o side.role (names_of o side.channel)

-- an element of an interaction point, by its subscripts, which are of these kinds
abbrev pub element : List ℕ → List Kind → List Signal → List ℤ → Port
element name kinds signals index = record {
  name = record { bytes = name };
  index_kinds = kinds;
  index = index;
  signals = signals;
}

-- the elements of an interaction point, in ascending order of their subscripts: one where it has no
-- subscripts, and none where the kinds of its subscripts are not known
abbrev pub elements_with : List ℕ → List Signal → Option (List Kind) → List Port
elements_with name signals None = []
elements_with name signals (Some kinds) = map (element name kinds signals) (tuples_of kinds)

-- those of the interaction point that is declared with this name, if one is
abbrev pub elements_by : Outline → List ℕ → Option Entry → List Port
elements_by o name None = []
elements_by o name (Some e) =
    if same_sort sort.Point e.declared.sort then elements_with name (signals_of o e.side) e.dims
    else []

-- those among the names of a region, in the order of the text
abbrev pub ports_in : Outline → Region → List Port
ports_in o names =
    flat_map (λ (n : List ℕ × Standing). elements_by o n.0 (entry_at o n.1.place)) names

-- the interaction points of a header
abbrev pub header_ports : Outline → Option ℕ → List Port
header_ports o None = []
header_ports o (Some header) = ports_in o (names_of o header)

-- those of the module that this statement starts, if it starts one
abbrev pub ports_by : Outline → Statement → List Port
ports_by o first = header_ports o (started_header o first)

-- the ports of a specification
unfoldable pub ports_of : Spec → List Port
ports_of s = ports_by (outline_of s) s.first
