-- The rules that the declarations of a specification break, at a declared name, within a section of
-- declarations, or within the formals or the result of a routine (ISO 9074, constraints; ISO 7185,
-- 6.2 to 6.6).
use Rattle.std.specs.Option.{option_map_or}
use Rattle.std.specs.Prelude.{ℕ, ◌-◌, Bool, true, false, ◌&&◌, not, nat_lt, List, flat_map}
use Rattle.std.specs.Prelude.{[], ◌∷◌, ◌++◌, Option, Some, None, is_some, if◌then◌else◌}
use Rattle.est_syntax.specs.Faults.{broken, broken_if}
use Rattle.est_syntax.specs.declared.name.Used.{Used}
use Rattle.est_syntax.specs.declared.constant.ConstDef.{ConstDef}
use Rattle.est_syntax.specs.declared.type_text.VarDef.{VarDef}
use Rattle.est_syntax.specs.declared.type_text.TypeDef.{TypeDef}
use Rattle.est_syntax.specs.declared.channel.InteractionDef.{InteractionDef}
use Rattle.est_syntax.specs.declared.channel.ByPart.{ByPart}
use Rattle.est_syntax.specs.declared.channel.Channel.{Channel}
use Rattle.est_syntax.specs.declared.header.Point.{Point}
use Rattle.est_syntax.specs.declared.header.Header.{Header}
use Rattle.est_syntax.specs.declared.header.ModvarDef.{ModvarDef}
use Rattle.est_syntax.specs.declared.routine.Formal.{Formal}
use Rattle.est_syntax.specs.declared.body.StateSet.{StateSet}
use Rattle.est_syntax.specs.declared.transition.Clause.{Clause}
use Rattle.est_syntax.specs.declared.transition.Clause.TheVariants as clause
use Rattle.est_syntax.specs.declared.body.Part.{Part, Row_of-Part, end_of-Part, more_of-Part}
use Rattle.est_syntax.specs.declared.body.Part.TheVariants as part
use Rattle.est_syntax.specs.declared.body.Body.{Body', Row_of-Group, end_of-Group}
use Rattle.est_syntax.specs.declared.body.Body.{more_of-Group, Held-Body-first}
use Rattle.est_syntax.specs.declared.body.Part.TheBlock as first
use Rattle.est_syntax.specs.declared.transition.Group.{Group', Row_of-Transition}
use Rattle.est_syntax.specs.declared.transition.Group.{end_of-Transition, more_of-Transition}
use Rattle.est_syntax.specs.declared.specification.Spec.{Spec}
use Rattle.est_syntax.specs.declared.rule.Fault.{Fault}
use Rattle.est_syntax.specs.declared.rule.Rule.TheVariants.{UnknownName, WrongSort}
use Rattle.est_syntax.specs.declared.rule.Rule.TheVariants.{NotInFunction}
use Rattle.est_syntax.specs.declared.rule.Rule.TheVariants.{NoFirstState, WrongAttribute}
use Rattle.rule_scope.specs.declared.declaration.Sort.TheVariants as sort
use Rattle.rule_scope.specs.declared.declaration.Entry.{Entry}
use Rattle.rule_scope.specs.declared.declaration.Member.{Member}
use Rattle.rule_scope.specs.declared.declaration.Member.TheVariants as member
use Rattle.rule_scope.specs.Outline.{Outline, entry_at}
use Rattle.rule_scope.specs.Uses.{use_faults, uses_faults, declaration_of, twice_faults}
use Rattle.rule_scope.specs.Uses.{twices_faults, again_faults, agains_faults}
use Rattle.rule_declares.specs.rule_kinds.Constants.{constant_faults}
use Rattle.rule_declares.specs.rule_kinds.TypeTexts.{text_faults, type_faults}
use Rattle.rule_declares.specs.rule_kinds.Dims.{dims_faults}
use Rattle.est_types.specs.Scalars.{row_scalars, scalars_faults}
use Rattle.rule_declares.specs.Declares.{member_named}
use Rattle.rule_declares.specs.Bodies.{outline_of}
use Rattle.est_types.specs.declared.modules.Owner.{Owner}
use Rattle.est_types.specs.declared.modules.Owner.TheVariants as owners

-- constants
abbrev pub constdef_faults : Outline → ConstDef → List Fault
constdef_faults o c = twice_faults o c.name ++ constant_faults o c.value

-- types
abbrev pub typedef_faults : Outline → TypeDef → List Fault
typedef_faults o t = twice_faults o t.name ++ text_faults o t.text

-- variables, parameters or exports
abbrev pub vardef_faults : Outline → VarDef → List Fault
vardef_faults o v = twices_faults o v.names ++ text_faults o v.text

-- the use of a role, which is looked up in its channel
abbrev pub role_used : Option Member → ℕ → List Fault
role_used None place = broken place UnknownName
role_used (Some (member.Role r)) place = []
role_used (Some _) place = broken place WrongSort

abbrev pub role_faults : Outline → ℕ → Used → List Fault
role_faults o channel u = role_used (member_named o channel u) u.place

-- channels
abbrev pub interaction_faults : Outline → InteractionDef → List Fault
interaction_faults o i = again_faults o i.name ++ flat_map (vardef_faults o) i.params

abbrev pub by_part_faults : Outline → ℕ → ByPart → List Fault
by_part_faults o channel b = flat_map (role_faults o channel) b.roles ++ flat_map (interaction_faults o) b.interactions

abbrev pub channel_faults : Outline → Channel → List Fault
channel_faults o c =
    twice_faults o c.name ++ agains_faults o c.roles ++ flat_map (by_part_faults o c.name.place) c.by

-- interaction points, whose role is looked up where their channel is one
abbrev pub side_faults : Outline → Option ℕ → Used → List Fault
side_faults o None role = []
side_faults o (Some channel) role = role_faults o channel role

abbrev pub point_faults : Outline → Point → List Fault
point_faults o p = twices_faults o p.names ++ dims_faults o p.dims p.place
    ++ use_faults o sort.Channel p.channel
    ++ side_faults o (declaration_of o sort.Channel p.channel) p.role

-- headers
abbrev pub header_faults : Outline → Header → List Fault
header_faults o h =
    twice_faults o h.name ++ flat_map (vardef_faults o) h.params ++ flat_map (point_faults o) h.points
    ++ flat_map (vardef_faults o) h.exports

-- module variables: those of the specification are of systems, those of bodies are not
abbrev pub is_system : Option Entry → Bool
is_system None = false
is_system (Some e) = e.system

-- whether an owner may have modules of a header with this attribute
abbrev pub may_own : Owner → Bool → Bool
may_own owners.Specification system = system
may_own owners.Body system = not system

abbrev pub attribute_faults : Outline → Owner → Option ℕ → ℕ → List Fault
attribute_faults o owner None place = []
attribute_faults o owner (Some p) place =
    if may_own owner (is_system (entry_at o p)) then [] else broken place WrongAttribute

abbrev pub modvar_faults : Outline → Owner → ModvarDef → List Fault
modvar_faults o owner m = twices_faults o m.names ++ dims_faults o m.dims m.place
    ++ use_faults o sort.Header m.header
    ++ attribute_faults o owner (declaration_of o sort.Header m.header) m.header.place

-- state sets
abbrev pub stateset_faults : Outline → StateSet → List Fault
stateset_faults o s = twice_faults o s.name ++ uses_faults o sort.State s.states

-- formals of a routine with this result: a function has one, and no formals by place. The word
-- `var` stands before the first name.
abbrev pub word_place : List Used → ℕ
word_place [] = 0
word_place (u ∷ us) = u.place - 1

abbrev pub formal_faults : Outline → Option Used → Formal → List Fault
formal_faults o result f = twices_faults o f.names ++ type_faults o f.kind
    ++ broken_if (is_some result && f.by_place) (word_place f.names) NotInFunction

-- the `any` variables of a transition
abbrev pub chosen_faults : Outline → VarDef → List Fault
chosen_faults o v = twices_faults o v.names

abbrev pub clause_faults : Outline → Clause → List Fault
clause_faults o (clause.Any names place) = flat_map (chosen_faults o) names
clause_faults o _ = []

-- a body that has states needs a first one
abbrev pub row_has_states : {n : _} → Row_of-Part n → Bool
row_has_states end_of-Part = false
row_has_states (more_of-Part (part.States us) rest) = true
row_has_states (more_of-Part _ rest) = row_has_states rest

abbrev pub names_first : Held-Body-first → Bool
names_first first.None' = false
names_first (first.Some' to a parts statements place) = is_some to

abbrev pub first_state_faults : Bool → Bool → ℕ → List Fault
first_state_faults states named place = broken_if (states && not named) place NoFirstState

-- What the parts of an owner break.
abbrev mutual
  pub part_faults : Outline → Owner → Part → List Fault
  part_faults o owner (part.Consts cs) = flat_map (constdef_faults o) cs
  part_faults o owner (part.Types ts) = flat_map (typedef_faults o) ts
  part_faults o owner (part.Channel c) = channel_faults o c
  part_faults o owner (part.Header h) = header_faults o h
  part_faults o owner (part.Body (Body' name header a parts f b groups)) =
      twice_faults o name ++ row_faults o owners.Body parts
      ++ first_faults o f ++ row_groups_faults o groups
      ++ first_state_faults (row_has_states parts) (names_first f) name.place
      ++ scalars_faults (row_scalars o 0 parts) name.place
  part_faults o owner (part.Modvars ms) = flat_map (modvar_faults o owner) ms
  part_faults o owner (part.Points ps) = flat_map (point_faults o) ps
  part_faults o owner (part.Vars vs) = flat_map (vardef_faults o) vs
  part_faults o owner (part.States us) = twices_faults o us
  part_faults o owner (part.StateSets ss) = flat_map (stateset_faults o) ss
  part_faults o owner (part.Routine' name formals result a parts statements place) =
      twice_faults o name ++ flat_map (formal_faults o result) formals
      ++ option_map_or (type_faults o) result [] ++ row_faults o owners.Body parts
      ++ scalars_faults (row_scalars o 0 parts) name.place

  pub row_faults : Outline → Owner → {n : _} → Row_of-Part n → List Fault
  row_faults o owner end_of-Part = []
  row_faults o owner (more_of-Part p rest) = part_faults o owner p ++ row_faults o owner rest

  pub first_faults : Outline → Held-Body-first → List Fault
  first_faults o first.None' = []
  first_faults o (first.Some' to a parts statements place) = row_faults o owners.Body parts

  pub row_groups_faults : Outline → {n : _} → Row_of-Group n → List Fault
  row_groups_faults o end_of-Group = []
  row_groups_faults o (more_of-Group (Group' a transitions) rest) =
      row_transitions_faults o transitions ++ row_groups_faults o rest

  pub row_transitions_faults : Outline → {n : _} → Row_of-Transition n → List Fault
  row_transitions_faults o end_of-Transition = []
  row_transitions_faults o (more_of-Transition cs name a parts statements place rest) =
      (flat_map (clause_faults o) cs ++ row_faults o owners.Body parts) ++ row_transitions_faults o rest

-- all that the declarations of a specification break
abbrev pub declaration_faults : Spec → List Fault
declaration_faults s = flat_map (part_faults (outline_of s) owners.Specification) s.parts
