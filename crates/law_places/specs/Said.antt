-- What an outline has of each declaration of a tree is what it says of it as a whole.
use Rattle.std.specs.Option.{option_map}
use Rattle.std.specs.Prelude.{◌≡◌, ℕ, suc, ◌≤◌, true, List, [], ◌∷◌, Option, Some, None}
use Rattle.est_syntax.specs.Names.{spelled}
use Rattle.est_syntax.specs.declared.name.Used.{Used}
use Rattle.est_syntax.specs.declared.constant.ConstDef.{ConstDef}
use Rattle.est_syntax.specs.declared.type_text.TypeText.{TypeText, Row_of-TypeText, end_of-TypeText}
use Rattle.est_syntax.specs.declared.type_text.TypeText.{more_of-TypeText, Row_of-VarDef}
use Rattle.est_syntax.specs.declared.type_text.TypeText.{end_of-VarDef, more_of-VarDef}
use Rattle.est_syntax.specs.declared.type_text.TypeText.TheVariants as text
use Rattle.est_syntax.specs.declared.type_text.TypeDef.{TypeDef}
use Rattle.est_syntax.specs.declared.type_text.VarDef.{VarDef}
use Rattle.est_syntax.specs.declared.channel.InteractionDef.{InteractionDef}
use Rattle.est_syntax.specs.declared.channel.ByPart.{ByPart}
use Rattle.est_syntax.specs.declared.channel.Channel.{Channel}
use Rattle.est_syntax.specs.declared.header.Point.{Point}
use Rattle.est_syntax.specs.declared.header.Header.{Header}
use Rattle.est_syntax.specs.declared.header.ModvarDef.{ModvarDef}
use Rattle.est_syntax.specs.declared.routine.Formal.{Formal}
use Rattle.est_syntax.specs.declared.statement.Statement.{Statement, Row_of-Statement}
use Rattle.est_syntax.specs.declared.statement.Statement.{end_of-Statement, more_of-Statement}
use Rattle.est_syntax.specs.declared.statement.Statement.{Row_of-Arm, end_of-Arm, more_of-Arm}
use Rattle.est_syntax.specs.declared.statement.Statement.{Held-Statement-If-2}
use Rattle.est_syntax.specs.declared.statement.Statement.TheBlock as held
use Rattle.est_syntax.specs.declared.statement.Statement.TheVariants as statement
use Rattle.est_syntax.specs.declared.transition.Clause.{Clause}
use Rattle.est_syntax.specs.declared.transition.Clause.TheVariants as clauses
use Rattle.est_syntax.specs.declared.body.StateSet.{StateSet}
use Rattle.est_syntax.specs.declared.body.Part.{Part, Row_of-Part, end_of-Part, more_of-Part}
use Rattle.est_syntax.specs.declared.body.Part.TheBlock as first
use Rattle.est_syntax.specs.declared.body.Part.TheVariants as part
use Rattle.est_syntax.specs.declared.body.Body.{Body', Row_of-Group, end_of-Group}
use Rattle.est_syntax.specs.declared.body.Body.{more_of-Group, Held-Body-first}
use Rattle.est_syntax.specs.declared.transition.Group.{Group', Row_of-Transition}
use Rattle.est_syntax.specs.declared.transition.Group.{end_of-Transition, more_of-Transition}
use Rattle.est_syntax.specs.declared.specification.Spec.{Spec}
use Rattle.text_reader.specs.Shown.{node}
use Rattle.rule_scope.specs.declared.declaration.Entry.{Entry}
use Rattle.rule_scope.specs.declared.declaration.Measured.{Measured}
use Rattle.rule_scope.specs.declared.declaration.Sort.{Sort}
use Rattle.rule_scope.specs.declared.declaration.Sort.TheVariants as sort
use Rattle.rule_scope.specs.Outline.{Outline, entry_at}
use Rattle.rule_scope.specs.Uses.{declaration_of}
use Rattle.rule_kinds.specs.declared.value.Valued.{Valued}
use Rattle.rule_kinds.specs.Constants.{constant_value, value_with}
use Rattle.rule_kinds.specs.TypeTexts.{scalar, text_type, named_type, are_declared, enumeration}
use Rattle.rule_kinds.specs.Dims.{dims_of}
use Rattle.rule_declares.specs.Differing.{HaveDifferentNames}
use Rattle.rule_declares.specs.Entries.{ordinal_of}
use Rattle.rule_declares.specs.Declares.{side_of, states_named}
use Rattle.rule_declares.specs.Bodies.{over_header, body_header, outline_of}
use Rattle.text_productions.specs.Nodes.{a_specification, layer}
use Rattle.law_places.specs.PlaceOrder.{Stands}
use Rattle.law_places.specs.Grown.{most_places}

-- what is declared at the place of a name, if anything is, is so
abbrev pub IsSaid : Outline → (Entry → Type 0) → Used → Type 0
IsSaid o Q u = (e : Entry) → entry_at o u.place ≡ Some e → Q e

-- it is of a sort, and has neither a kind nor subscripts
abbrev pub IsOf : Sort → Entry → Type 0
IsOf s e = (e.declared.sort ≡ s) × (e.kind ≡ None) × (e.dims ≡ None)

-- it is of a sort, has a kind, and has no subscripts
abbrev pub HasKind : Sort → Option Measured → Entry → Type 0
HasKind s k e = (e.declared.sort ≡ s) × (e.kind ≡ k) × (e.dims ≡ None)

-- each item of a list is so
abbrev pub Each : {A : Type 0} → (A → Type 0) → List A → Type 0
Each P [] = Unit {0}
Each P (x ∷ xs) = P x × Each P xs

-- nothing is declared at the place of a name of a channel or a record
abbrev pub IsNoEntry : Outline → Used → Type 0
IsNoEntry o u = entry_at o u.place ≡ None

-- the kind of a constant with this value: the host of the value
abbrev pub host_of : Option Valued → Option Measured
host_of v = option_map (λ (x : Valued). scalar x.host) v

-- constants
abbrev pub ConstDefSaid : Outline → ConstDef → Type 0
ConstDefSaid o c = IsSaid o (λ e. (e.declared.sort ≡ sort.Constant)
    × (value_with e.kind e.ordinal ≡ constant_value o c.value)
    × (e.kind ≡ host_of (constant_value o c.value)) × (e.dims ≡ None)) c.name

-- the constants of an enumeration, numbered from i on
abbrev pub NumbersSaid : Outline → Option Measured → ℕ → List Used → Type 0
NumbersSaid o k i [] = Unit {0}
NumbersSaid o k i (u ∷ us) = IsSaid o (λ e. (e.declared.sort ≡ sort.Constant) × (e.kind ≡ k)
    × (e.ordinal ≡ ordinal_of i) × (e.dims ≡ None)) u × NumbersSaid o k (suc i) us

-- where all names of an enumeration are declared, no two are one
abbrev pub DifferDeclared : Outline → List Used → Type 0
DifferDeclared o us = are_declared o us ≡ true → HaveDifferentNames spelled us

-- the enumerations and the fields within the text of a type
abbrev mutual
  pub TextSaid : Outline → TypeText → Type 0
  TextSaid o (text.Named u) = Unit {0}
  TextSaid o (text.Range low high) = Unit {0}
  TextSaid o (text.Names names place) =
      NumbersSaid o (enumeration o names place) 0 names × DifferDeclared o names
  TextSaid o (text.Array' a index b of place) = RowSaid o index × RowSaid o of
  TextSaid o (text.Fields' a defs place) = FieldsSaid o defs
  TextSaid o (text.Set' a of place) = RowSaid o of

  pub RowSaid : Outline → {n : _} → Row_of-TypeText n → Type 0
  RowSaid o end_of-TypeText = Unit {0}
  RowSaid o (more_of-TypeText t rest) = TextSaid o t × RowSaid o rest

  pub FieldsSaid : Outline → {n : _} → Row_of-VarDef n → Type 0
  FieldsSaid o end_of-VarDef = Unit {0}
  FieldsSaid o (more_of-VarDef names t rest) =
      Each (IsNoEntry o) names × TextSaid o t × FieldsSaid o rest

-- types
abbrev pub TypeDefSaid : Outline → TypeDef → Type 0
TypeDefSaid o t = IsSaid o (HasKind sort.TypeName (text_type o t.text)) t.name × TextSaid o t.text

-- variables, parameters, exports or `any` variables
abbrev pub VarDefSaid : Outline → VarDef → Type 0
VarDefSaid o v =
    Each (IsSaid o (HasKind sort.Variable (text_type o v.text))) v.names × TextSaid o v.text

-- channels
abbrev pub InteractionSaid : Outline → InteractionDef → Type 0
InteractionSaid o i = IsNoEntry o i.name × Each (VarDefSaid o) i.params

abbrev pub ByPartSaid : Outline → ByPart → Type 0
ByPartSaid o b = Each (InteractionSaid o) b.interactions

abbrev pub ChannelSaid : Outline → Channel → Type 0
ChannelSaid o c = IsSaid o (IsOf sort.Channel) c.name × Each (IsNoEntry o) c.roles
    × Each (ByPartSaid o) c.by

-- interaction points, module variables and headers
abbrev pub PointSaid : Outline → Point → Type 0
PointSaid o p = Each (IsSaid o (λ e. (e.declared.sort ≡ sort.Point) × (e.dims ≡ dims_of o p.dims)
    × (e.side ≡ side_of o p) × (e.queue ≡ p.queue) × (e.kind ≡ None))) p.names

abbrev pub ModvarSaid : Outline → ModvarDef → Type 0
ModvarSaid o m = Each (IsSaid o (λ e. (e.declared.sort ≡ sort.ModuleVariable)
    × (e.dims ≡ dims_of o m.dims) × (e.header ≡ declaration_of o sort.Header m.header)
    × (e.kind ≡ None))) m.names

abbrev pub HeaderSaid : Outline → Header → Type 0
HeaderSaid o h = IsSaid o (IsOf sort.Header) h.name × Each (VarDefSaid o) h.params
    × Each (PointSaid o) h.points × Each (VarDefSaid o) h.exports

-- state sets and formals
abbrev pub StateSetSaid : Outline → StateSet → Type 0
StateSetSaid o s = IsSaid o (λ e. (e.declared.sort ≡ sort.StateSet)
    × (e.states ≡ Some (states_named o s.states)) × (e.kind ≡ None) × (e.dims ≡ None)) s.name

abbrev pub FormalSaid : Outline → Formal → Type 0
FormalSaid o f = Each (IsSaid o (HasKind sort.Variable (named_type o f.kind))) f.names

-- the name of a routine: the kind of a function is that of its result
abbrev pub RoutineSaid : Outline → Option Used → Entry → Type 0
RoutineSaid o None e = IsOf sort.Procedure e
RoutineSaid o (Some u) e = HasKind sort.Function (named_type o u) e

-- the name of an `all`
abbrev pub AllSaid : Outline → TypeText → Option ℕ → Entry → Type 0
AllSaid o over None e = HasKind sort.Variable (text_type o over) e
AllSaid o over (Some header) e = (e.declared.sort ≡ sort.ModuleVariable) × (e.dims ≡ Some [])
    × (e.header ≡ Some header) × (e.kind ≡ None)

-- the names of `all` within a statement
abbrev mutual
  pub StatementSaid : Outline → Statement → Type 0
  StatementSaid o (statement.Compound' a turn place) = StatementsSaid o turn
  StatementSaid o (statement.If' condition a one second place) =
      StatementsSaid o one × SecondSaid o second
  StatementSaid o (statement.Case' value a arms place) = ArmsSaid o arms
  StatementSaid o (statement.While' condition a turn place) = StatementsSaid o turn
  StatementSaid o (statement.Repeat' a turn until place) = StatementsSaid o turn
  StatementSaid o (statement.For' name from down to a turn place) = StatementsSaid o turn
  StatementSaid o (statement.All' name over a turn place) =
      IsSaid o (AllSaid o over (over_header o over)) name × StatementsSaid o turn
  StatementSaid o _ = Unit {0}

  pub StatementsSaid : Outline → {n : _} → Row_of-Statement n → Type 0
  StatementsSaid o end_of-Statement = Unit {0}
  StatementsSaid o (more_of-Statement s rest) = StatementSaid o s × StatementsSaid o rest

  pub SecondSaid : Outline → Held-Statement-If-2 → Type 0
  SecondSaid o held.None' = Unit {0}
  SecondSaid o (held.Some' a second) = StatementsSaid o second

  pub ArmsSaid : Outline → {n : _} → Row_of-Arm n → Type 0
  ArmsSaid o end_of-Arm = Unit {0}
  ArmsSaid o (more_of-Arm constants s rest) = StatementSaid o s × ArmsSaid o rest

-- the `any` variables of a clause
abbrev pub ClauseSaid : Outline → Clause → Type 0
ClauseSaid o (clauses.Any names place) = Each (VarDefSaid o) names
ClauseSaid o _ = Unit {0}

-- the name of a body, with its header
abbrev pub BodySaid : Outline → Used → Entry → Type 0
BodySaid o header e = (e.declared.sort ≡ sort.Body) × (e.header ≡ body_header o header)
    × (e.kind ≡ None) × (e.dims ≡ None)

-- what the parts of a specification declare
abbrev mutual
  pub PartSaid : Outline → Part → Type 0
  PartSaid o (part.Consts cs) = Each (ConstDefSaid o) cs
  PartSaid o (part.Types ts) = Each (TypeDefSaid o) ts
  PartSaid o (part.Channel c) = ChannelSaid o c
  PartSaid o (part.Header h) = HeaderSaid o h
  PartSaid o (part.Body (Body' name header a parts f b groups)) =
      IsSaid o (BodySaid o header) name × PartsSaid o parts × FirstSaid o f × GroupsSaid o groups
  PartSaid o (part.Modvars ms) = Each (ModvarSaid o) ms
  PartSaid o (part.Points ps) = Each (PointSaid o) ps
  PartSaid o (part.Vars vs) = Each (VarDefSaid o) vs
  PartSaid o (part.States us) = Each (IsSaid o (IsOf sort.State)) us
  PartSaid o (part.StateSets ss) = Each (StateSetSaid o) ss
  PartSaid o (part.Routine' name formals result a parts statements place) =
      IsSaid o (RoutineSaid o result) name × Each (FormalSaid o) formals × PartsSaid o parts
      × Each (StatementSaid o) statements

  pub PartsSaid : Outline → {n : _} → Row_of-Part n → Type 0
  PartsSaid o end_of-Part = Unit {0}
  PartsSaid o (more_of-Part p rest) = PartSaid o p × PartsSaid o rest

  pub FirstSaid : Outline → Held-Body-first → Type 0
  FirstSaid o first.None' = Unit {0}
  FirstSaid o (first.Some' to a parts statements place) =
      PartsSaid o parts × Each (StatementSaid o) statements

  pub GroupsSaid : Outline → {n : _} → Row_of-Group n → Type 0
  GroupsSaid o end_of-Group = Unit {0}
  GroupsSaid o (more_of-Group (Group' a transitions) rest) =
      TransitionsSaid o transitions × GroupsSaid o rest

  pub TransitionsSaid : Outline → {n : _} → Row_of-Transition n → Type 0
  TransitionsSaid o end_of-Transition = Unit {0}
  TransitionsSaid o (more_of-Transition cs name a parts statements place rest) =
      Each (ClauseSaid o) cs × PartsSaid o parts × Each (StatementSaid o) statements
      × TransitionsSaid o rest

-- of a specification that stands in order, the outline has what it says of each declaration
abbrev pub DeclarationsAreSaid : Type 0
DeclarationsAreSaid = (s : Spec) (n : ℕ) → n ≤ most_places
    → Stands layer (node (a_specification s)) 0 n → Each (PartSaid (outline_of s)) s.parts
