-- Trees as they are spelled: each name that a declaration of it declares is plain, and each code of
-- a constant is one of a character.
use Rattle.std.proofs.Common.{◌≤◌}
use Rattle.est_syntax.specs.Names.{spelled}
use Rattle.est_syntax.specs.declared.name.Used.{Used}
use Rattle.est_syntax.specs.declared.constant.Constant.{Constant}
use Rattle.est_syntax.specs.declared.constant.Constant.TheVariants as constants
use Rattle.est_syntax.specs.declared.constant.ConstDef.{ConstDef}
use Rattle.est_syntax.specs.declared.type_text.TypeText.{TypeText, Row_of-TypeText, end_of-TypeText}
use Rattle.est_syntax.specs.declared.type_text.TypeText.{more_of-TypeText, Row_of-VarDef}
use Rattle.est_syntax.specs.declared.type_text.TypeText.{end_of-VarDef, more_of-VarDef}
use Rattle.est_syntax.specs.declared.type_text.TypeText.TheVariants as text
use Rattle.est_syntax.specs.declared.type_text.TypeDef.{TypeDef}
use Rattle.est_syntax.specs.declared.type_text.VarDef.{VarDef}
use Rattle.est_syntax.specs.declared.channel.InteractionDef.{InteractionDef}
use Rattle.est_syntax.specs.declared.channel.ByPart.{ByPart}
use Rattle.est_syntax.specs.declared.channel.Channel.{Channel}
use Rattle.est_syntax.specs.declared.header.Point.{Point}
use Rattle.est_syntax.specs.declared.header.Header.{Header}
use Rattle.est_syntax.specs.declared.header.ModvarDef.{ModvarDef}
use Rattle.est_syntax.specs.declared.routine.Formal.{Formal}
use Rattle.est_syntax.specs.declared.statement.Statement.{Statement, Row_of-Statement}
use Rattle.est_syntax.specs.declared.statement.Statement.{end_of-Statement, more_of-Statement}
use Rattle.est_syntax.specs.declared.statement.Statement.{Row_of-Arm, end_of-Arm, more_of-Arm}
use Rattle.est_syntax.specs.declared.statement.Statement.{Held-Statement-If-2}
use Rattle.est_syntax.specs.declared.statement.Statement.TheBlock as held
use Rattle.est_syntax.specs.declared.statement.Statement.TheVariants as statement
use Rattle.est_syntax.specs.declared.transition.Clause.{Clause}
use Rattle.est_syntax.specs.declared.transition.Clause.TheVariants as clauses
use Rattle.est_syntax.specs.declared.body.StateSet.{StateSet}
use Rattle.est_syntax.specs.declared.body.Part.{Part, Row_of-Part, end_of-Part, more_of-Part}
use Rattle.est_syntax.specs.declared.body.Part.TheBlock as first
use Rattle.est_syntax.specs.declared.body.Part.TheVariants as part
use Rattle.est_syntax.specs.declared.body.Body.{Body', Row_of-Group, end_of-Group}
use Rattle.est_syntax.specs.declared.body.Body.{more_of-Group, Held-Body-first}
use Rattle.est_syntax.specs.declared.transition.Group.{Group', Row_of-Transition}
use Rattle.est_syntax.specs.declared.transition.Group.{end_of-Transition, more_of-Transition}
use Rattle.law_places.specs.Said.{Each}
use Rattle.law_texts.specs.PlainNames.{IsPlainName}

-- names
abbrev pub IsSpelt : Used → Type 0
IsSpelt u = IsPlainName (spelled u)

-- constants
abbrev pub CodeFits : Constant → Type 0
CodeFits (constants.Character code place) = code ≤ 127
CodeFits _ = Unit {0}

abbrev pub ConstDefSpelt : ConstDef → Type 0
ConstDefSpelt c = IsSpelt c.name × CodeFits c.value

-- the texts of types
abbrev mutual
  pub TextSpelt : TypeText → Type 0
  TextSpelt (text.Named u) = Unit {0}
  TextSpelt (text.Range low high) = CodeFits low × CodeFits high
  TextSpelt (text.Names names place) = Each IsSpelt names
  TextSpelt (text.Array' a index b of place) = RowSpelt index × RowSpelt of
  TextSpelt (text.Fields' a defs place) = FieldsSpelt defs
  TextSpelt (text.Set' a of place) = RowSpelt of

  pub RowSpelt : {n : _} → Row_of-TypeText n → Type 0
  RowSpelt end_of-TypeText = Unit {0}
  RowSpelt (more_of-TypeText t rest) = TextSpelt t × RowSpelt rest

  pub FieldsSpelt : {n : _} → Row_of-VarDef n → Type 0
  FieldsSpelt end_of-VarDef = Unit {0}
  FieldsSpelt (more_of-VarDef names t rest) =
      Each IsSpelt names × TextSpelt t × FieldsSpelt rest

-- those that are short: names of types, and ranges
abbrev pub ShortSpelt : TypeText → Type 0
ShortSpelt (text.Named u) = Unit {0}
ShortSpelt (text.Range low high) = CodeFits low × CodeFits high
ShortSpelt _ = ⊥

-- types and variables
abbrev pub TypeDefSpelt : TypeDef → Type 0
TypeDefSpelt t = IsSpelt t.name × TextSpelt t.text

abbrev pub VarDefSpelt : VarDef → Type 0
VarDefSpelt v = Each IsSpelt v.names × TextSpelt v.text

-- channels
abbrev pub InteractionSpelt : InteractionDef → Type 0
InteractionSpelt i = IsSpelt i.name × Each VarDefSpelt i.params

abbrev pub ByPartSpelt : ByPart → Type 0
ByPartSpelt b = Each InteractionSpelt b.interactions

abbrev pub ChannelSpelt : Channel → Type 0
ChannelSpelt c = IsSpelt c.name × Each IsSpelt c.roles × Each ByPartSpelt c.by

-- interaction points, module variables and headers
abbrev pub PointSpelt : Point → Type 0
PointSpelt p = Each IsSpelt p.names × Each ShortSpelt p.dims

abbrev pub ModvarSpelt : ModvarDef → Type 0
ModvarSpelt m = Each IsSpelt m.names × Each ShortSpelt m.dims

abbrev pub HeaderSpelt : Header → Type 0
HeaderSpelt h = IsSpelt h.name × Each VarDefSpelt h.params × Each PointSpelt h.points
    × Each VarDefSpelt h.exports

-- state sets and formals
abbrev pub StateSetSpelt : StateSet → Type 0
StateSetSpelt s = IsSpelt s.name

abbrev pub FormalSpelt : Formal → Type 0
FormalSpelt f = Each IsSpelt f.names

-- the names of `all` within a statement
abbrev mutual
  pub StatementSpelt : Statement → Type 0
  StatementSpelt (statement.Compound' a turn place) = StatementsSpelt turn
  StatementSpelt (statement.If' condition a one second place) =
      StatementsSpelt one × SecondSpelt second
  StatementSpelt (statement.Case' value a arms place) = ArmsSpelt arms
  StatementSpelt (statement.While' condition a turn place) = StatementsSpelt turn
  StatementSpelt (statement.Repeat' a turn until place) = StatementsSpelt turn
  StatementSpelt (statement.For' name from down to a turn place) = StatementsSpelt turn
  StatementSpelt (statement.All' name over a turn place) =
      IsSpelt name × ShortSpelt over × StatementsSpelt turn
  StatementSpelt _ = Unit {0}

  pub StatementsSpelt : {n : _} → Row_of-Statement n → Type 0
  StatementsSpelt end_of-Statement = Unit {0}
  StatementsSpelt (more_of-Statement s rest) = StatementSpelt s × StatementsSpelt rest

  pub SecondSpelt : Held-Statement-If-2 → Type 0
  SecondSpelt held.None' = Unit {0}
  SecondSpelt (held.Some' a second) = StatementsSpelt second

  pub ArmsSpelt : {n : _} → Row_of-Arm n → Type 0
  ArmsSpelt end_of-Arm = Unit {0}
  ArmsSpelt (more_of-Arm constants s rest) = StatementSpelt s × ArmsSpelt rest

-- the `any` variables of a clause
abbrev pub ClauseSpelt : Clause → Type 0
ClauseSpelt (clauses.Any names place) = Each VarDefSpelt names
ClauseSpelt _ = Unit {0}

-- the parts of a specification
abbrev mutual
  pub PartSpelt : Part → Type 0
  PartSpelt (part.Consts cs) = Each ConstDefSpelt cs
  PartSpelt (part.Types ts) = Each TypeDefSpelt ts
  PartSpelt (part.Channel c) = ChannelSpelt c
  PartSpelt (part.Header h) = HeaderSpelt h
  PartSpelt (part.Body (Body' name header a parts f b groups)) =
      IsSpelt name × PartsSpelt parts × FirstSpelt f × GroupsSpelt groups
  PartSpelt (part.Modvars ms) = Each ModvarSpelt ms
  PartSpelt (part.Points ps) = Each PointSpelt ps
  PartSpelt (part.Vars vs) = Each VarDefSpelt vs
  PartSpelt (part.States us) = Each IsSpelt us
  PartSpelt (part.StateSets ss) = Each StateSetSpelt ss
  PartSpelt (part.Routine' name formals result a parts statements place) =
      IsSpelt name × Each FormalSpelt formals × PartsSpelt parts × Each StatementSpelt statements

  pub PartsSpelt : {n : _} → Row_of-Part n → Type 0
  PartsSpelt end_of-Part = Unit {0}
  PartsSpelt (more_of-Part p rest) = PartSpelt p × PartsSpelt rest

  pub FirstSpelt : Held-Body-first → Type 0
  FirstSpelt first.None' = Unit {0}
  FirstSpelt (first.Some' to a parts statements place) =
      PartsSpelt parts × Each StatementSpelt statements

  pub GroupsSpelt : {n : _} → Row_of-Group n → Type 0
  GroupsSpelt end_of-Group = Unit {0}
  GroupsSpelt (more_of-Group (Group' a transitions) rest) =
      TransitionsSpelt transitions × GroupsSpelt rest

  pub TransitionsSpelt : {n : _} → Row_of-Transition n → Type 0
  TransitionsSpelt end_of-Transition = Unit {0}
  TransitionsSpelt (more_of-Transition cs name a parts statements place rest) =
      Each ClauseSpelt cs × PartsSpelt parts × Each StatementSpelt statements
      × TransitionsSpelt rest
