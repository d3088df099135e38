-- Declarations as sentences have them: the texts of their types, and the parts of their blocks.
use Rattle.std.specs.Prelude.{◌≤◌}
use Rattle.est_syntax.specs.declared.type_text.TypeDef.{TypeDef}
use Rattle.est_syntax.specs.declared.type_text.VarDef.{VarDef}
use Rattle.est_syntax.specs.declared.channel.InteractionDef.{InteractionDef}
use Rattle.est_syntax.specs.declared.channel.ByPart.{ByPart}
use Rattle.est_syntax.specs.declared.channel.Channel.{Channel}
use Rattle.est_syntax.specs.declared.header.Point.{Point}
use Rattle.est_syntax.specs.declared.header.Header.{Header}
use Rattle.est_syntax.specs.declared.header.ModvarDef.{ModvarDef}
use Rattle.est_syntax.specs.declared.statement.Statement.{Statement, Row_of-Statement}
use Rattle.est_syntax.specs.declared.statement.Statement.{end_of-Statement, more_of-Statement}
use Rattle.est_syntax.specs.declared.statement.Statement.{Row_of-Arm, end_of-Arm, more_of-Arm}
use Rattle.est_syntax.specs.declared.statement.Statement.{Held-Statement-If-2}
use Rattle.est_syntax.specs.declared.statement.Statement.TheBlock as held
use Rattle.est_syntax.specs.declared.statement.Statement.TheVariants as statement
use Rattle.est_syntax.specs.declared.transition.Clause.{Clause}
use Rattle.est_syntax.specs.declared.transition.Clause.TheVariants as clauses
use Rattle.est_syntax.specs.declared.body.Part.{Part, Row_of-Part, end_of-Part, more_of-Part}
use Rattle.est_syntax.specs.declared.body.Part.TheBlock as first
use Rattle.est_syntax.specs.declared.body.Part.TheVariants as part
use Rattle.est_syntax.specs.declared.body.Body.{Body', Row_of-Group, end_of-Group}
use Rattle.est_syntax.specs.declared.body.Body.{more_of-Group, Held-Body-first}
use Rattle.est_syntax.specs.declared.transition.Group.{Group', Row_of-Transition}
use Rattle.est_syntax.specs.declared.transition.Group.{end_of-Transition, more_of-Transition}
use Rattle.rule_declares.specs.Lasts.{text_last}
use Rattle.law_places.specs.Said.{Each}
use Rattle.law_sentences.specs.WrittenExpressions.{EachUse, HasConstants}

-- no name that the text of a type uses stands after its last place
abbrev pub TypeDefWritten : TypeDef → Type 0
TypeDefWritten t = EachUse (λ u. u.place ≤ text_last t.text) t.text × HasConstants t.text

abbrev pub VarDefWritten : VarDef → Type 0
VarDefWritten v = HasConstants v.text

-- channels
abbrev pub InteractionWritten : InteractionDef → Type 0
InteractionWritten i = Each VarDefWritten i.params

abbrev pub ByPartWritten : ByPart → Type 0
ByPartWritten b = Each InteractionWritten b.interactions

abbrev pub ChannelWritten : Channel → Type 0
ChannelWritten c = Each ByPartWritten c.by

-- interaction points, module variables and headers
abbrev pub PointWritten : Point → Type 0
PointWritten p = Each HasConstants p.dims

abbrev pub ModvarWritten : ModvarDef → Type 0
ModvarWritten m = Each HasConstants m.dims

abbrev pub HeaderWritten : Header → Type 0
HeaderWritten h =
    Each VarDefWritten h.params × Each PointWritten h.points × Each VarDefWritten h.exports

-- what an `all` within a statement goes over
abbrev mutual
  pub StatementWritten : Statement → Type 0
  StatementWritten (statement.Compound' a turn place) = StatementsWritten turn
  StatementWritten (statement.If' condition a one second place) =
      StatementsWritten one × SecondWritten second
  StatementWritten (statement.Case' value a arms place) = ArmsWritten arms
  StatementWritten (statement.While' condition a turn place) = StatementsWritten turn
  StatementWritten (statement.Repeat' a turn until place) = StatementsWritten turn
  StatementWritten (statement.For' name from down to a turn place) = StatementsWritten turn
  StatementWritten (statement.All' name over a turn place) =
      HasConstants over × StatementsWritten turn
  StatementWritten _ = Unit {0}

  pub StatementsWritten : {n : _} → Row_of-Statement n → Type 0
  StatementsWritten end_of-Statement = Unit {0}
  StatementsWritten (more_of-Statement s rest) = StatementWritten s × StatementsWritten rest

  pub SecondWritten : Held-Statement-If-2 → Type 0
  SecondWritten held.None' = Unit {0}
  SecondWritten (held.Some' a second) = StatementsWritten second

  pub ArmsWritten : {n : _} → Row_of-Arm n → Type 0
  ArmsWritten end_of-Arm = Unit {0}
  ArmsWritten (more_of-Arm constants s rest) = StatementWritten s × ArmsWritten rest

-- a clause
abbrev pub ClauseWritten : Clause → Type 0
ClauseWritten (clauses.Any names place) = Each VarDefWritten names
ClauseWritten _ = Unit {0}

-- a block declares constants, types and variables
abbrev pub BlockPartWritten : Part → Type 0
BlockPartWritten (part.Consts cs) = Unit {0}
BlockPartWritten (part.Types ts) = Each TypeDefWritten ts
BlockPartWritten (part.Vars vs) = Each VarDefWritten vs
BlockPartWritten _ = ⊥

abbrev pub BlockWritten : {n : _} → Row_of-Part n → Type 0
BlockWritten end_of-Part = Unit {0}
BlockWritten (more_of-Part p rest) = BlockPartWritten p × BlockWritten rest

-- the parts of a specification and of bodies
abbrev pub FirstWritten : Held-Body-first → Type 0
FirstWritten first.None' = Unit {0}
FirstWritten (first.Some' to a parts statements place) =
    BlockWritten parts × Each StatementWritten statements

abbrev pub TransitionsWritten : {n : _} → Row_of-Transition n → Type 0
TransitionsWritten end_of-Transition = Unit {0}
TransitionsWritten (more_of-Transition cs name a parts statements place rest) =
    Each ClauseWritten cs × BlockWritten parts × Each StatementWritten statements
    × TransitionsWritten rest

abbrev pub GroupsWritten : {n : _} → Row_of-Group n → Type 0
GroupsWritten end_of-Group = Unit {0}
GroupsWritten (more_of-Group (Group' a transitions) rest) =
    TransitionsWritten transitions × GroupsWritten rest

abbrev mutual
  pub PartWritten : Part → Type 0
  PartWritten (part.Consts cs) = Unit {0}
  PartWritten (part.Types ts) = Each TypeDefWritten ts
  PartWritten (part.Channel c) = ChannelWritten c
  PartWritten (part.Header h) = HeaderWritten h
  PartWritten (part.Body (Body' name header a parts f b groups)) =
      PartsWritten parts × FirstWritten f × GroupsWritten groups
  PartWritten (part.Modvars ms) = Each ModvarWritten ms
  PartWritten (part.Points ps) = Each PointWritten ps
  PartWritten (part.Vars vs) = Each VarDefWritten vs
  PartWritten (part.States us) = Unit {0}
  PartWritten (part.StateSets ss) = Unit {0}
  PartWritten (part.Routine' name formals result a parts statements place) =
      BlockWritten parts × Each StatementWritten statements

  pub PartsWritten : {n : _} → Row_of-Part n → Type 0
  PartsWritten end_of-Part = Unit {0}
  PartsWritten (more_of-Part p rest) = PartWritten p × PartsWritten rest
