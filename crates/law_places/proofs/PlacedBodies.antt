-- Where statements, transitions, bodies and routines stand, as these are made of rows.
use Rattle.std.proofs.Common.{ℕ, suc, ◌<◌, ◌≤◌, Option, Some, None}
use Rattle.est_syntax.specs.declared.name.Used.{Used}
use Rattle.est_syntax.specs.declared.statement.Statement.{Statement, Row_of-Statement}
use Rattle.est_syntax.specs.declared.statement.Statement.{end_of-Statement, more_of-Statement}
use Rattle.est_syntax.specs.declared.statement.Statement.{Row_of-Arm, end_of-Arm, more_of-Arm}
use Rattle.est_syntax.specs.declared.statement.Statement.{Held-Statement-If-2}
use Rattle.est_syntax.specs.declared.statement.Statement.TheVariants as statement
use Rattle.est_syntax.specs.declared.statement.Statement.TheBlock as held
use Rattle.est_syntax.specs.declared.transition.Clause.{Clause}
use Rattle.est_syntax.specs.declared.transition.Clause.TheVariants as clauses
use Rattle.est_syntax.specs.declared.body.Part.{Part, Row_of-Part, end_of-Part, more_of-Part}
use Rattle.est_syntax.specs.declared.body.Part.TheVariants as part
use Rattle.est_syntax.specs.declared.body.Body.{Body', Row_of-Group, end_of-Group}
use Rattle.est_syntax.specs.declared.body.Body.{more_of-Group, Held-Body-first}
use Rattle.est_syntax.specs.declared.body.Part.TheBlock as first
use Rattle.est_syntax.specs.declared.transition.Group.{Group', Row_of-Transition}
use Rattle.est_syntax.specs.declared.transition.Group.{end_of-Transition, more_of-Transition}
use Rattle.rule_uses.specs.NamesInStatements.{statements_names}
use Rattle.rule_declares.specs.Bodies.{statement_place, expr_place}
use Rattle.law_places.proofs.Placed.{NamesPlaced, ConstantPlaced, ShortPlaced}
use Rattle.law_places.proofs.PlacedParts.{InOrder, ConstDefPlaced, TypeDefPlaced, VarDefPlaced}
use Rattle.law_places.proofs.PlacedParts.{ChannelPlaced, PointPlaced, ModvarPlaced, HeaderPlaced}
use Rattle.law_places.proofs.PlacedParts.{StateSetPlaced, FormalPlaced}
use Rattle.law_places.proofs.UsesInExpressions.{AreBefore}

-- a name that may be left out
abbrev pub NamePlaced : ℕ → ℕ → Option Used → Type 0
NamePlaced i j None = i ≤ j
NamePlaced i j (Some u) = (i ≤ u.place) × (u.place < j)

-- statements, and the statements and constants within them
abbrev mutual
  pub StatementPlaced : ℕ → ℕ → Statement → Type 0
  StatementPlaced i j (statement.Compound' a turn place) =
      (i ≤ place) × StatementsPlaced place j turn
  StatementPlaced i j (statement.If' condition a first second place) =
      (k : ℕ) × (m : ℕ) × (i ≤ place) × (place ≤ k) × StatementsPlaced k m first
      × SecondPlaced m j second
  StatementPlaced i j (statement.Case' value a arms place) =
      (k : ℕ) × (i ≤ place) × (place ≤ k) × ArmsPlaced k j arms
  StatementPlaced i j (statement.While' condition a turn place) =
      (k : ℕ) × (i ≤ place) × (place ≤ k) × StatementsPlaced k j turn
  StatementPlaced i j (statement.Repeat' a turn until place) =
      (k : ℕ) × (i ≤ place) × StatementsPlaced place k turn × (k ≤ expr_place until)
      × (expr_place until ≤ j)
  StatementPlaced i j (statement.For' name from down to a turn place) =
      (k : ℕ) × (i ≤ place) × (place ≤ k) × StatementsPlaced k j turn
  StatementPlaced i j (statement.All' name over a turn place) =
      (k : ℕ) × (i ≤ place) × (place ≤ name.place) × ShortPlaced (suc name.place) k over
      × StatementsPlaced k j turn
  StatementPlaced i j (statement.Attach own child point place) =
      (i ≤ place) × (place ≤ child.name.place) × (child.name.place < j)
  StatementPlaced i j s = (i ≤ statement_place s) × (statement_place s ≤ j)

  pub StatementsPlaced : ℕ → ℕ → {n : _} → Row_of-Statement n → Type 0
  StatementsPlaced i j end_of-Statement = i ≤ j
  StatementsPlaced i j (more_of-Statement s rest) =
      (k : ℕ) × StatementPlaced i k s × StatementsPlaced k j rest

  pub SecondPlaced : ℕ → ℕ → Held-Statement-If-2 → Type 0
  SecondPlaced i j held.None' = i ≤ j
  SecondPlaced i j (held.Some' a second) = StatementsPlaced i j second

  pub ArmsPlaced : ℕ → ℕ → {n : _} → Row_of-Arm n → Type 0
  ArmsPlaced i j end_of-Arm = i ≤ j
  ArmsPlaced i j (more_of-Arm constants s rest) =
      (k : ℕ) × (m : ℕ) × InOrder ConstantPlaced i k constants × StatementPlaced k m s
      × ArmsPlaced m j rest

-- a clause
abbrev pub ClausePlaced : ℕ → ℕ → Clause → Type 0
ClausePlaced i j (clauses.From states place) = (i ≤ place) × (place ≤ j)
ClausePlaced i j (clauses.To state place) = (i ≤ place) × (place ≤ j)
ClausePlaced i j (clauses.When at signal place) = (i ≤ place) × (place ≤ j)
ClausePlaced i j (clauses.Provided condition place) = (i ≤ place) × (place ≤ j)
ClausePlaced i j (clauses.Otherwise place) = (i ≤ place) × (place ≤ j)
ClausePlaced i j (clauses.Any names place) = (i ≤ place) × InOrder VarDefPlaced place j names
ClausePlaced i j (clauses.Priority value place) = (i ≤ place) × (place ≤ j)
ClausePlaced i j (clauses.Delay least most place) = (i ≤ place) × (place ≤ j)

-- the parts of a block: constants, types and variables
abbrev pub IsOfBlock : Part → Type 0
IsOfBlock (part.Consts cs) = Unit {0}
IsOfBlock (part.Types ts) = Unit {0}
IsOfBlock (part.Vars vs) = Unit {0}
IsOfBlock _ = ⊥

abbrev pub AreOfBlock : {n : _} → Row_of-Part n → Type 0
AreOfBlock end_of-Part = Unit {0}
AreOfBlock (more_of-Part p rest) = IsOfBlock p × AreOfBlock rest

-- parts, and what they are made of
abbrev mutual
  pub PartPlaced : ℕ → ℕ → Part → Type 0
  PartPlaced i j (part.Consts cs) = InOrder ConstDefPlaced i j cs
  PartPlaced i j (part.Types ts) = InOrder TypeDefPlaced i j ts
  PartPlaced i j (part.Channel c) = ChannelPlaced i j c
  PartPlaced i j (part.Header h) = HeaderPlaced i j h
  PartPlaced i j (part.Body (Body' name header a parts f b groups)) =
      (k : ℕ) × (m : ℕ) × (i ≤ name.place) × (name.place < header.place)
      × PartsPlaced (suc header.place) k parts × FirstPlaced k m f × GroupsPlaced m j groups
  PartPlaced i j (part.Modvars ms) = InOrder ModvarPlaced i j ms
  PartPlaced i j (part.Points ps) = InOrder PointPlaced i j ps
  PartPlaced i j (part.Vars vs) = InOrder VarDefPlaced i j vs
  PartPlaced i j (part.States us) = NamesPlaced i j us
  PartPlaced i j (part.StateSets ss) = InOrder StateSetPlaced i j ss
  PartPlaced i j (part.Routine' name formals result a parts statements place) =
      (k : ℕ) × (l : ℕ) × (m : ℕ) × (i ≤ name.place)
      × InOrder FormalPlaced (suc name.place) k formals × NamePlaced k l result
      × PartsPlaced l m parts × (m ≤ place) × InOrder StatementPlaced place j statements
      × AreOfBlock parts × AreBefore j (statements_names statements)

  pub PartsPlaced : ℕ → ℕ → {n : _} → Row_of-Part n → Type 0
  PartsPlaced i j end_of-Part = i ≤ j
  PartsPlaced i j (more_of-Part p rest) = (k : ℕ) × PartPlaced i k p × PartsPlaced k j rest

  pub FirstPlaced : ℕ → ℕ → Held-Body-first → Type 0
  FirstPlaced i j first.None' = i ≤ j
  FirstPlaced i j (first.Some' to a parts statements place) =
      (k : ℕ) × (m : ℕ) × NamePlaced i k to × PartsPlaced k m parts × (m ≤ place)
      × InOrder StatementPlaced place j statements × AreOfBlock parts

  pub GroupsPlaced : ℕ → ℕ → {n : _} → Row_of-Group n → Type 0
  GroupsPlaced i j end_of-Group = i ≤ j
  GroupsPlaced i j (more_of-Group (Group' a transitions) rest) =
      (k : ℕ) × TransitionsPlaced i k transitions × GroupsPlaced k j rest

  pub TransitionsPlaced : ℕ → ℕ → {n : _} → Row_of-Transition n → Type 0
  TransitionsPlaced i j end_of-Transition = i ≤ j
  TransitionsPlaced i j (more_of-Transition cs name a parts statements place rest) =
      (k : ℕ) × (l : ℕ) × (m : ℕ) × (n : ℕ) × InOrder ClausePlaced i k cs × (k ≤ l)
      × PartsPlaced l m parts × (m ≤ place) × InOrder StatementPlaced place n statements
      × TransitionsPlaced n j rest × AreOfBlock parts
