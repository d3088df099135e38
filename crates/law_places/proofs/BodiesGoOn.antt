-- How far statements, transitions, bodies and routines go.
use Rattle.std.proofs.Common.{ℕ, suc, ◌≤◌, List, Option, Some, None, arith}
use Rattle.est_syntax.specs.declared.name.Used.{Used}
use Rattle.est_syntax.specs.declared.statement.Statement.{Statement, Row_of-Statement}
use Rattle.est_syntax.specs.declared.statement.Statement.{end_of-Statement, more_of-Statement}
use Rattle.est_syntax.specs.declared.statement.Statement.{Row_of-Arm, end_of-Arm, more_of-Arm}
use Rattle.est_syntax.specs.declared.statement.Statement.{Held-Statement-If-2}
use Rattle.est_syntax.specs.declared.statement.Statement.TheVariants as statement
use Rattle.est_syntax.specs.declared.statement.Statement.TheBlock as held
use Rattle.est_syntax.specs.declared.transition.Clause.{Clause}
use Rattle.est_syntax.specs.declared.transition.Clause.TheVariants as clauses
use Rattle.est_syntax.specs.declared.body.Part.{Part, Row_of-Part, end_of-Part, more_of-Part}
use Rattle.est_syntax.specs.declared.body.Part.TheVariants as part
use Rattle.est_syntax.specs.declared.body.Body.{Body', Row_of-Group, end_of-Group}
use Rattle.est_syntax.specs.declared.body.Body.{more_of-Group, Held-Body-first}
use Rattle.est_syntax.specs.declared.body.Part.TheBlock as first
use Rattle.est_syntax.specs.declared.transition.Group.{Group', Row_of-Transition}
use Rattle.est_syntax.specs.declared.transition.Group.{end_of-Transition, more_of-Transition}
use Rattle.law_places.proofs.Placed.{ConstantPlaced, constant_on, names_on}
use Rattle.law_places.proofs.PlacedParts.{InOrder, ConstDefPlaced, TypeDefPlaced}
use Rattle.law_places.proofs.PlacedParts.{PointPlaced, ModvarPlaced}
use Rattle.law_places.proofs.PlacedParts.{StateSetPlaced, FormalPlaced}
use Rattle.law_places.proofs.Declaring.{order_on, constdef_on, typedef_on, vars_on}
use Rattle.law_places.proofs.Declaring.{by_parts_on, point_on, modvar_on, stateset_on, formal_on}
use Rattle.law_places.proofs.Declaring.{merged_on, short_on}
use Rattle.law_places.proofs.PlacedBodies.{NamePlaced, StatementPlaced, StatementsPlaced}
use Rattle.law_places.proofs.PlacedBodies.{SecondPlaced, ArmsPlaced, ClausePlaced, PartPlaced}
use Rattle.law_places.proofs.PlacedBodies.{PartsPlaced, FirstPlaced, GroupsPlaced}
use Rattle.law_places.proofs.PlacedBodies.{TransitionsPlaced}

pub name_on : (i j : ℕ) (u : Option Used) → NamePlaced i j u → i ≤ j
name_on i j None h = h
name_on i j (Some u) h = omega (arith, h.0, h.1)

pub one_constant_on : (i j : ℕ) (c : _) → ConstantPlaced i j c → i ≤ j
one_constant_on i j c h = omega (arith, constant_on i j c h)

mutual
  pub statement_on : (i j : ℕ) (s : Statement) → StatementPlaced i j s → i ≤ j
  statement_on i j (statement.Compound' a turn place) h =
      omega (arith, h.0, statements_on place j turn h.1)
  statement_on i j (statement.If' condition a first second place) h =
      omega (arith, h.2, h.3, statements_on h.0 h.1 first h.4, second_on h.1 j second h.5)
  statement_on i j (statement.Case' value a arms place) h =
      omega (arith, h.1, h.2, arms_on h.0 j arms h.3)
  statement_on i j (statement.While' condition a turn place) h =
      omega (arith, h.1, h.2, statements_on h.0 j turn h.3)
  statement_on i j (statement.Repeat' a turn until place) h =
      omega (arith, h.1, statements_on place h.0 turn h.2, h.3, h.4)
  statement_on i j (statement.For' name from down to a turn place) h =
      omega (arith, h.1, h.2, statements_on h.0 j turn h.3)
  statement_on i j (statement.All' name over a turn place) h =
      omega (arith, h.1, h.2, short_on (suc name.place) h.0 over h.3, statements_on h.0 j turn h.4)
  statement_on i j (statement.Attach own child point place) h = omega (arith, h.0, h.1, h.2)
  statement_on i j _ h = omega (arith, h.0, h.1)

  pub statements_on : (i j : ℕ) {n : _} (row : Row_of-Statement n) → StatementsPlaced i j row
      → i ≤ j
  statements_on i j end_of-Statement h = h
  statements_on i j (more_of-Statement s rest) h =
      omega (arith, statement_on i h.0 s h.1, statements_on h.0 j rest h.2)

  pub second_on : (i j : ℕ) (s : Held-Statement-If-2) → SecondPlaced i j s → i ≤ j
  second_on i j held.None' h = h
  second_on i j (held.Some' a second) h = statements_on i j second h

  pub arms_on : (i j : ℕ) {n : _} (row : Row_of-Arm n) → ArmsPlaced i j row → i ≤ j
  arms_on i j end_of-Arm h = h
  arms_on i j (more_of-Arm constants s rest) h =
      omega (
        arith,
        order_on ConstantPlaced one_constant_on i h.0 constants h.2,
        statement_on h.0 h.1 s h.3,
        arms_on h.1 j rest h.4,
      )

pub turn_on : (i j : ℕ) (ss : List Statement) → InOrder StatementPlaced i j ss → i ≤ j
turn_on i j ss h = order_on StatementPlaced statement_on i j ss h

pub clause_on : (i j : ℕ) (c : Clause) → ClausePlaced i j c → i ≤ j
clause_on i j (clauses.Any names place) h = omega (arith, h.0, vars_on place j names h.1)
clause_on i j (clauses.From states place) h = omega (arith, h.0, h.1)
clause_on i j (clauses.To state place) h = omega (arith, h.0, h.1)
clause_on i j (clauses.When at signal place) h = omega (arith, h.0, h.1)
clause_on i j (clauses.Provided condition place) h = omega (arith, h.0, h.1)
clause_on i j (clauses.Otherwise place) h = omega (arith, h.0, h.1)
clause_on i j (clauses.Priority value place) h = omega (arith, h.0, h.1)
clause_on i j (clauses.Delay least most place) h = omega (arith, h.0, h.1)

pub clauses_on : (i j : ℕ) (cs : List Clause) → InOrder ClausePlaced i j cs → i ≤ j
clauses_on i j cs h = order_on ClausePlaced clause_on i j cs h

mutual
  pub part_on : (i j : ℕ) (p : Part) → PartPlaced i j p → i ≤ j
  part_on i j (part.Consts cs) h = order_on ConstDefPlaced constdef_on i j cs h
  part_on i j (part.Types ts) h = order_on TypeDefPlaced typedef_on i j ts h
  part_on i j (part.Channel c) h =
      omega (arith, h.1, names_on (suc c.name.place) h.0 c.roles h.2, by_parts_on h.0 j c.by h.3)
  part_on i j (part.Header x) h =
      omega (arith, h.1, vars_on (suc x.name.place) h.0 x.params h.2, merged_on h.3)
  part_on i j (part.Body (Body' name header a parts f b groups)) h =
      omega (
        arith,
        h.2,
        h.3,
        parts_on (suc header.place) h.0 parts h.4,
        first_on h.0 h.1 f h.5,
        groups_on h.1 j groups h.6,
      )
  part_on i j (part.Modvars ms) h = order_on ModvarPlaced modvar_on i j ms h
  part_on i j (part.Points ps) h = order_on PointPlaced point_on i j ps h
  part_on i j (part.Vars vs) h = vars_on i j vs h
  part_on i j (part.States us) h = names_on i j us h
  part_on i j (part.StateSets ss) h = order_on StateSetPlaced stateset_on i j ss h
  part_on i j (part.Routine' name formals result a parts statements place) h =
      omega (
        arith,
        h.3,
        order_on FormalPlaced formal_on (suc name.place) h.0 formals h.4,
        name_on h.0 h.1 result h.5,
        parts_on h.1 h.2 parts h.6,
        h.7,
        turn_on place j statements h.8,
      )

  pub parts_on : (i j : ℕ) {n : _} (row : Row_of-Part n) → PartsPlaced i j row → i ≤ j
  parts_on i j end_of-Part h = h
  parts_on i j (more_of-Part p rest) h =
      omega (arith, part_on i h.0 p h.1, parts_on h.0 j rest h.2)

  pub first_on : (i j : ℕ) (f : Held-Body-first) → FirstPlaced i j f → i ≤ j
  first_on i j first.None' h = h
  first_on i j (first.Some' to a parts statements place) h =
      omega (
        arith,
        name_on i h.0 to h.2,
        parts_on h.0 h.1 parts h.3,
        h.4,
        turn_on place j statements h.5,
      )

  pub groups_on : (i j : ℕ) {n : _} (row : Row_of-Group n) → GroupsPlaced i j row → i ≤ j
  groups_on i j end_of-Group h = h
  groups_on i j (more_of-Group (Group' a transitions) rest) h =
      omega (arith, transitions_on i h.0 transitions h.1, groups_on h.0 j rest h.2)

  pub transitions_on : (i j : ℕ) {n : _} (row : Row_of-Transition n) → TransitionsPlaced i j row
      → i ≤ j
  transitions_on i j end_of-Transition h = h
  transitions_on i j (more_of-Transition cs name a parts statements place rest) h =
      omega (
        arith,
        clauses_on i h.0 cs h.4,
        h.5,
        parts_on h.1 h.2 parts h.6,
        h.7,
        turn_on place h.3 statements h.8,
        transitions_on h.3 j rest h.9,
      )
