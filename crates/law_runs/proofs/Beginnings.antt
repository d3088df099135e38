-- The statements of an initialize part or a transition begin after the place of its block.
use Rattle.std.proofs.Common.{ℕ, suc, ◌<◌, ◌≤◌, List, [], ◌∷◌, arith}
use Rattle.est_syntax.specs.declared.statement.Statement.{Statement}
use Rattle.est_syntax.specs.declared.statement.Statement.TheVariants as statement
use Rattle.est_syntax.specs.declared.body.Part.{Part, Row_of-Part, end_of-Part, more_of-Part}
use Rattle.est_syntax.specs.declared.body.Part.TheBlock as first
use Rattle.est_syntax.specs.declared.body.Part.TheVariants as part
use Rattle.est_syntax.specs.declared.body.Body.{Body', Row_of-Group, end_of-Group}
use Rattle.est_syntax.specs.declared.body.Body.{more_of-Group, Held-Body-first}
use Rattle.est_syntax.specs.declared.transition.Group.{Group', Row_of-Transition}
use Rattle.est_syntax.specs.declared.transition.Group.{end_of-Transition, more_of-Transition}
use Rattle.rule_declares.specs.Bodies.{statement_place}
use Rattle.law_places.proofs.PlacedParts.{InOrder}
use Rattle.law_places.proofs.PlacedBodies.{StatementPlaced}

-- the first of these statements, which is there, begins after a place
abbrev pub BeginAfter : ℕ → List Statement → Type 0
BeginAfter place [] = ⊥
BeginAfter place (s ∷ ss) = place < statement_place s

abbrev pub FirstBegins : Held-Body-first → Type 0
FirstBegins first.None' = Unit {0}
FirstBegins (first.Some' to a parts statements place) = BeginAfter place statements

abbrev pub TransitionsBegin : {n : _} → Row_of-Transition n → Type 0
TransitionsBegin end_of-Transition = Unit {0}
TransitionsBegin (more_of-Transition cs name a parts statements place rest) =
    BeginAfter place statements × TransitionsBegin rest

abbrev pub GroupsBegin : {n : _} → Row_of-Group n → Type 0
GroupsBegin end_of-Group = Unit {0}
GroupsBegin (more_of-Group (Group' a transitions) rest) =
    TransitionsBegin transitions × GroupsBegin rest

abbrev mutual
  pub PartBegins : Part → Type 0
  PartBegins (part.Body (Body' name header a parts f b groups)) =
      PartsBegin parts × FirstBegins f × GroupsBegin groups
  PartBegins _ = Unit {0}

  pub PartsBegin : {n : _} → Row_of-Part n → Type 0
  PartsBegin end_of-Part = Unit {0}
  PartsBegin (more_of-Part p rest) = PartBegins p × PartsBegin rest

abbrev pub ListedBegin : List Part → Type 0
ListedBegin [] = Unit {0}
ListedBegin (x ∷ xs) = PartBegins x × ListedBegin xs

-- what begins later stands from that place on
later_placed : (s : Statement) (a i j : ℕ) → StatementPlaced i j s → a ≤ statement_place s
    → StatementPlaced a j s
later_placed (statement.Compound' x turn place) a i j h l = (l, h.1)
later_placed (statement.If' condition x first second place) a i j h l =
    (h.0, h.1, l, h.3, h.4, h.5)
later_placed (statement.Case' value x arms place) a i j h l = (h.0, l, h.2, h.3)
later_placed (statement.While' condition x turn place) a i j h l = (h.0, l, h.2, h.3)
later_placed (statement.Repeat' x turn until place) a i j h l = (h.0, l, h.2, h.3, h.4)
later_placed (statement.For' name from down to x turn place) a i j h l = (h.0, l, h.2, h.3)
later_placed (statement.All' name over x turn place) a i j h l = (h.0, l, h.2, h.3, h.4)
later_placed (statement.Attach own child point place) a i j h l = (l, h.1, h.2)
later_placed _ a i j h l = (l, h.1)

pub after_place : (place j : ℕ) (ss : List Statement) → InOrder StatementPlaced place j ss
    → BeginAfter place ss → InOrder StatementPlaced (suc place) j ss
after_place place j [] h l = absurd l
after_place place j (s ∷ ss) h l =
    (h.0, later_placed s (suc place) place h.0 h.1 (omega arith), h.2)
