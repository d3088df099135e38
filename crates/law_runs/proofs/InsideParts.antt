-- The targets of `attach` in the blocks of parts of a specification.
use Rattle.std.proofs.Common.{ℕ, List, [], ◌∷◌}
use Rattle.est_syntax.specs.declared.statement.Statement.{Statement}
use Rattle.est_syntax.specs.declared.body.Part.{Part, Row_of-Part}
use Rattle.est_syntax.specs.declared.body.Part.{end_of-Part, more_of-Part}
use Rattle.est_syntax.specs.declared.body.Part.TheBlock as first
use Rattle.est_syntax.specs.declared.body.Part.TheVariants as part
use Rattle.est_syntax.specs.declared.body.Body.{Body', Row_of-Group, end_of-Group}
use Rattle.est_syntax.specs.declared.body.Body.{more_of-Group, Held-Body-first}
use Rattle.est_syntax.specs.declared.transition.Group.{Group', Row_of-Transition}
use Rattle.est_syntax.specs.declared.transition.Group.{end_of-Transition, more_of-Transition}
use Rattle.rule_scope.specs.Outline.{Outline}
use Rattle.law_runs.specs.AttachTargets.{BlockTargets}
use Rattle.law_runs.specs.InsideTargets.{IsAroundOrNone}

module _ (X : ℕ → Type 0) (p : Outline) where
  -- a block: each `attach` of it names a child by the name of an `all` around it, or by none
  abbrev pub BlockInside : List Statement → Type 0
  BlockInside ss = BlockTargets p X (IsAroundOrNone X) ss

  abbrev pub FirstInside : Held-Body-first → Type 0
  FirstInside first.None' = Unit {0}
  FirstInside (first.Some' to a parts statements place) = BlockInside statements

  abbrev pub TransitionsInside : {n : _} → Row_of-Transition n → Type 0
  TransitionsInside end_of-Transition = Unit {0}
  TransitionsInside (more_of-Transition cs name a parts statements place rest) =
      BlockInside statements × TransitionsInside rest

  abbrev pub GroupsInside : {n : _} → Row_of-Group n → Type 0
  GroupsInside end_of-Group = Unit {0}
  GroupsInside (more_of-Group (Group' a transitions) rest) =
      TransitionsInside transitions × GroupsInside rest

  abbrev mutual
    pub PartInside : Part → Type 0
    PartInside (part.Body (Body' name header a parts f b groups)) =
        PartsInside parts × FirstInside f × GroupsInside groups
    PartInside (part.Routine' name formals result a parts statements place) =
        BlockInside statements
    PartInside _ = Unit {0}

    pub PartsInside : {n : _} → Row_of-Part n → Type 0
    PartsInside end_of-Part = Unit {0}
    PartsInside (more_of-Part x rest) = PartInside x × PartsInside rest

  abbrev pub ListedInside : List Part → Type 0
  ListedInside [] = Unit {0}
  ListedInside (x ∷ xs) = PartInside x × ListedInside xs
