-- The names of the `all`s of a specification (ISO 9074, all-statement).
use Rattle.std.specs.Prelude.{◌≡◌, ◌⊎◌, ℕ, List, [], ◌∷◌}
use Rattle.est_syntax.specs.declared.statement.Statement.{Statement, Row_of-Statement}
use Rattle.est_syntax.specs.declared.statement.Statement.{end_of-Statement, more_of-Statement}
use Rattle.est_syntax.specs.declared.statement.Statement.{Row_of-Arm, end_of-Arm, more_of-Arm}
use Rattle.est_syntax.specs.declared.statement.Statement.{Held-Statement-If-2}
use Rattle.est_syntax.specs.declared.statement.Statement.TheBlock as held
use Rattle.est_syntax.specs.declared.statement.Statement.TheVariants as statement
use Rattle.est_syntax.specs.declared.body.Part.{Part, Row_of-Part, end_of-Part, more_of-Part}
use Rattle.est_syntax.specs.declared.body.Part.TheBlock as first
use Rattle.est_syntax.specs.declared.body.Part.TheVariants as part
use Rattle.est_syntax.specs.declared.body.Body.{Body', Row_of-Group, end_of-Group}
use Rattle.est_syntax.specs.declared.body.Body.{more_of-Group, Held-Body-first}
use Rattle.est_syntax.specs.declared.transition.Group.{Group', Row_of-Transition}
use Rattle.est_syntax.specs.declared.transition.Group.{end_of-Transition, more_of-Transition}
use Rattle.est_syntax.specs.declared.specification.Spec.{Spec}

-- at a place stands the name of an `all` of a statement: of itself, or of one within it
abbrev mutual
  pub NamesAll : Statement → ℕ → Type 0
  NamesAll (statement.Compound' a turn place) p = RowNamesAll turn p
  NamesAll (statement.If' condition a one second place) p =
      RowNamesAll one p ⊎ SecondNamesAll second p
  NamesAll (statement.Case' value a arms place) p = ArmsNameAll arms p
  NamesAll (statement.While' condition a turn place) p = RowNamesAll turn p
  NamesAll (statement.Repeat' a turn until place) p = RowNamesAll turn p
  NamesAll (statement.For' name from down to a turn place) p = RowNamesAll turn p
  NamesAll (statement.All' name over a turn place) p = (name.place ≡ p) ⊎ RowNamesAll turn p
  NamesAll _ p = ⊥

  pub RowNamesAll : {n : _} → Row_of-Statement n → ℕ → Type 0
  RowNamesAll end_of-Statement p = ⊥
  RowNamesAll (more_of-Statement s rest) p = NamesAll s p ⊎ RowNamesAll rest p

  pub SecondNamesAll : Held-Statement-If-2 → ℕ → Type 0
  SecondNamesAll held.None' p = ⊥
  SecondNamesAll (held.Some' a second) p = RowNamesAll second p

  pub ArmsNameAll : {n : _} → Row_of-Arm n → ℕ → Type 0
  ArmsNameAll end_of-Arm p = ⊥
  ArmsNameAll (more_of-Arm constants s rest) p = NamesAll s p ⊎ ArmsNameAll rest p

-- of the statements of a block
abbrev pub BlockNamesAll : List Statement → ℕ → Type 0
BlockNamesAll [] p = ⊥
BlockNamesAll (s ∷ ss) p = NamesAll s p ⊎ BlockNamesAll ss p

-- of a part: of a routine, or of the blocks of a body and of the parts within it
abbrev mutual
  pub PartNamesAll : Part → ℕ → Type 0
  PartNamesAll (part.Body (Body' name header a parts f b groups)) p =
      PartsNameAll parts p ⊎ (FirstNamesAll f p ⊎ GroupsNameAll groups p)
  PartNamesAll (part.Routine' name formals result a parts statements place) p =
      BlockNamesAll statements p
  PartNamesAll _ p = ⊥

  pub PartsNameAll : {n : _} → Row_of-Part n → ℕ → Type 0
  PartsNameAll end_of-Part p = ⊥
  PartsNameAll (more_of-Part x rest) p = PartNamesAll x p ⊎ PartsNameAll rest p

  pub FirstNamesAll : Held-Body-first → ℕ → Type 0
  FirstNamesAll first.None' p = ⊥
  FirstNamesAll (first.Some' to a parts statements place) p = BlockNamesAll statements p

  pub GroupsNameAll : {n : _} → Row_of-Group n → ℕ → Type 0
  GroupsNameAll end_of-Group p = ⊥
  GroupsNameAll (more_of-Group (Group' a transitions) rest) p =
      TransitionsNameAll transitions p ⊎ GroupsNameAll rest p

  pub TransitionsNameAll : {n : _} → Row_of-Transition n → ℕ → Type 0
  TransitionsNameAll end_of-Transition p = ⊥
  TransitionsNameAll (more_of-Transition cs name a parts statements place rest) p =
      BlockNamesAll statements p ⊎ TransitionsNameAll rest p

-- of the parts of a specification
abbrev pub ListedNameAll : List Part → ℕ → Type 0
ListedNameAll [] p = ⊥
ListedNameAll (x ∷ xs) p = PartNamesAll x p ⊎ ListedNameAll xs p

-- at a place stands the name of an `all` of a specification
abbrev pub IsOfAll : Spec → ℕ → Type 0
IsOfAll s p = ListedNameAll s.parts p
