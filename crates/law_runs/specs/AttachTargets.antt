-- Which children `attach` statements name (ISO 9074, attach-statement and all-statement).
use Rattle.std.specs.Prelude.{◌≡◌, ℕ, List, [], ◌∷◌, Some}
use Rattle.std.specs.List.{AllByRecursion}
use Rattle.est_syntax.specs.declared.body.Body.{Body, out-Body}
use Rattle.est_syntax.specs.declared.body.FirstPart.{FirstPart}
use Rattle.est_syntax.specs.declared.expression.Access.{Access}
use Rattle.est_syntax.specs.declared.routine.Routine.{Routine}
use Rattle.est_syntax.specs.declared.statement.Statement.{Statement, Row_of-Statement}
use Rattle.est_syntax.specs.declared.statement.Statement.{end_of-Statement, more_of-Statement}
use Rattle.est_syntax.specs.declared.statement.Statement.{Held-Statement-If-2}
use Rattle.est_syntax.specs.declared.statement.Statement.{Row_of-Arm, end_of-Arm, more_of-Arm}
use Rattle.est_syntax.specs.declared.statement.Statement.TheBlock as held
use Rattle.est_syntax.specs.declared.statement.Statement.TheVariants as statement
use Rattle.rule_scope.specs.Outline.{Outline}
use Rattle.mean_blocks.specs.TextByPlace.{Text, routine_at, statements_of, body_at}
use Rattle.mean_blocks.specs.TextByPlace.{first_statements}
use Rattle.mean_blocks.specs.NamesInRuns.{declared_at}

-- What statements say of the names of their `all`s, and of the names of children in each `attach`,
-- which stands within `all`s with names at these places, the innermost first.
module _ (o : Outline) (IsNaming : ℕ → Type 0) (IsTarget : List ℕ → ℕ → Type 0) where
  -- what is declared under the name of a child
  abbrev pub Target : List ℕ → Access → Type 0
  Target w a = (p : ℕ) → declared_at o a.name ≡ Some p → IsTarget w p

  abbrev mutual
    pub Targets : List ℕ → Statement → Type 0
    Targets w (statement.Compound' a turn place) = RowTargets w turn
    Targets w (statement.If' condition a first second place) =
        RowTargets w first × SecondTargets w second
    Targets w (statement.Case' value a arms place) = ArmTargets w arms
    Targets w (statement.While' condition a turn place) = RowTargets w turn
    Targets w (statement.Repeat' a turn until place) = RowTargets w turn
    Targets w (statement.For' name first down last a turn place) = RowTargets w turn
    Targets w (statement.All' name over a turn place) =
        IsNaming name.place × RowTargets (name.place ∷ w) turn
    Targets w (statement.Attach own target point place) = Target w target
    Targets w _ = Unit {0}

    pub RowTargets : List ℕ → {n : _} → Row_of-Statement n → Type 0
    RowTargets w end_of-Statement = Unit {0}
    RowTargets w (more_of-Statement x rest) = Targets w x × RowTargets w rest

    pub SecondTargets : List ℕ → Held-Statement-If-2 → Type 0
    SecondTargets w held.None' = Unit {0}
    SecondTargets w (held.Some' a row) = RowTargets w row

    pub ArmTargets : List ℕ → {n : _} → Row_of-Arm n → Type 0
    ArmTargets w end_of-Arm = Unit {0}
    ArmTargets w (more_of-Arm constants x rest) = Targets w x × ArmTargets w rest

  -- the same of the statements of a block
  abbrev pub BlockTargets : List Statement → Type 0
  BlockTargets xs = AllByRecursion (Targets []) xs

-- the same of the statements that other statements begin: those of routines and initialize parts
pub record BegunTargets (t : Text) (IsNaming : ℕ → Type 0) (IsTarget : List ℕ → ℕ → Type 0)
    : Type 0 where
  pub routines : (p : ℕ) (r : Routine) → routine_at t p ≡ Some r
      → BlockTargets t.outline IsNaming IsTarget (statements_of r)
  pub initialize_parts : (p : ℕ) (b : Body) (f : FirstPart) → body_at t p ≡ Some b
      → (out-Body b).first ≡ Some f
      → BlockTargets t.outline IsNaming IsTarget (first_statements f)
