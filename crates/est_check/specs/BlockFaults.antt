-- The rules that the blocks, transitions and bodies of a specification break, beside those of its
-- declarations (ISO 9074, constraints; ISO 7185, 6.6 to 6.8).
use Rattle.std.specs.Prelude.{flat_map}
use Rattle.std.specs.Prelude.{ℕ, List, [], ◌∷◌, ◌++◌, Option, Some, None}
use Rattle.est_syntax.specs.declared.name.Used.{Used}
use Rattle.est_syntax.specs.declared.body.Part.{Part, Row_of-Part, end_of-Part, more_of-Part}
use Rattle.est_syntax.specs.declared.body.Part.TheBlock as first
use Rattle.est_syntax.specs.declared.body.Part.TheVariants as part
use Rattle.est_syntax.specs.declared.body.Body.{Body', Row_of-Group, end_of-Group}
use Rattle.est_syntax.specs.declared.body.Body.{more_of-Group, Held-Body-first}
use Rattle.est_syntax.specs.declared.rule.Fault.{Fault}
use Rattle.est_syntax.specs.declared.specification.Spec.{Spec}
use Rattle.est_syntax.specs.declared.statement.Statement.{Statement}
use Rattle.est_syntax.specs.declared.transition.Group.{Group', Row_of-Transition}
use Rattle.est_syntax.specs.declared.transition.Group.{end_of-Transition, more_of-Transition}
use Rattle.rule_scope.specs.declared.declaration.Sort.TheVariants as sort
use Rattle.rule_scope.specs.Outline.{Outline}
use Rattle.rule_scope.specs.Uses.{use_faults}
use Rattle.rule_declares.specs.declared.context.Given.{Given}
use Rattle.rule_declares.specs.Bodies.{outline_of}
use Rattle.est_types.specs.Scalars.{row_scalars, scalars_faults}
use Rattle.rule_statements.specs.Statements.{statement_faults}
use Rattle.est_check.specs.Clauses.{clause_faults, next_faults}
use Rattle.rule_ports.specs.GivenClauses.{with_clauses, delay_faults}

-- the statements of a function are those of one, and those of a procedure of none
abbrev pub function_of : Used → Option Used → Option ℕ
function_of name None = None
function_of name (Some u) = Some name.place

-- the block of a transition or of an initialize part, which begins at a place and whose variables
-- have so many scalars
abbrev pub block_faults : Outline → ℕ → ℕ → List Statement → List Fault
block_faults o place scalars statements =
    scalars_faults scalars place ++ flat_map (statement_faults o None []) statements

-- What a part breaks: the statements of routines and bodies, and the transitions.
abbrev mutual
  pub part_faults : Outline → Part → List Fault
  part_faults o (part.Body (Body' name header a parts f b groups)) =
      use_faults o sort.Header header ++ row_faults o parts
      ++ first_faults o f ++ row_groups_faults o groups
  part_faults o (part.Routine' name formals result a parts statements place) =
      flat_map (statement_faults o (function_of name result) []) statements
  part_faults o _ = []

  pub row_faults : Outline → {n : _} → Row_of-Part n → List Fault
  row_faults o end_of-Part = []
  row_faults o (more_of-Part p rest) = part_faults o p ++ row_faults o rest

  pub first_faults : Outline → Held-Body-first → List Fault
  first_faults o first.None' = []
  first_faults o (first.Some' to a parts statements place) =
      next_faults o to ++ block_faults o place (row_scalars o 0 parts) statements

  pub row_groups_faults : Outline → {n : _} → Row_of-Group n → List Fault
  row_groups_faults o end_of-Group = []
  row_groups_faults o (more_of-Group (Group' a transitions) rest) =
      row_transitions_faults o [] transitions ++ row_groups_faults o rest

  pub row_transitions_faults : Outline → List Given → {n : _} → Row_of-Transition n → List Fault
  row_transitions_faults o gs end_of-Transition = []
  row_transitions_faults o gs (more_of-Transition cs name a parts statements place rest) =
      (flat_map (clause_faults o) cs ++ delay_faults (with_clauses gs cs)
      ++ block_faults o place (row_scalars o 0 parts) statements)
      ++ row_transitions_faults o (with_clauses gs cs) rest

-- what the bodies of a specification break, and its own initialization
abbrev pub bodies_faults : Spec → List Fault
bodies_faults s =
    flat_map (part_faults (outline_of s)) s.parts ++ statement_faults (outline_of s) None [] s.first
