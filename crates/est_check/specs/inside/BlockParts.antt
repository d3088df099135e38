-- What the parts of a body break, over lists.
use Rattle.std.specs.Prelude.{flat_map}
use Rattle.std.specs.Prelude.{List, [], ◌∷◌, ◌++◌, Option, Some, None}
use Rattle.est_syntax.specs.declared.body.Block.{Block}
use Rattle.est_syntax.specs.declared.body.Body.{Body, out-Body}
use Rattle.est_syntax.specs.declared.body.FirstPart.{FirstPart}
use Rattle.est_syntax.specs.declared.rule.Fault.{Fault}
use Rattle.est_syntax.specs.declared.routine.Routine.{Routine, out-Routine}
use Rattle.est_syntax.specs.declared.transition.Group.{Group, out-Group}
use Rattle.est_syntax.specs.declared.transition.Transition.{Transition}
use Rattle.rule_scope.specs.declared.declaration.Sort.TheVariants as sort
use Rattle.rule_scope.specs.Outline.{Outline}
use Rattle.rule_scope.specs.Uses.{use_faults}
use Rattle.rule_declares.specs.declared.context.Given.{Given}
use Rattle.est_types.specs.Scalars.{parts_scalars}
use Rattle.rule_statements.specs.Statements.{statement_faults}
use Rattle.est_check.specs.Clauses.{clause_faults, next_faults}
use Rattle.rule_ports.specs.GivenClauses.{with_clauses, delay_faults}
use Rattle.est_check.specs.BlockFaults.{function_of, block_faults, part_faults}

-- what a block breaks
abbrev pub held_block_faults : Outline → Block → List Fault
held_block_faults o b = block_faults o b.place (parts_scalars o 0 b.parts) b.statements

-- what an initialize part breaks, if there is one
abbrev pub first_part_faults : Outline → Option FirstPart → List Fault
first_part_faults o None = []
first_part_faults o (Some f) = next_faults o f.to ++ held_block_faults o f.block

-- what a transition breaks, after these clauses
abbrev pub transition_faults : Outline → List Given → Transition → List Fault
transition_faults o gs t =
    flat_map (clause_faults o) t.clauses ++ delay_faults (with_clauses gs t.clauses)
    ++ held_block_faults o t.block

-- what transitions of one group break, after these clauses
abbrev pub transitions_faults : Outline → List Given → List Transition → List Fault
transitions_faults o gs [] = []
transitions_faults o gs (t ∷ ts) =
    transition_faults o gs t ++ transitions_faults o (with_clauses gs t.clauses) ts

-- what a group of transitions breaks
abbrev pub group_faults : Outline → Group → List Fault
group_faults o g = transitions_faults o [] (out-Group g).transitions

-- what groups break, in order
abbrev pub groups_faults : Outline → List Group → List Fault
groups_faults o [] = []
groups_faults o (g ∷ gs) = group_faults o g ++ groups_faults o gs

-- what a body breaks
abbrev pub body_faults : Outline → Body → List Fault
body_faults o b =
    use_faults o sort.Header (out-Body b).header ++ flat_map (part_faults o) (out-Body b).parts
    ++ first_part_faults o (out-Body b).first ++ groups_faults o (out-Body b).groups

-- what a routine breaks
abbrev pub routine_faults : Outline → Routine → List Fault
routine_faults o r =
    flat_map (statement_faults o (function_of (out-Routine r).name (out-Routine r).result) [])
    (out-Routine r).block.statements
