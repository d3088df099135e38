-- What the parts of a body break, over lists.
use Rattle.std.specs.Option.{option_map_or}
use Rattle.rule_declares.specs.rule_kinds.TypeTexts.{type_faults}
use Rattle.std.specs.Prelude.{ℕ, Bool, true, false, List, [], ◌∷◌, ◌++◌, Option, Some, None}
use Rattle.std.specs.Prelude.{is_some, flat_map}
use Rattle.est_syntax.specs.declared.rule.Fault.{Fault}
use Rattle.est_syntax.specs.declared.body.Block.{Block}
use Rattle.est_syntax.specs.declared.body.FirstPart.{FirstPart}
use Rattle.est_syntax.specs.declared.body.Body.{Body, out-Body}
use Rattle.est_syntax.specs.declared.body.Part.{Part}
use Rattle.est_syntax.specs.declared.body.Part.TheVariants as part
use Rattle.est_syntax.specs.declared.routine.Routine.{Routine, out-Routine}
use Rattle.est_syntax.specs.declared.transition.Group.{Group, out-Group}
use Rattle.est_syntax.specs.declared.transition.Transition.{Transition}
use Rattle.rule_scope.specs.Outline.{Outline}
use Rattle.rule_scope.specs.Uses.{twice_faults}
use Rattle.est_types.specs.DeclarationFaults.{part_faults, clause_faults, formal_faults}
use Rattle.est_types.specs.Scalars.{parts_scalars, scalars_faults}
use Rattle.est_types.specs.DeclarationFaults.{first_state_faults}
use Rattle.est_types.specs.declared.modules.Owner.TheVariants as owners

-- whether there is a `state` section among parts, and whether the first state is named
abbrev pub have_states : List Part → Bool
have_states [] = false
have_states (part.States us ∷ rest) = true
have_states (_ ∷ rest) = have_states rest

abbrev pub has_first : Option FirstPart → Bool
has_first None = false
has_first (Some f) = is_some f.to

abbrev pub block_faults : Outline → Block → List Fault
block_faults o b = flat_map (part_faults o owners.Body) b.parts

abbrev pub first_part_faults : Outline → Option FirstPart → List Fault
first_part_faults o None = []
first_part_faults o (Some f) = block_faults o f.block

abbrev pub transition_faults : Outline → Transition → List Fault
transition_faults o t = flat_map (clause_faults o) t.clauses ++ block_faults o t.block

abbrev pub transitions_faults : Outline → List Transition → List Fault
transitions_faults o [] = []
transitions_faults o (t ∷ ts) = transition_faults o t ++ transitions_faults o ts

abbrev pub group_faults : Outline → Group → List Fault
group_faults o g = transitions_faults o (out-Group g).transitions

abbrev pub groups_faults : Outline → List Group → List Fault
groups_faults o [] = []
groups_faults o (g ∷ gs) = group_faults o g ++ groups_faults o gs

abbrev pub body_faults : Outline → Body → List Fault
body_faults o b =
    twice_faults o (out-Body b).name ++ flat_map (part_faults o owners.Body) (out-Body b).parts
    ++ first_part_faults o (out-Body b).first ++ groups_faults o (out-Body b).groups
    ++ first_state_faults (have_states (out-Body b).parts) (has_first (out-Body b).first)
    (out-Body b).name.place
    ++ scalars_faults (parts_scalars o 0 (out-Body b).parts) (out-Body b).name.place

abbrev pub routine_faults : Outline → Routine → List Fault
routine_faults o r =
    twice_faults o (out-Routine r).name
    ++ flat_map (formal_faults o (out-Routine r).result) (out-Routine r).formals
    ++ option_map_or (type_faults o) (out-Routine r).result []
    ++ flat_map (part_faults o owners.Body) (out-Routine r).block.parts
    ++ scalars_faults (parts_scalars o 0 (out-Routine r).block.parts) (out-Routine r).name.place
