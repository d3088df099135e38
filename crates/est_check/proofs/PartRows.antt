-- What a part breaks by the lists that it is made of.
use Rattle.std.specs.Prelude.{flat_map}
use Rattle.std.proofs.Common.{◌≡◌, refl, sym, ap, ◌∙◌, List, [], ◌++◌, Option, Some, None}
use Rattle.est_syntax.specs.declared.body.FirstPart.{FirstPart}
use Rattle.est_syntax.specs.declared.body.Block.{Block}
use Rattle.est_syntax.specs.declared.body.Part.{Part, Row_of-Part, end_of-Part, more_of-Part}
use Rattle.est_syntax.specs.declared.body.Part.{items-the_row-Part, items_hidden-the_row-Part-0}
use Rattle.est_syntax.specs.declared.body.Part.TheBlock.{hidden-the_row-Part-0}
use Rattle.est_syntax.specs.declared.body.Part.TheBlock.{hidden-the_row-Group-1}
use Rattle.est_syntax.specs.declared.body.Part.TheVariants as part
use Rattle.est_syntax.specs.declared.body.Body.{Body, out-Body, is-Body', Row_of-Group}
use Rattle.est_syntax.specs.declared.body.Body.{end_of-Group, more_of-Group, items-the_row-Group}
use Rattle.est_syntax.specs.declared.body.Body.{items_hidden-the_row-Group-1, back-Body-first}
use Rattle.est_syntax.specs.declared.transition.Group.{Group, Group-F, Group', outs-Group'}
use Rattle.est_syntax.specs.declared.transition.Group.{Row_of-Transition, end_of-Transition}
use Rattle.est_syntax.specs.declared.transition.Group.{more_of-Transition, items-the_row-Transition}
use Rattle.est_syntax.specs.declared.transition.Group.{items_shown-the_row-Transition-2}
use Rattle.est_syntax.specs.declared.transition.Transition.{Transition}
use Rattle.est_syntax.specs.declared.routine.Routine.{Routine}
use Rattle.rule_scope.specs.declared.declaration.Sort.TheVariants as sort
use Rattle.rule_scope.specs.Outline.{Outline}
use Rattle.rule_scope.specs.Uses.{use_faults}
use Rattle.rule_scope.proofs.LeastLaws.{least_append}
use Rattle.rule_declares.specs.declared.context.Given.{Given}
use Rattle.est_types.proofs.SizeRows.{scalars_hidden, scalars_shown}
use Rattle.est_check.specs.Clauses.{clause_faults, next_faults}
use Rattle.rule_ports.specs.GivenClauses.{with_clauses, delay_faults}
use Rattle.est_check.specs.BlockFaults.{block_faults, part_faults, row_faults}
use Rattle.est_check.specs.BlockFaults.{first_faults, row_groups_faults, row_transitions_faults}
use Rattle.est_check.specs.inside.BlockParts.{first_part_faults, transitions_faults}
use Rattle.est_check.specs.inside.BlockParts.{groups_faults, body_faults, routine_faults}

parts_row : (o : Outline) (n : _) (row : Row_of-Part n)
    → row_faults o row ≡ flat_map (part_faults o) (items-the_row-Part n row)
parts_row o n end_of-Part = refl
parts_row o n (more_of-Part p rest) = ap (λ l. part_faults o p ++ l) (parts_row o _ rest)

parts_hidden : (o : Outline) (ps : List Part) → row_faults o (hidden-the_row-Part-0 ps)
    ≡ flat_map (part_faults o) ps
parts_hidden o ps = parts_row o _ (hidden-the_row-Part-0 ps)
    ∙ ap (flat_map (part_faults o)) (items_hidden-the_row-Part-0 ps)

first_at : (o : Outline) (f : Option FirstPart)
    → first_faults o (back-Body-first f) ≡ first_part_faults o f
first_at o None = refl
first_at o (Some f) = λ i. next_faults o f.to ++ block_faults o f.block.place
    (scalars_hidden o f.block.parts i) f.block.statements

transitions_row : (o : Outline) (gs : List Given) (n : _) (row : Row_of-Transition n)
    → row_transitions_faults o gs row ≡ transitions_faults o gs (items-the_row-Transition n row)
transitions_row o gs n end_of-Transition = refl
transitions_row o gs n (more_of-Transition cs name a parts statements place rest) =
    λ i. (flat_map (clause_faults o) cs ++ delay_faults (with_clauses gs cs) ++ block_faults o place
    (scalars_shown o a parts i) statements)
    ++ transitions_row o (with_clauses gs cs) _ rest i

groups_row : (o : Outline) (n : _) (row : Row_of-Group n)
    → row_groups_faults o row ≡ groups_faults o (items-the_row-Group n row)
groups_row o n end_of-Group = refl
groups_row o n (more_of-Group (Group' a transitions) rest) =
    (λ i. (transitions_row o [] _ transitions
    ∙ ap (transitions_faults o []) (sym (items_shown-the_row-Transition-2 a transitions))) i
    ++ groups_row o _ rest i)
    ∙ ap (λ (g : Group-F Part Block Body FirstPart Routine Group Transition). transitions_faults o
    [] g.transitions ++ groups_faults o (items-the_row-Group _ rest))
    (sym (outs-Group' a transitions))

groups_hidden : (o : Outline) (gs : List Group) → row_groups_faults o (hidden-the_row-Group-1 gs)
    ≡ groups_faults o gs
groups_hidden o gs = groups_row o _ (hidden-the_row-Group-1 gs)
    ∙ ap (groups_faults o) (items_hidden-the_row-Group-1 gs)

body_is : (o : Outline) (b : Body) → part_faults o (part.Body b) ≡ body_faults o b
body_is o b =
    ap (λ x. part_faults o (part.Body x)) (is-Body' b)
    ∙ (λ i. use_faults o sort.Header (out-Body b).header ++ parts_hidden o (out-Body b).parts i
    ++ first_at o (out-Body b).first i ++ groups_hidden o (out-Body b).groups i)

-- a body and a routine by their parts
pub body_at : (o : Outline) (p : Part) (b : Body) → p ≡ part.Body b
    → part_faults o p ≡ body_faults o b
body_at o p b h = ap (part_faults o) h ∙ body_is o b

pub routine_at : (o : Outline) (p : Part) (r : Routine) → p ≡ part.Routine r
    → part_faults o p ≡ routine_faults o r
routine_at o p r h = ap (part_faults o) h

-- what the functions over parts need
pub ruleset rows = (least_append, body_at, routine_at)
