-- The numbers of a part by the lists that it is made of.
use Rattle.std.proofs.Common.{◌≡◌, refl, sym, ap, ◌∙◌, suc, List, length}
use Rattle.est_syntax.specs.declared.body.FirstPart.{FirstPart}
use Rattle.est_syntax.specs.declared.body.Block.{Block}
use Rattle.est_syntax.specs.declared.body.Part.{Part, Row_of-Part, end_of-Part, more_of-Part}
use Rattle.est_syntax.specs.declared.body.Part.{items-the_row-Part, items_hidden-the_row-Part-0}
use Rattle.est_syntax.specs.declared.body.Part.TheBlock.{hidden-the_row-Part-0}
use Rattle.est_syntax.specs.declared.body.Part.TheBlock.{hidden-the_row-Group-1}
use Rattle.est_syntax.specs.declared.body.Part.TheVariants as part
use Rattle.est_syntax.specs.declared.body.Body.{Body, out-Body, is-Body', Row_of-Group}
use Rattle.est_syntax.specs.declared.body.Body.{end_of-Group, more_of-Group, items-the_row-Group}
use Rattle.est_syntax.specs.declared.body.Body.{items_hidden-the_row-Group-1}
use Rattle.est_syntax.specs.declared.transition.Group.{Group, Group-F, Group', outs-Group'}
use Rattle.est_syntax.specs.declared.transition.Group.{Row_of-Transition, end_of-Transition}
use Rattle.est_syntax.specs.declared.transition.Group.{more_of-Transition, items-the_row-Transition}
use Rattle.est_syntax.specs.declared.transition.Group.{items_shown-the_row-Transition-2}
use Rattle.est_syntax.specs.declared.transition.Transition.{Transition}
use Rattle.est_syntax.specs.declared.routine.Routine.{Routine}
use Rattle.rule_declares.specs.rule_kinds.TypeTexts.{added}
use Rattle.rule_ports.specs.Counts.{part_bodies, row_bodies, bodies, part_transitions}
use Rattle.rule_ports.specs.Counts.{row_parts, row_groups, row_transitions, transitions}
use Rattle.rule_ports.specs.inside.Counted.{body_bodies, group_counts, body_transitions}

bodies_row : (n : _) (row : Row_of-Part n) → row_bodies row ≡ bodies (items-the_row-Part n row)
bodies_row n end_of-Part = refl
bodies_row n (more_of-Part p rest) = ap (added (part_bodies p)) (bodies_row _ rest)

bodies_hidden : (ps : List Part) → row_bodies (hidden-the_row-Part-0 ps) ≡ bodies ps
bodies_hidden ps = bodies_row _ (hidden-the_row-Part-0 ps)
    ∙ ap bodies (items_hidden-the_row-Part-0 ps)

pub bodies_at : (p : Part) (b : Body) → p ≡ part.Body b → part_bodies p ≡ body_bodies b
bodies_at p b h =
    ap part_bodies h
    ∙ ap (λ x. part_bodies (part.Body x)) (is-Body' b)
    ∙ ap (added 1) (bodies_hidden (out-Body b).parts)

parts_row : (n : _) (row : Row_of-Part n) → row_parts row ≡ transitions (items-the_row-Part n row)
parts_row n end_of-Part = refl
parts_row n (more_of-Part p rest) = ap (added (part_transitions p)) (parts_row _ rest)

parts_hidden : (ps : List Part) → row_parts (hidden-the_row-Part-0 ps) ≡ transitions ps
parts_hidden ps = parts_row _ (hidden-the_row-Part-0 ps)
    ∙ ap transitions (items_hidden-the_row-Part-0 ps)

transitions_row : (n : _) (row : Row_of-Transition n)
    → row_transitions row ≡ length (items-the_row-Transition n row)
transitions_row n end_of-Transition = refl
transitions_row n (more_of-Transition cs name a parts statements place rest) =
    ap suc (transitions_row _ rest)

groups_row : (n : _) (row : Row_of-Group n)
    → row_groups row ≡ group_counts (items-the_row-Group n row)
groups_row n end_of-Group = refl
groups_row n (more_of-Group (Group' a transitions) rest) =
    (λ i. added ((transitions_row _ transitions
    ∙ ap length (sym (items_shown-the_row-Transition-2 a transitions))) i)
    (groups_row _ rest i))
    ∙ ap (λ (g : Group-F Part Block Body FirstPart Routine Group Transition). added
    (length g.transitions) (group_counts (items-the_row-Group _ rest)))
    (sym (outs-Group' a transitions))

groups_hidden : (gs : List Group) → row_groups (hidden-the_row-Group-1 gs) ≡ group_counts gs
groups_hidden gs = groups_row _ (hidden-the_row-Group-1 gs)
    ∙ ap group_counts (items_hidden-the_row-Group-1 gs)

pub transitions_at : (p : Part) (b : Body) → p ≡ part.Body b
    → part_transitions p ≡ body_transitions b
transitions_at p b h =
    ap part_transitions h
    ∙ ap (λ x. part_transitions (part.Body x)) (is-Body' b)
    ∙ (λ i. added (groups_hidden (out-Body b).groups i) (parts_hidden (out-Body b).parts i))

-- what the functions over parts need
pub ruleset rows = (bodies_at, transitions_at)
