-- What a part breaks by the lists that it is made of.
use Rattle.std.specs.Option.{option_map_or}
use Rattle.rule_declares.specs.rule_kinds.TypeTexts.{type_faults}
use Rattle.std.specs.Prelude.{flat_map}
use Rattle.std.proofs.Common.{◌≡◌, refl, sym, ap, ◌∙◌, ℕ, List, [], ◌++◌, Option, Some, None}
use Rattle.est_syntax.specs.declared.body.Block.{Block}
use Rattle.est_syntax.specs.declared.body.FirstPart.{FirstPart}
use Rattle.est_syntax.specs.declared.body.Part.{Part, Row_of-Part, end_of-Part, more_of-Part}
use Rattle.est_syntax.specs.declared.body.Part.{items-the_row-Part, items_hidden-the_row-Part-0}
use Rattle.est_syntax.specs.declared.body.Part.{items_shown-the_row-Part-0}
use Rattle.est_syntax.specs.declared.body.Part.TheBlock.{hidden-the_row-Part-0}
use Rattle.est_syntax.specs.declared.body.Part.TheBlock.{shown-the_row-Part-0}
use Rattle.est_syntax.specs.declared.body.Part.TheBlock.{hidden-the_row-Group-1}
use Rattle.est_syntax.specs.declared.body.Part.TheVariants as part
use Rattle.est_syntax.specs.declared.body.Body.{Body, out-Body, is-Body', Row_of-Group}
use Rattle.est_syntax.specs.declared.body.Body.{end_of-Group, more_of-Group, items-the_row-Group}
use Rattle.est_syntax.specs.declared.body.Body.{items_hidden-the_row-Group-1, back-Body-first}
use Rattle.est_syntax.specs.declared.transition.Group.{Group, Group-F, Group', outs-Group'}
use Rattle.est_syntax.specs.declared.transition.Group.{Row_of-Transition, end_of-Transition}
use Rattle.est_syntax.specs.declared.transition.Group.{more_of-Transition, items-the_row-Transition}
use Rattle.est_syntax.specs.declared.transition.Group.{items_shown-the_row-Transition-2}
use Rattle.est_syntax.specs.declared.transition.Transition.{Transition}
use Rattle.est_syntax.specs.declared.routine.Routine.{Routine}
use Rattle.rule_scope.specs.Outline.{Outline}
use Rattle.rule_scope.specs.Uses.{twice_faults}
use Rattle.est_types.specs.DeclarationFaults.{part_faults, row_faults}
use Rattle.est_types.specs.DeclarationFaults.{first_faults, row_groups_faults}
use Rattle.est_types.specs.DeclarationFaults.{row_transitions_faults, clause_faults}
use Rattle.est_types.specs.DeclarationFaults.{row_has_states}
use Rattle.est_types.specs.Scalars.{scalars_faults}
use Rattle.est_types.specs.DeclarationFaults.{names_first, first_state_faults}
use Rattle.est_types.specs.DeclarationFaults.{formal_faults}
use Rattle.est_types.proofs.SizeRows.{scalars_hidden}
use Rattle.est_types.specs.inside.DeclarationParts.{have_states, has_first}
use Rattle.est_types.specs.inside.DeclarationParts.{first_part_faults, transitions_faults}
use Rattle.est_types.specs.inside.DeclarationParts.{groups_faults, body_faults, routine_faults}
use Rattle.est_types.specs.declared.modules.Owner.{Owner}
use Rattle.est_types.specs.declared.modules.Owner.TheVariants as owners

parts_row : (o : Outline) (owner : Owner) (n : _) (row : Row_of-Part n)
    → row_faults o owner row ≡ flat_map (part_faults o owner) (items-the_row-Part n row)
parts_row o owner n end_of-Part = refl
parts_row o owner n (more_of-Part p rest) = ap (λ l. part_faults o owner p ++ l)
    (parts_row o owner _ rest)

parts_hidden : (o : Outline) (owner : Owner) (ps : List Part)
    → row_faults o owner (hidden-the_row-Part-0 ps) ≡ flat_map (part_faults o owner) ps
parts_hidden o owner ps = parts_row o owner _ (hidden-the_row-Part-0 ps)
    ∙ ap (flat_map (part_faults o owner)) (items_hidden-the_row-Part-0 ps)

parts_shown : (o : Outline) (owner : Owner) (a : _) (row : Row_of-Part _)
    → row_faults o owner row ≡ flat_map (part_faults o owner) (shown-the_row-Part-0 a row)
parts_shown o owner a row = parts_row o owner _ row
    ∙ ap (flat_map (part_faults o owner)) (sym (items_shown-the_row-Part-0 a row))

states_row : (n : _) (row : Row_of-Part n)
    → row_has_states row ≡ have_states (items-the_row-Part n row)
states_row n end_of-Part = refl
states_row n (more_of-Part (part.Consts x) rest) = states_row _ rest
states_row n (more_of-Part (part.Types x) rest) = states_row _ rest
states_row n (more_of-Part (part.Channel x) rest) = states_row _ rest
states_row n (more_of-Part (part.Header x) rest) = states_row _ rest
states_row n (more_of-Part (part.Body x) rest) = states_row _ rest
states_row n (more_of-Part (part.Modvars x) rest) = states_row _ rest
states_row n (more_of-Part (part.Points x) rest) = states_row _ rest
states_row n (more_of-Part (part.Vars x) rest) = states_row _ rest
states_row n (more_of-Part (part.States x) rest) = refl
states_row n (more_of-Part (part.StateSets x) rest) = states_row _ rest
states_row n (more_of-Part (part.Routine' a b c d e f g) rest) = states_row _ rest

states_hidden : (ps : List Part) → row_has_states (hidden-the_row-Part-0 ps) ≡ have_states ps
states_hidden ps = states_row _ (hidden-the_row-Part-0 ps)
    ∙ ap have_states (items_hidden-the_row-Part-0 ps)

first_at : (o : Outline) (f : Option FirstPart)
    → first_faults o (back-Body-first f) ≡ first_part_faults o f
first_at o None = refl
first_at o (Some f) = parts_hidden o owners.Body f.block.parts

named_at : (f : Option FirstPart) → names_first (back-Body-first f) ≡ has_first f
named_at None = refl
named_at (Some f) = refl

transitions_row : (o : Outline) (n : _) (row : Row_of-Transition n)
    → row_transitions_faults o row ≡ transitions_faults o (items-the_row-Transition n row)
transitions_row o n end_of-Transition = refl
transitions_row o n (more_of-Transition cs name a parts statements place rest) =
    λ i. (flat_map (clause_faults o) cs ++ parts_shown o owners.Body a parts i) ++ transitions_row o _ rest i

groups_row : (o : Outline) (n : _) (row : Row_of-Group n)
    → row_groups_faults o row ≡ groups_faults o (items-the_row-Group n row)
groups_row o n end_of-Group = refl
groups_row o n (more_of-Group (Group' a transitions) rest) =
    (λ i. (transitions_row o _ transitions
    ∙ ap (transitions_faults o) (sym (items_shown-the_row-Transition-2 a transitions))) i
    ++ groups_row o _ rest i)
    ∙ ap (λ (g : Group-F Part Block Body FirstPart Routine Group Transition). transitions_faults o
    g.transitions ++ groups_faults o (items-the_row-Group _ rest))
    (sym (outs-Group' a transitions))

groups_hidden : (o : Outline) (gs : List Group) → row_groups_faults o (hidden-the_row-Group-1 gs)
    ≡ groups_faults o gs
groups_hidden o gs = groups_row o _ (hidden-the_row-Group-1 gs)
    ∙ ap (groups_faults o) (items_hidden-the_row-Group-1 gs)

body_is : (o : Outline) (owner : Owner) (b : Body)
    → part_faults o owner (part.Body b) ≡ body_faults o b
body_is o owner b =
    ap (λ x. part_faults o owner (part.Body x)) (is-Body' b)
    ∙ (λ i. twice_faults o (out-Body b).name ++ parts_hidden o owners.Body (out-Body b).parts i
    ++ first_at o (out-Body b).first i ++ groups_hidden o (out-Body b).groups i
    ++ first_state_faults (states_hidden (out-Body b).parts i) (named_at (out-Body b).first i)
    (out-Body b).name.place
    ++ scalars_faults (scalars_hidden o (out-Body b).parts i) (out-Body b).name.place)

-- a body and a routine by their parts
pub body_at : (o : Outline) (owner : Owner) (p : Part) (b : Body) → p ≡ part.Body b
    → part_faults o owner p ≡ body_faults o b
body_at o owner p b h = ap (part_faults o owner) h ∙ body_is o owner b

pub routine_at : (o : Outline) (owner : Owner) (p : Part) (r : Routine) → p ≡ part.Routine r
    → part_faults o owner p ≡ routine_faults o r
routine_at o owner p r h =
    ap (part_faults o owner) h
    ∙ (λ i. twice_faults o r.name ++ flat_map (formal_faults o r.result) r.formals
    ++ option_map_or (type_faults o) r.result [] ++ parts_hidden o owners.Body r.block.parts i
    ++ scalars_faults (scalars_hidden o r.block.parts i) r.name.place)

-- What the functions over parts need.
pub ruleset rows = (body_at, routine_at)
