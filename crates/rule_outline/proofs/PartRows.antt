-- What a part declares by the lists that it is made of.
use Rattle.std.proofs.Common.{◌≡◌, refl, sym, ap, ◌∙◌, List, [], Option, Some, None}
use Rattle.est_syntax.specs.declared.body.Block.{Block}
use Rattle.est_syntax.specs.declared.body.FirstPart.{FirstPart}
use Rattle.est_syntax.specs.declared.body.Part.{Part, Row_of-Part, end_of-Part, more_of-Part}
use Rattle.est_syntax.specs.declared.body.Part.{items-the_row-Part, items_hidden-the_row-Part-0}
use Rattle.est_syntax.specs.declared.body.Part.{items_shown-the_row-Part-0}
use Rattle.est_syntax.specs.declared.body.Part.TheBlock.{hidden-the_row-Part-0}
use Rattle.est_syntax.specs.declared.body.Part.TheBlock.{shown-the_row-Part-0}
use Rattle.est_syntax.specs.declared.body.Part.TheBlock.{hidden-the_row-Group-1}
use Rattle.est_syntax.specs.declared.body.Part.TheVariants as part
use Rattle.est_syntax.specs.declared.body.Body.{Body, out-Body, is-Body', Row_of-Group}
use Rattle.est_syntax.specs.declared.body.Body.{end_of-Group, more_of-Group, items-the_row-Group}
use Rattle.est_syntax.specs.declared.body.Body.{items_hidden-the_row-Group-1, back-Body-first}
use Rattle.est_syntax.specs.declared.transition.Group.{Group, Group-F, Group', outs-Group'}
use Rattle.est_syntax.specs.declared.transition.Group.{Row_of-Transition, end_of-Transition}
use Rattle.est_syntax.specs.declared.transition.Group.{more_of-Transition, items-the_row-Transition}
use Rattle.est_syntax.specs.declared.transition.Group.{items_shown-the_row-Transition-2}
use Rattle.est_syntax.specs.declared.transition.Transition.{Transition}
use Rattle.est_syntax.specs.declared.routine.Routine.{Routine}
use Rattle.rule_declares.specs.rule_scope.declared.declaration.Within.{Within}
use Rattle.rule_declares.specs.rule_scope.Outline.{Outline}
use Rattle.est_syntax.specs.declared.statement.Statement.{Statement}
use Rattle.rule_declares.specs.Contexts.{under}
use Rattle.rule_declares.specs.Entries.{inner}
use Rattle.rule_declares.specs.Bodies as spec
use Rattle.rule_declares.specs.Bodies.{Clausal, part_declares, row_parts, parts_declare}
use Rattle.rule_declares.specs.Bodies.{row_groups, row_transitions, closed_by}
use Rattle.rule_outline.specs.inside.DeclaredParts.{first_declares, transitions_declare}
use Rattle.rule_outline.specs.inside.DeclaredParts.{groups_declare, body_declares, routine_declares}

parts_row : (w : Within) (n : _) (row : Row_of-Part n) (o : Outline)
    → row_parts w row o ≡ parts_declare w (items-the_row-Part n row) o
parts_row w n end_of-Part o = refl
parts_row w n (more_of-Part p rest) o = parts_row w _ rest (closed_by p (part_declares w p o))

parts_hidden : (w : Within) (ps : List Part) (o : Outline)
    → row_parts w (hidden-the_row-Part-0 ps) o ≡ parts_declare w ps o
parts_hidden w ps o = parts_row w _ (hidden-the_row-Part-0 ps) o ∙ ap (λ l. parts_declare w l o)
    (items_hidden-the_row-Part-0 ps)

parts_shown : (w : Within) (a : _) (row : Row_of-Part _) (o : Outline)
    → row_parts w row o ≡ parts_declare w (shown-the_row-Part-0 a row) o
parts_shown w a row o = parts_row w _ row o ∙ ap (λ l. parts_declare w l o)
    (sym (items_shown-the_row-Part-0 a row))

block_hidden : (w : Within) (ps : List Part) (ss : List Statement) (o : Outline)
    → spec.statements_declare w ss (row_parts w (hidden-the_row-Part-0 ps) o)
    ≡ spec.statements_declare w ss (parts_declare w ps o)
block_hidden w ps ss o = ap (spec.statements_declare w ss) (parts_hidden w ps o)

transitions_row : (w : Within) (n : _) (row : Row_of-Transition n) (s : Clausal)
    → row_transitions w row s ≡ transitions_declare w (items-the_row-Transition n row) s
transitions_row w n end_of-Transition s = refl
transitions_row w n (more_of-Transition cs name a parts statements place rest) s =
    let s1 = spec.clauses_declare w cs s in
    let v = inner (under w s1.0) place in
    transitions_row w _ rest (s1.0, spec.statements_declare v statements (row_parts v parts s1.1))
    ∙ ap (λ (o : Outline). transitions_declare w (items-the_row-Transition _ rest)
    (s1.0, spec.statements_declare v statements o)) (parts_shown v a parts s1.1)

first_at : (w : Within) (f : Option FirstPart) (o : Outline)
    → spec.first_declares w (back-Body-first f) o ≡ first_declares w f o
first_at w None o = refl
first_at w (Some f) o = block_hidden (inner w f.block.place) f.block.parts f.block.statements
    (spec.to_lying w f.to o)

pub routine_at : (w : Within) (p : Part) (r : Routine) (o : Outline) → p ≡ part.Routine r
    → part_declares w p o ≡ routine_declares w r o
routine_at w p r o h =
    ap (λ x. part_declares w x o) h
    ∙ block_hidden (inner w r.name.place) r.block.parts r.block.statements
    (spec.head_declares (inner w r.name.place) r.name r.formals r.result
    (spec.routine_named w r.name r.result o))

groups_row : (w : Within) (n : _) (row : Row_of-Group n) (o : Outline)
    → row_groups w row o ≡ groups_declare w (items-the_row-Group n row) o
groups_row w n end_of-Group o = refl
groups_row w n (more_of-Group (Group' a transitions) rest) o =
    groups_row w _ rest (row_transitions w transitions ([], o)).1
    ∙ ap (groups_declare w (items-the_row-Group _ rest))
    (ap (λ (s : Clausal). s.1) (transitions_row w _ transitions ([], o)
    ∙ ap (λ l. transitions_declare w l ([], o))
    (sym (items_shown-the_row-Transition-2 a transitions)))
    ∙ ap (λ (g : Group-F Part Block Body FirstPart Routine Group Transition).
    (transitions_declare w g.transitions ([], o)).1) (sym (outs-Group' a transitions)))

groups_hidden : (w : Within) (gs : List Group) (o : Outline)
    → row_groups w (hidden-the_row-Group-1 gs) o ≡ groups_declare w gs o
groups_hidden w gs o = groups_row w _ (hidden-the_row-Group-1 gs) o ∙ ap (λ l. groups_declare w l o)
    (items_hidden-the_row-Group-1 gs)

-- a body by its parts
body_is : (w : Within) (b : Body) (o : Outline)
    → part_declares w (part.Body b) o ≡ body_declares w b o
body_is w b o =
    let o1 = spec.body_named w (out-Body b).name o in
    let v = spec.inside w (out-Body b).name (out-Body b).header o1 in
    let o2 = spec.header_given (out-Body b).name (out-Body b).header o1 in
    ap (λ x. part_declares w (part.Body x) o) (is-Body' b)
    ∙ groups_hidden v (out-Body b).groups
    (spec.first_declares v (back-Body-first (out-Body b).first)
    (row_parts v (hidden-the_row-Part-0 (out-Body b).parts) o2))
    ∙ ap (groups_declare v (out-Body b).groups)
    (first_at v (out-Body b).first (row_parts v (hidden-the_row-Part-0 (out-Body b).parts) o2)
    ∙ ap (first_declares v (out-Body b).first) (parts_hidden v (out-Body b).parts o2))

pub body_at : (w : Within) (p : Part) (b : Body) (o : Outline) → p ≡ part.Body b
    → part_declares w p o ≡ body_declares w b o
body_at w p b o h = ap (λ x. part_declares w x o) h ∙ body_is w b o
