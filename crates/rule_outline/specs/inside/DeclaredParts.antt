-- What the parts of a body declare, over lists.
use Rattle.std.specs.Prelude.{List, [], ◌∷◌, Option, Some, None}
use Rattle.est_syntax.specs.declared.statement.Arm.{Arm}
use Rattle.est_syntax.specs.declared.statement.Statement.{Statement}
use Rattle.est_syntax.specs.declared.body.Block.{Block}
use Rattle.est_syntax.specs.declared.body.FirstPart.{FirstPart}
use Rattle.est_syntax.specs.declared.body.Body.{Body, out-Body}
use Rattle.est_syntax.specs.declared.routine.Routine.{Routine, out-Routine}
use Rattle.est_syntax.specs.declared.transition.Group.{Group, out-Group}
use Rattle.est_syntax.specs.declared.transition.Transition.{Transition}
use Rattle.rule_declares.specs.rule_scope.declared.declaration.Within.{Within}
use Rattle.rule_declares.specs.rule_scope.Outline.{Outline}
use Rattle.rule_declares.specs.Contexts.{under}
use Rattle.rule_declares.specs.Entries.{inner}
use Rattle.rule_declares.specs.Bodies.{Clausal, statement_declares, statements_declare, arm_lying}
use Rattle.rule_declares.specs.Bodies.{clauses_declare, parts_declare, body_named, header_given}
use Rattle.rule_declares.specs.Bodies.{inside, to_lying, routine_named, head_declares}

-- the other statement of an `if`, where there is one
abbrev pub second_declares : Within → Option Statement → Outline → Outline
second_declares w None o = o
second_declares w (Some s) o = statement_declares w s o

abbrev pub arm_declares : Within → Arm → Outline → Outline
arm_declares w a o = statement_declares w a.turn (arm_lying w a.constants o)

abbrev pub arms_declare : Within → List Arm → Outline → Outline
arms_declare w [] o = o
arms_declare w (a ∷ rest) o = arms_declare w rest (arm_declares w a o)

abbrev pub block_declares : Within → Block → Outline → Outline
block_declares w b o = statements_declare w b.statements (parts_declare w b.parts o)

abbrev pub first_declares : Within → Option FirstPart → Outline → Outline
first_declares w None o = o
first_declares w (Some f) o = block_declares (inner w f.block.place) f.block (to_lying w f.to o)

abbrev pub transition_declares : Within → Transition → Clausal → Clausal
transition_declares w t s =
    let s1 = clauses_declare w t.clauses s in
    (s1.0, block_declares (inner (under w s1.0) t.block.place) t.block s1.1)

abbrev pub transitions_declare : Within → List Transition → Clausal → Clausal
transitions_declare w [] s = s
transitions_declare w (t ∷ ts) s = transitions_declare w ts (transition_declares w t s)

abbrev pub group_declares : Within → Group → Outline → Outline
group_declares w g o = (transitions_declare w (out-Group g).transitions ([], o)).1

abbrev pub groups_declare : Within → List Group → Outline → Outline
groups_declare w [] o = o
groups_declare w (g ∷ gs) o = groups_declare w gs (group_declares w g o)

abbrev pub held_declares : Within → Body → Outline → Outline
held_declares w b o =
    groups_declare w (out-Body b).groups
    (first_declares w (out-Body b).first (parts_declare w (out-Body b).parts o))

abbrev pub body_declares : Within → Body → Outline → Outline
body_declares w b o =
    let o1 = body_named w (out-Body b).name o in
    held_declares (inside w (out-Body b).name (out-Body b).header o1) b
    (header_given (out-Body b).name (out-Body b).header o1)

abbrev pub head_of : Within → Routine → Outline → Outline
head_of w r o =
    head_declares w (out-Routine r).name (out-Routine r).formals (out-Routine r).result o

abbrev pub routine_declares : Within → Routine → Outline → Outline
routine_declares w r o =
    let v = inner w (out-Routine r).name.place in
    block_declares v (out-Routine r).block
    (head_of v r (routine_named w (out-Routine r).name (out-Routine r).result o))
