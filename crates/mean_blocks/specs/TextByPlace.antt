-- The parts of a specification, which are known by the places of their names.
use Rattle.std.specs.Prelude.{ℕ, nat_eq, List, [], ◌∷◌, ◌++◌, Option, Some, None}
use Rattle.std.specs.Prelude.{option_and_then, unwrap_or, find}
use Rattle.std.specs.List.{filter_map, flat_map}
use Rattle.std.specs.Option.{option_or}
use Rattle.est_syntax.specs.declared.header.Queue.{Queue}
use Rattle.est_syntax.specs.declared.header.Queue.TheVariants.{Individual}
use Rattle.est_syntax.specs.declared.body.Body.{Body, Body', out-Body}
use Rattle.est_syntax.specs.declared.body.Block.{Block, out-Block}
use Rattle.est_syntax.specs.declared.body.FirstPart.{FirstPart, out-FirstPart}
use Rattle.est_syntax.specs.declared.body.Part.{Part, out-Part, Row_of-Part, end_of-Part}
use Rattle.est_syntax.specs.declared.body.Part.{more_of-Part}
use Rattle.est_syntax.specs.declared.body.Part.TheOpen as seen
use Rattle.est_syntax.specs.declared.body.Part.TheVariants as part
use Rattle.est_syntax.specs.declared.routine.Routine.{Routine, out-Routine}
use Rattle.est_syntax.specs.declared.specification.Spec.{Spec}
use Rattle.est_syntax.specs.declared.statement.Statement.{Statement}
use Rattle.est_syntax.specs.declared.transition.Group.{Group}
use Rattle.est_syntax.specs.declared.transition.Transition.{Transition}
use Rattle.rule_declares.specs.rule_scope.declared.declaration.Entry.{Entry}
use Rattle.rule_declares.specs.rule_scope.Outline.{Outline, entry_at}
use Rattle.rule_declares.specs.Bodies.{outline_of}

-- a specification, with all that it declares
pub record Text : Type 0 where
  pub spec : Spec
  pub outline : Outline

-- the text of a specification
abbrev pub text_of : Spec → Text
text_of s = record { spec = s; outline = outline_of s }

-- a part, and those within it
abbrev mutual
  pub parts_within : Part → List Part
  parts_within (part.Body (Body' name header a parts first b groups)) =
      part.Body (Body' name header a parts first b groups) ∷ row_parts parts
  parts_within p = p ∷ []

  pub row_parts : {n : _} → Row_of-Part n → List Part
  row_parts end_of-Part = []
  row_parts (more_of-Part p rest) = parts_within p ++ row_parts rest

-- all parts of a specification, in the order of the text (ISO 9074, declaration-part)
abbrev pub parts_of : Text → List Part
parts_of t = flat_map parts_within t.spec.parts

-- a part with the parts that it is made of
abbrev pub PartLayer : Type 0
PartLayer = seen.Part-F Part Block Body FirstPart Routine Group Transition

-- the routine that a part is
abbrev pub routine_in : Part → Option Routine
routine_in p = held (out-Part p)
  where
    held : PartLayer → Option Routine
    held (seen.Routine r) = Some r
    held _ = None

-- the body that a part is
abbrev pub body_in : Part → Option Body
body_in p = held (out-Part p)
  where
    held : PartLayer → Option Body
    held (seen.Body b) = Some b
    held _ = None

-- the routine whose name stands at a place (ISO 7185, 6.6)
abbrev pub routine_at : Text → ℕ → Option Routine
routine_at t place = find (λ (r : Routine). nat_eq place (out-Routine r).name.place)
    (filter_map routine_in (parts_of t))

-- the statements of a routine
abbrev pub statements_of : Routine → List Statement
statements_of r = (out-Block (out-Routine r).block).statements

-- the body whose name stands at a place (ISO 9074, module-body-definition)
abbrev pub body_at : Text → ℕ → Option Body
body_at t place = find (λ (b : Body). nat_eq place (out-Body b).name.place)
    (filter_map body_in (parts_of t))

-- the block of an initialize part (ISO 9074, initialization-part)
abbrev pub first_block : FirstPart → Block
first_block f = (out-FirstPart f).block

-- the region of an initialize part, which is that of its block
abbrev pub first_region : FirstPart → ℕ
first_region f = (out-Block (first_block f)).place

-- the statements of an initialize part
abbrev pub first_statements : FirstPart → List Statement
first_statements f = (out-Block (first_block f)).statements

-- how the declaration of an interaction point says that its interactions are queued, if it does
abbrev pub queue_told : Text → ℕ → Option Queue
queue_told t place = option_and_then (λ (e : Entry). e.queue) (entry_at t.outline place)

-- how the interactions of an interaction point are queued: as its declaration says, else as the
-- specification's `default` says, else individually (ISO 9074, queue-discipline)
abbrev pub discipline : Text → ℕ → Queue
discipline t place = unwrap_or (option_or (queue_told t place) t.spec.queue) Individual
