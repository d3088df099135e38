-- Whether a routine is closed is what the whole outline says of its text.
use Rattle.std.specs.Prelude.{◌≡◌, ℕ, ◌≤◌}
use Rattle.est_syntax.specs.declared.body.Part.{Part, out-Part, Row_of-Part}
use Rattle.est_syntax.specs.declared.body.Part.{end_of-Part, more_of-Part}
use Rattle.est_syntax.specs.declared.body.Part.TheOpen as seen
use Rattle.est_syntax.specs.declared.body.Part.TheVariants as part
use Rattle.est_syntax.specs.declared.body.Block.{Block}
use Rattle.est_syntax.specs.declared.body.FirstPart.{FirstPart}
use Rattle.est_syntax.specs.declared.body.Body.{Body, Body'}
use Rattle.est_syntax.specs.declared.transition.Group.{Group}
use Rattle.est_syntax.specs.declared.transition.Transition.{Transition}
use Rattle.est_syntax.specs.declared.routine.Routine.{Routine, out-Routine}
use Rattle.est_syntax.specs.declared.specification.Spec.{Spec}
use Rattle.text_reader.specs.Shown.{node}
use Rattle.rule_scope.specs.Outline.{Outline}
use Rattle.rule_uses.specs.Closed.{is_closed}
use Rattle.rule_declares.specs.Bodies.{outline_of}
use Rattle.text_productions.specs.Nodes.{a_specification, layer}
use Rattle.law_places.specs.PlaceOrder.{Stands}
use Rattle.law_places.specs.Grown.{most_places}
use Rattle.law_places.specs.Said.{Each, IsSaid}

-- a part that is a routine is closed where the outline says so of its text
abbrev pub ClosedSaid : Outline → Part → Type 0
ClosedSaid o p = by (out-Part p)
  where
    by : seen.Part-F Part Block Body FirstPart Routine Group Transition → Type 0
    by (seen.Routine r) = IsSaid o (λ e. e.closed ≡ is_closed o r) (out-Routine r).name
    by _ = Unit {0}

-- so it is of the parts of bodies
abbrev mutual
  pub WithinClosed : Outline → Part → Type 0
  WithinClosed o (part.Body (Body' name header a parts f b groups)) = RowClosed o parts
  WithinClosed o _ = Unit {0}

  pub RowClosed : Outline → {n : _} → Row_of-Part n → Type 0
  RowClosed o end_of-Part = Unit {0}
  RowClosed o (more_of-Part p rest) = ClosedSaid o p × WithinClosed o p × RowClosed o rest

-- and of those of a specification that stands in order
abbrev pub RoutinesAreClosed : Type 0
RoutinesAreClosed = (s : Spec) (n : ℕ) → n ≤ most_places
    → Stands layer (node (a_specification s)) 0 n
    → Each (λ p. ClosedSaid (outline_of s) p × WithinClosed (outline_of s) p) s.parts
