-- The kinds of what stands at places (ISO 7185, 6.5.3 and 6.6.3.3).
use Rattle.std.specs.Prelude.{◌≡◌, ℕ, List, [], ◌∷◌, slice_get, Option, Some, None}
use Rattle.std.specs.Prelude.{option_and_then}
use Rattle.std.specs.Option.{option_map}
use Rattle.est_syntax.specs.declared.kind.Kind.{Kind, out-Kind}
use Rattle.est_syntax.specs.declared.kind.FieldKind.{FieldKind}
use Rattle.est_syntax.specs.declared.kind.Kind.TheOpen as seen
use Rattle.est_values.specs.FittingValues.{KindLayer}
use Rattle.rule_scope.specs.Outline.{Outline}
use Rattle.mean_blocks.specs.declared.frame.Place.{Place}
use Rattle.mean_blocks.specs.NamesInRuns.{kind_at}
use Rattle.law_values.specs.SameKinds.{AreSame}

-- the kind of the component that has a number
abbrev pub component_kind : ℕ → KindLayer → Option Kind
component_kind n (seen.ArrayOf index of) = Some of
component_kind n (seen.Fields fields) =
    option_map (λ (f : FieldKind). f.kind) (slice_get fields n)
component_kind n _ = None

-- the kind of the part at a path
abbrev pub kind_along : List ℕ → Kind → Option Kind
kind_along [] k = Some k
kind_along (n ∷ ns) k = option_and_then (kind_along ns) (component_kind n (out-Kind k))

-- At a place stands a variable, or a part of one, of a kind that the same values fit as this one.
pub record HasKind (o : Outline) (p : Place) (k : Kind) : Type 0 where
  pub whole : Kind
  pub declared : kind_at o p.declared ≡ Some whole
  pub part : Kind
  pub reached : kind_along p.path whole ≡ Some part
  pub same : AreSame part k
