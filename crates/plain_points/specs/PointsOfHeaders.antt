-- Interaction points that headers declare, as lists of them are made.
use Rattle.std.specs.Prelude.{◌≡◌, ℕ, ℤ, List, map, Some, length, take, slice_get, Bool, nat_eq}
use Rattle.std.specs.Prelude.{◌&&◌}
use Rattle.std.specs.Ordering.{int_eq}
use Rattle.std.specs.Cmp.Lexicographic.{pointwise}
use Rattle.std.specs.List.{flat_map, list_any}
use Rattle.est_syntax.specs.declared.kind.Kind.{Kind}
use Rattle.est_values.specs.OrdinalTuples.{ordinal_tuples}
use Rattle.plain_declared.specs.rule_scope.Outline.{Outline}
use Rattle.plain_declared.specs.mean_blocks.declared.situation.InteractionPoint.{InteractionPoint}
use Rattle.plain_declared.specs.mean_blocks.InstancePoints.{point, indices_of}

-- the interaction points of an instance that are declared at some places
abbrev pub points_at : Outline → ℕ → List ℕ → List InteractionPoint
points_at o n places = flat_map (λ p. map (point n p) (indices_of o p)) places

-- whether an interaction point is declared at a place, and its subscripts are among those there
abbrev pub is_at : Outline → InteractionPoint → ℕ → Bool
is_at o p d = nat_eq p.declared d && list_any (pointwise int_eq p.index) (indices_of o d)

-- So many tuples of ordinals of these kinds were listed, and this is the next one.
pub record AreListed (ks : List Kind) (tuples : List (List ℤ)) (tuple : List ℤ) : Type 0 where
  pub so_far : tuples ≡ take (length tuples) (ordinal_tuples ks)
  pub next : slice_get (ordinal_tuples ks) (length tuples) ≡ Some tuple
  pub long : length tuple ≡ length ks
